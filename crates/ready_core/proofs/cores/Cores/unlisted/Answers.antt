use Rattle.bench_types.proofs.Passes.{checked_header}
use Rattle.std.proofs.Common.{◌+◌, length}
use Rattle.std.proofs.lemmas.List.FromFn.{length-map-range_with_len}
use Rattle.ready_core.specs.Fields.{first_seat}
use Rattle.ready_core.proofs.Firsts.{first_shape, seen_first}
use Rattle.ready_core.proofs.Flags.{first_flags}
use Rattle.ready_core.proofs.Marks.{first_marks}
use Rattle.bench_types.proofs.Masks.{all_bits}
use Rattle.ready_core.proofs.cores.Cores.unlisted.Goals as goal

pub invariant_of-result : goal.invariant_of-result
invariant_of-result c =
    rw (
      c.in_ok-first_looks.ensures,
      c.in_ok-first_controls.ensures,
      c.in_ok-new.ensures,
      c.in_ok-first_seats.ensures,
      c.in_ok-none_wanting.ensures,
      c.as_slice.ensures,
      c.cores_of_mask.ensures,
      all_bits c.args.header.now.config.cores (checked_header c.args.header.now c.requires).few_cores,
    )
    (record {
      shape = first_shape c.args.header.now (checked_header c.args.header.now c.requires);
      flags = first_flags _ _ _ (length-map-range_with_len (first_seat c.args.header.now.config.cores) 0
          (c.args.header.now.config.cores + length c.args.header.now.tasks));
      marks = first_marks c.args.header.now.config.cores (checked_header c.args.header.now c.requires).few_cores;
    })

pub returns : goal.returns
returns c = rw (c.in_ok-first_looks.ensures, c.in_ok-first_controls.ensures, c.in_ok-new.ensures) (seen_first c.args.header.now)
