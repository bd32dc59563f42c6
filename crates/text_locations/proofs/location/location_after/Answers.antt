use Rattle.std.proofs.Common.{ap, take, arith}
use Rattle.std.specs.Prelude.{not}
use Rattle.std.proofs.lemmas.List.{length-take}
use Rattle.std.proofs.lemmas.List.Sums.{suffix_len-le-length}
use Rattle.text_locations.specs.declared.location.TextLocation.{TextLocation}
use Rattle.text_locations.specs.Location.{is_line_feed}
use Rattle.text_locations.proofs.location.location_after.Goals as goal

pub overflow_add-location-else-byte-eq10 : goal.overflow_add-location-else-byte-eq10
overflow_add-location-else-byte-eq10 c =
    let before = take c.loop-byte.byte-index c.args.before.now in
    omega (
      arith,
      ap (λ (p : TextLocation). p.column) c.loop-byte.invariant,
      suffix_len-le-length (λ b. not (is_line_feed b)) before,
      length-take
          c.loop-byte.byte-index c.args.before.now,
    )
