use Rattle.std.proofs.Common.{◌≡◌, ◌∙◌, Ok, sym, ap, rules}
use Rattle.bench_model.specs.Lists.{View}
use Rattle.bench_types.specs.Header.{header_check}
use Rattle.bench_model.specs.Start.{start}
use Rattle.step_laws.proofs.Starts.{start_sound, start_seen_lem}
use Rattle.smp_kernel.proofs.Firsts.{start_settings}
use Rattle.smp_kernel.proofs.kernel.Kernel.start.Goals as goal

pub invariant_of-result : goal.invariant_of-result
invariant_of-result c =
    let passes : header_check c.args.header.now ≡ Ok tt = search rules in (
      start c.args.header.now,
      record {
        sound = start_sound c.args.header.now passes;
        shows = start_seen_lem c.args.header.now passes ∙ sym
            c.in_ok-scheduler.ensures;
      },
    )

pub returns-clause-started : goal.returns-clause-started
returns-clause-started c =
    let passes : header_check c.args.header.now ≡ Ok tt = search rules in
    record { sound = start_sound c.args.header.now passes; shows = start_seen_lem c.args.header.now passes ∙ sym c.in_ok-scheduler.ensures }

pub returns-clause-shape : goal.returns-clause-shape
returns-clause-shape c = ap (λ (view : View). view.settings) c.in_ok-scheduler.ensures ∙ start_settings c.args.header.now
