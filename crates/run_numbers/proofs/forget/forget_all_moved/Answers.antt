use Rattle.std.proofs.Common.{◌≡◌, ◌≢◌, ◌==◌, ◌∙◌, ap, subst, sym, arith, inl, inr}
use Rattle.std.proofs.lemmas.Bool.{cases_eq}
use Rattle.std.specs.Prelude.{slice_index}
use Rattle.bench_types.specs.declared.kernel_data.Settings.{Settings}
use Rattle.bench_model.specs.Control.{current}
use Rattle.run_numbers.proofs.forget.forget_all_moved.Goals as goal

pub loop-core-preserved : goal.loop-core-preserved
loop-core-preserved c =
    let place = c.loop-core.core in
    let before = c.loop-core.invariant in
    let made = c.forget_moved.ensures in
    let after = c.args.after.now.control in
    record {
      seen = λ core low. elim (cases_eq core place) [
        | inl here ↦ subst (λ core. slice_index c.forget_moved.new.row core ≡ current after core) (sym here) made.own
        | inr away ↦ made.others core away ∙ before.seen core (omega (arith, low, away))
      ];
      unseen = λ core past.
          let away : core ≢ place = λ same. absurd (omega (arith, past, same)) in
          made.others core away ∙ before.unseen core (omega (arith, past));
      known = λ task look known.
          let now = made.known task look known in
          let earlier = before.known task look now.0 in
          let here = ap (λ other. other == task) (sym (before.unseen place (omega arith))) ∙ now.1 in (
            earlier.0,
            λ core low. elim (cases_eq core place) [
              | inl is ↦ subst (λ core. (slice_index c.args.row.now core == task) ≡ (current after core == task)) (sym is) here
              | inr away ↦ earlier.1 core (omega (arith, low, away))
            ],
          );
    }

pub returns-clause-known : goal.returns-clause-known
returns-clause-known c task look known =
    let it = c.loop-core.invariant.known task look known in (
      it.0,
      λ core low. it.1 core (omega
          (arith, low, c.loop-core-test.false, ap (λ (settings : Settings). settings.cores) c.settings-core-end.ensures.settings)),
    )
