use Rattle.std.proofs.Common.{⊎_elim, All, List, subst, sym, ◌∙◌}
use Rattle.std.specs.Prelude.{Err, IfOk, Ok, Result}
use Rattle.bench_types.specs.Step.{IsCheckedStep}
use Rattle.bench_model.specs.Lists.{View}
use Rattle.segment_laws.specs.Segments.{AreResults}
use Rattle.segment_laws.proofs.ResultsLater.{results_later}
use Rattle.session_segments.proofs.segment.shown.Goals as goal

on_ok : {T E : Type 0} {P Q : T → Type 0} (result : Result T E) → ((value : T) → P value → Q value) → IfOk result P → IfOk result Q
on_ok (Ok value) more holds = more value holds
on_ok (Err why) more holds = holds

pub returns-clause-kept : goal.returns-clause-kept
returns-clause-kept c =
    let next = c.in_ok-next.next in
    let steps = c.args.steps.now in
    let stands = c.in_ok-next.ensures.stands in
    let checked = subst (λ settings. All (IsCheckedStep settings) steps) (sym c.in_ok-next.ensures.settings) c.requires.steps in
    on_ok c.of.result (λ kept fits. (
      ⊎_elim
          (λ same. subst (λ (view : View). AreResults view steps kept.replies.items kept.currents.items kept.tallies) same fits.0)
          (λ later. subst (λ (view : View). AreResults view steps kept.replies.items kept.currents.items kept.tallies) (sym later.1)
          (results_later later.0 next steps stands.0 kept.replies.items kept.currents.items kept.tallies stands.1 checked (sym c.requires.delaying ∙ later.2)
          fits.0))
          c.in_ok-next.ensures.alike,
      fits.1,
    )) c.of.ensures.kept
