-- The run as its steps lead to it.
use Rattle.std.proofs.Common.{◌≡◌, ◌≤◌, List, [], ◌∷◌, ◌++◌, length, Some, None, refl, arith}
use Rattle.std.specs.Prelude.{filter_map}
use Rattle.std.proofs.lemmas.List.{length-append}
use Rattle.std.proofs.lemmas.List.Sums.{fold-append}
use Rattle.bench_types.specs.declared.step.Step.{Step}
use Rattle.bench_types.specs.Limits.{max_steps}
use Rattle.bench_types.specs.Session.{Session}
use Rattle.settled_runs.specs.declared.waiting_call.WaitingCall.{WaitingCall}
use Rattle.kept_runs.specs.declared.call_order.CallOrder.{CallOrder}
use Rattle.kept_edits.specs.declared.edit.KeptEdit.{KeptEdit}
use Rattle.kept_runs.specs.Items.{edited_items, edited_session}
use Rattle.kept_runs.specs.Rule.{Progress, after, after_steps, as_waiting, first_progress, next_step, AreNext, IsRunFrom}
use Rattle.kept_runs.specs.Works.{outside_steps, unmade_calls}
use Rattle.kept_runs.proofs.Endings.{beginnings_are_shorter}
use Rattle.keeping.specs.Progress.{progress_at_start, IsKeptTooLong}

pub are_more : (made : List Step) (now : Progress) (step : Step) → AreNext now made → next_step (after_steps now made) ≡ Some step
    → AreNext now (made ++ step ∷ [])
are_more [] now step next is = (is, tt)
are_more (first ∷ made) now step next is = (next.0, are_more made (after first now) step next.1 is)

pub run_ends : (made : List Step) (now : Progress) (left : List WaitingCall) → AreNext now made → next_step (after_steps now made) ≡ None
    → filter_map as_waiting (after_steps now made).unmade ≡ left → IsRunFrom now made left
run_ends [] now left next none rest = (none, rest)
run_ends (first ∷ made) now left next none rest = (next.0, run_ends made (after first now) left next.1 none rest)

pub after_more : (now : Progress) (made : List Step) (step : Step) → after_steps now (made ++ step ∷ []) ≡ after step (after_steps now made)
after_more now made step = fold-append (λ now step. after step now) now made (step ∷ [])

-- where the steps fill a session the run is too long
pub too_long : (made : List Step) (now : Progress) (step : Step) → AreNext now made → next_step (after_steps now made) ≡ Some step
    → max_steps ≤ length made → IsKeptTooLong now
too_long made now step next is long run left run_is =
    let more = beginnings_are_shorter now (made ++ step ∷ []) run left (are_more made now step next is) run_is in
    omega (arith, more, long, length-append made (step ∷ []))

-- the run that keeps work of an edited session begins so
pub first_is : (order : CallOrder) (session : Session) (edits : List KeptEdit) (settled : List Step)
    → first_progress order session edits settled
    ≡ progress_at_start order (edited_session session edits).header (unmade_calls session settled (edited_items session edits))
    (outside_steps session settled (edited_items session edits))
unfolding first_progress progress_at_start
first_is order session edits settled = refl
