-- Without edits the run that keeps work is the settled run.
use Rattle.std.proofs.Common.{◌≡◌, ℕ, zero, suc, Bool, true, false, cond, List, [], ◌∷◌, ◌++◌, length, take, Some, None, refl, sym, ap, subst, ◌∙◌}
use Rattle.std.specs.Prelude.{All, filter_map, fold, option_and_then, option_map, slice_get}
use Rattle.std.specs.List.{AllByRecursion}
use Rattle.bench_types.specs.declared.step.Step.{Step}
use Rattle.bench_types.specs.declared.step.Step.TheVariants as steps
use Rattle.bench_types.specs.Session.{Session, IsSession}
use Rattle.bench_types.specs.Step.{IsCheckedStep}
use Rattle.step_laws.proofs.Along.{start_settings}
use Rattle.settled_runs.specs.declared.waiting_call.WaitingCall.{WaitingCall}
use Rattle.settled_runs.specs.Settled.{events_of, is_finish, IsSettled}
use Rattle.settled_runs.proofs.Pieces.{each_map}
use Rattle.settled_runs.proofs.Rests.{settled_run_is_session, start_good}
use Rattle.settled_runs.proofs.Settlings.{events_are, Begins}
use Rattle.kept_runs.specs.declared.call_order.CallOrder.TheVariants.{Oldest}
use Rattle.kept_runs.specs.declared.known_limit.KnownLimit.{KnownLimit}
use Rattle.kept_runs.specs.declared.known_limit.LimitReason.TheVariants.{End}
use Rattle.kept_runs.specs.Clocks.{Clocks, zero_clock}
use Rattle.kept_runs.specs.Items.{Item, edited_items, items_from, passes_at}
use Rattle.kept_runs.specs.KeptLaws.{UneditedRunIsKnown, UneditedRunIsSettled}
use Rattle.kept_runs.specs.Known.{answer_limit, earlier, end_limit, known_until, limits, task_at_end}
use Rattle.kept_runs.specs.Rule.{Progress, after, after_steps, first_progress, progress_at, IsKept}
use Rattle.kept_runs.proofs.Runs.{kept_run_is_one}
use Rattle.list_orders.specs.Search.{numbers}
use Rattle.settled_runs.specs.SettleLaws.{comes_from_outside}
use Rattle.kept_runs.specs.Works.{Placed, anchor_clocks, outside_steps, placed_call, placed_calls, placed_item, unmade_calls, user_tasks, works_from}
use Rattle.kept_runs.proofs.Agreeing.{Agrees}
use Rattle.kept_runs.proofs.Answering.{all_none, no_answer}
use Rattle.kept_runs.proofs.Elapsing.{elapsed_none, up_to_itself}
use Rattle.kept_runs.proofs.Firsts.{all_mapped}
use Rattle.kept_runs.proofs.Following.{settled_kept, IsKnownFrom, IsKnownRun}
use Rattle.kept_runs.proofs.Listed.{each_item, first_good, placed_begun, PlacedBegun}
use Rattle.kept_runs.proofs.OutsideStarts.{outside_at_start}
use Rattle.kept_runs.proofs.Placings.{waits_of, IsUnchanged}
use Rattle.kept_runs.proofs.Starts.{count_of, end_clocks, places_at_start, waits_from}

-- ---- no work is changed

abbrev IsUnworked : Item → Type 0
IsUnworked item = item.changes ≡ []

unworked_from : (document : List Step) (index : ℕ) → AllByRecursion IsUnworked (items_from index document)
unworked_from [] index = tt
unworked_from (step ∷ document) index = (refl, unworked_from document (suc index))

placed_unchanged : (clocks : ℕ → Clocks) (item : Item) (placed : Placed) → IsUnworked item → placed_item clocks item ≡ Some placed → IsUnchanged placed
placed_unchanged clocks item placed none is = at item.step is
  where
    at : (step : Step) → placed_call clocks item.anchor item.changes step ≡ Some placed → IsUnchanged placed
    at (steps.Call core task call) is = which (is_finish call) is
      where
        which : (b : Bool)
            → cond b None (Some (record { task = task; call = call; clock = clocks item.anchor task; changes = item.changes })) ≡ Some placed
            → IsUnchanged placed
        which true is = absurd (cc is)
        which false is =
            let same : record { task = task; call = call; clock = clocks item.anchor task; changes = item.changes } ≡ placed = cc is in
            subst IsUnchanged same none
    at step is = absurd (cc is)

-- ---- the start

agrees_at_start : (session : Session) (run : List Step) (left : List WaitingCall) → IsSession session
    → IsSettled session.header session.steps run left
    → Agrees (user_tasks session.header) [] (events_of session.steps) run (first_progress Oldest session [] run)
unfolding first_progress unmade_calls outside_steps edited_items
agrees_at_start session run left is settled =
    let items = items_from 0 session.steps in
    let clocks = anchor_clocks session run in
    record {
      clocks = λ task. zero_clock;
      last = λ task. zero_clock;
      placed = placed_calls clocks items;
      oldest = λ i. Oldest;
      sound = (start_good session is).sound;
      checked = subst (λ settings. All (IsCheckedStep settings) run) (sym (start_settings session.header))
          (settled_run_is_session session is run left settled).steps;
      begins = each_map waits_of Begins (placed_calls clocks items)
          (all_mapped (placed_item clocks) (λ (item : Item). Unit {0}) PlacedBegun (placed_begun clocks) items (each_item items));
      unchanged = all_mapped (placed_item clocks) IsUnworked IsUnchanged (placed_unchanged clocks) items (unworked_from session.steps 0);
      begun = (first_good Oldest session [] run).begun;
      unmade = ap (λ ends. works_from ends (λ task. zero_clock) (user_tasks session.header) (placed_calls clocks items)) (end_clocks session run left settled);
      worked = λ task. sym (elapsed_none zero_clock);
      order = λ task. up_to_itself zero_clock;
      calls = waits_from clocks session.steps 0;
      counts = count_of session run left settled;
      places = places_at_start session run left settled;
      outside = outside_at_start session run left settled;
    }

module _ (session : Session) (run : List Step) (left : List WaitingCall) (is : IsSession session)
    (settled : IsSettled session.header session.steps run left) where
  known_there : IsKnownRun (first_progress Oldest session [] run) run left
  unfolding first_progress
  known_there =
      settled_kept (user_tasks session.header) (events_of session.steps) (first_progress Oldest session [] run) [] run left (events_are session.steps) settled
      (agrees_at_start session run left is settled)

  kept_there : IsKept Oldest session [] run left
  kept_there = record { settled = run; waiting = left; is_settled = settled; is_run = known_there.0 }

pub unedited_run_is_settled : UneditedRunIsSettled
unedited_run_is_settled session run left is settled = kept_there session run left is settled

-- ---- all is known

no_end : (f : ℕ → KnownLimit) (run : List Step) (now : Progress) (place : ℕ) → IsKnownFrom now run
    → cond (passes_at comes_from_outside run place) (option_map f (task_at_end (after_steps now (take place run)))) None ≡ None
no_end f [] now zero known = refl
no_end f [] now (suc place) known = refl
no_end f (step ∷ run) now zero known = at (comes_from_outside step) refl
  where
    at : (b : Bool) → comes_from_outside step ≡ b → cond b (option_map f (task_at_end now)) None ≡ None
    at true comes = ap (option_map f) (known.0 comes)
    at false inside = refl
no_end f (step ∷ run) now (suc place) known = no_end f run (after step now) place known.1

pub unedited_run_is_known : UneditedRunIsKnown
unfolding known_until progress_at
unedited_run_is_known session run left is kept =
    let settled = kept_there session kept.settled kept.waiting is kept.is_settled in
    let same = (kept_run_is_one Oldest session [] kept.settled run kept.waiting left settled kept).0 in
    let known = (known_there session kept.settled kept.waiting is kept.is_settled).1 in
    let now = first_progress Oldest session [] kept.settled in
    ap (fold earlier None) (limits_are session kept.settled run same (subst (IsKnownFrom now) same known))
  where
    limits_are : (session : Session) (settled run : List Step) → settled ≡ run → IsKnownFrom (first_progress Oldest session [] settled) run
        → limits Oldest session [] settled run ≡ []
    limits_are session settled run same known =
        ap (λ answers. answers ++ filter_map
        (λ place. end_limit run place (progress_at Oldest session [] settled run place)) (numbers (length run)))
        (all_none (λ place. option_and_then (answer_limit session [] settled run place) (slice_get run place)) (numbers (length run))
        (λ place. subst (λ run. option_and_then (answer_limit session [] settled run place) (slice_get run place) ≡ None) same
        (no_answer session settled place)))
        ∙ all_none (λ place. end_limit run place (progress_at Oldest session [] settled run place)) (numbers (length run))
        (λ place. no_end (λ task. record { place = place; task = task; reason = End }) run (first_progress Oldest session [] settled) place known)
