-- Which task is found at its end.
use Rattle.std.proofs.Common.{◌≡◌, ℕ, ◌<◌, Bool, true, false, cond, ◌&&◌, List, [], ◌∷◌, length, Option, Some, None, refl, sym, ap, ◌∙◌, arith}
use Rattle.std.specs.Prelude.{is_none, option_and_then, option_map, slice_index}
use Rattle.std.specs.List.{find, range_with_len}
use Rattle.std.specs.Option.{option_or}
use Rattle.std.proofs.lemmas.Bool.Decides.{nat_tests}
use Rattle.bench_types.specs.declared.step.Call.TheVariants.{Yield}
use Rattle.bench_types.specs.declared.step.Step.TheVariants as steps
use Rattle.bench_model.specs.Control.{current}
use Rattle.bench_model.specs.Sound.{IsSound}
use Rattle.bench_model.specs.Table.{Table}
use Rattle.settled_runs.specs.Settled.{core_running, is_timely}
use Rattle.settled_runs.proofs.Rests.{running_below}
use Rattle.settled_runs.proofs.Timely.{timely_runs}
use Rattle.kept_runs.specs.declared.works.Unmade.{Unmade}
use Rattle.kept_runs.specs.Known.{is_due_end}
use Rattle.kept_runs.specs.Rule.{Progress, can_call, firsts, has_worked, is_before_time}
use Rattle.keeping.specs.declared.works.Works.{Works}
use Rattle.keeping.specs.Queues.{call_at}
use Rattle.keeping.specs.Works.{can_call_on, clock_at, end_on, is_worked_for, AreFit, HoldsWorks}
use Rattle.keeping.proofs.Dues.{at_head, by_index, callers, first_some, first_there, runs_there, search_found, worked_as, IsSearched}
use Rattle.keeping.proofs.Rows.{is_first}

-- what comes of the first that passes
find_as : {X Y : Type 0} (g : X → Y) (p : X → Bool) (xs : List X) → option_map g (find p xs) ≡ first_some (λ x. cond (p x) (Some (g x)) None) xs
find_as g p [] = refl
find_as {X} {Y} g p (x ∷ xs) = at (p x) (find_as g p xs)
  where
    at : (b : Bool) → option_map g (find p xs) ≡ first_some (λ x. cond (p x) (Some (g x)) None) xs
        → option_map g (cond b (Some x) (find p xs)) ≡ option_or (cond b (Some (g x)) None) (first_some (λ x. cond (p x) (Some (g x)) None) xs)
    at true rest = refl
    at false rest = rest

module _ (works : Works) (now : Progress) (sound : IsSound now.table) (fit : AreFit now.table.settings works) (holds : HoldsWorks works now) (timed : Bool)
    (timely : timed ≡ is_before_time now) where
  abbrev heads : List ℕ
  heads = works.queues.heads.items

  abbrev calls : List Unmade
  calls = works.calls.items

  abbrev table : Table
  table = now.table

  abbrev end_of : Unmade → Option ℕ
  end_of one = cond (is_due_end now one) (Some one.task) None

  abbrev end_at : ℕ → Option ℕ
  end_at index = cond (is_first heads calls index) (end_of (call_at calls index)) None

  first_is : option_map (λ (one : Unmade). one.task) (find (is_due_end now) (firsts now.unmade)) ≡ first_some end_at (range_with_len 0 (length calls))
  first_is = find_as (λ (one : Unmade). one.task) (is_due_end now) (firsts now.unmade) ∙ by_index works now sound fit holds timed timely end_of

  end_is : (core : ℕ) → core < table.settings.cores → slice_index heads (current table.control core) < length calls
      → end_on table works timed core ≡ end_at (slice_index heads (current table.control core))
  end_is core below some =
      let one = call_at calls (slice_index heads (current table.control core)) in
      let own = at_head works now sound fit holds timed timely core below some in
      let runs = runs_there works now sound fit holds timed timely core below some in
      let low = callers works now sound fit holds timed timely (slice_index heads (current table.control core)) some in
      let worked = worked_as works now sound fit holds timed timely one low in
      ap (option_and_then
      (λ (one : Unmade). cond (is_none one.call && (is_worked_for (clock_at works.worked.items one.task) timed one && can_call_on table core one.task))
      (Some one.task) None))
      (first_there works now sound fit holds timed timely core below some)
      ∙ (λ i. cond (is_none one.call && (worked i && is_timely table (steps.Call (sym runs i) one.task Yield))) (Some one.task) None)
      ∙ ap (λ b. cond b (end_of one) None) (sym own)

  end_parts : (index task : ℕ) → end_at index ≡ Some task → (is_first heads calls index ≡ true) × (can_call table (call_at calls index) ≡ true)
  end_parts index task found =
      at (is_first heads calls index) refl (is_none (call_at calls index).call) (has_worked now (call_at calls index)) (can_call table (call_at calls index)) refl
      found
    where
      at : (first_one : Bool) → is_first heads calls index ≡ first_one → (none worked can : Bool) → can_call table (call_at calls index) ≡ can
          → cond first_one (cond (none && (worked && can)) (Some (call_at calls index).task) None) None ≡ Some task
          → (is_first heads calls index ≡ true) × (can_call table (call_at calls index) ≡ true)
      at false other none worked can is found = absurd (cc found)
      at true own false worked can is found = absurd (cc found)
      at true own true false can is found = absurd (cc found)
      at true own true true false is found = absurd (cc found)
      at true own true true true is found = (own, is)

  -- an end that is due is at the head of some core's task
  end_owned : (index task : ℕ) → index < length calls → end_at index ≡ Some task
      → (core : ℕ) × (core < table.settings.cores) × (slice_index heads (current table.control core) ≡ index)
  end_owned index task low found =
      let parts = end_parts index task found in
      let core = core_running table (call_at calls index).task in
      let test = timely_runs table core (call_at calls index).task Yield refl parts.1 in
      let runs : current table.control core ≡ (call_at calls index).task = grind (arith, nat_tests, test) in
      let own = parts.0 in
      let head : slice_index heads (call_at calls index).task ≡ index = grind (arith, nat_tests, own) in
      (core, running_below table (call_at calls index).task sound, ap (slice_index heads) runs ∙ head)

  pub end_found : (cores first : ℕ) (found : Option ℕ) → cores ≡ table.settings.cores
      → IsSearched table works (end_on table works timed) cores first found
      → found ≡ option_map (λ (one : Unmade). one.task) (find (is_due_end now) (firsts now.unmade))
  end_found cores first found all searched =
      search_found table works (end_on table works timed) end_at (λ core below some. end_is core below some) end_owned cores first found all searched
      ∙ sym first_is
