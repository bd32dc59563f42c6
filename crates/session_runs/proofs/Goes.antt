-- A run, step by step.
use Rattle.std.proofs.Common.{◌≡◌, ℕ, suc, ◌+◌, ◌-◌, ◌^◌, ◌<◌, ◌≤◌, List, [], ◌∷◌, ◌++◌, length, length-append, map, refl, sym, ap, subst, ◌∙◌, arith}
use Rattle.std.specs.List.{fold}
use Rattle.std.proofs.lemmas.List.{map-append}
use Rattle.std.proofs.lemmas.List.Elements.{All-push}
use Rattle.bench_types.specs.declared.header.Header.{Header}
use Rattle.bench_types.specs.declared.kernel_data.Settings.{Settings}
use Rattle.bench_types.specs.declared.reply.Reply.{Reply}
use Rattle.bench_types.specs.declared.step.Step.{Step}
use Rattle.bench_types.specs.Header.{IsCheckedHeader}
use Rattle.bench_types.specs.Limits.{max_steps}
use Rattle.bench_types.specs.Session.{IsCheckedSession, Session}
use Rattle.bench_types.specs.Step.{core_of, settings_of, IsCheckedStep}
use Rattle.bench_model.specs.Control.{current, running}
use Rattle.bench_model.specs.Equal.{StandsFor}
use Rattle.bench_model.specs.Lists.{View, list_queues}
use Rattle.bench_model.specs.Session.{step_of, state_after, run_results}
use Rattle.bench_model.specs.Start.{start}
use Rattle.bench_model.specs.Table.{Table, stamp_queues}
use Rattle.bench_model.specs.Tally.{TaskTally}
use Rattle.bench_model.specs.Tallied.{first_tallies, tallied, moment_of, tallied_after, part_tallies, shape, shape_of, AllCountsBelow}
use Rattle.list_orders.proofs.Filters.{fold-append}
use Rattle.meeting_laws.proofs.Runs.{results_follow}
use Rattle.segment_laws.specs.Segments.{currents_after}
use Rattle.session_laws.specs.TallyLaws.{seen_moment}
use Rattle.session_laws.proofs.Shapes.{tallied_shape}
use Rattle.session_laws.proofs.Tallies.{part_few, tallied_seen}
use Rattle.tallies.proofs.Rooms.{wider_room}
use Rattle.tallies.proofs.TickLoop.{shape_length}
use Rattle.tallies.specs.Tops.{HasTops}
use Rattle.session_runs.specs.declared.outcomes.Outcome.{Outcome}
use Rattle.session_runs.specs.declared.outcomes.Outcomes.{Outcomes}
use Rattle.session_runs.specs.Made.{current_in, reply_in, IsMade}

abbrev pub first_of : Reply × List ℕ → Reply
first_of outcome = outcome.0

abbrev pub session_of : Header → List Step → Session
session_of header steps = record { header = header; steps = steps }

pub state_push : (table : Table) (steps : List Step) (step : Step) → state_after table (steps ++ step ∷ []) ≡ (step_of step (state_after table steps)).1
state_push table steps step = let go = λ (table : Table) (step : Step). (step_of step table).1 in fold-append go table steps (step ∷ [])

-- what steps leave their cores with, and what the steps after them do
currents_follow : (steps more : List Step) (table : Table) → currents_after table (steps ++ more) ≡ currents_after table steps ++ currents_after
    (state_after table steps) more
currents_follow [] more table = refl
currents_follow (step ∷ steps) more table = let next = (step_of step table).1 in ap (λ tasks. current next.control (core_of step) ∷ tasks)
    (currents_follow steps more next)

-- one step more at the end is counted last
tallied_push : (table : Table) (steps : List Step) (step : Step) (old : List TaskTally)
    → tallied_after table (steps ++ step ∷ []) old ≡ tallied stamp_queues (moment_of (state_after table steps) step) (tallied_after table steps old)
tallied_push table [] step old = refl
tallied_push table (first ∷ steps) step old = tallied_push (step_of first table).1 steps step (tallied stamp_queues (moment_of table first) old)

-- before the first step
pub began : (header : Header) (kernel : View) (outcomes : Outcomes) → StandsFor kernel (start header) → kernel.settings ≡ settings_of header
    → outcomes.first.items ≡ running kernel.control → outcomes.each.items ≡ []
    → outcomes.tallies ≡ first_tallies kernel.settings kernel.control → shape outcomes.tallies ≡ shape_of kernel.settings
    → HasTops kernel.control outcomes.tallies → IsMade header [] kernel outcomes
began header kernel outcomes stands settings first each tallies sizes tops = record {
  outcomes_are = record {
    sound = stands.sound;
    first = first ∙ sym (ap (λ (v : View). running v.control) stands.shows);
    replayed = record {
      replies_are = ap (map reply_in) each;
      currents_are = ap (map current_in) each;
      tallies_are = tallies ∙ ap (λ (s : Settings). first_tallies s kernel.control) settings
          ∙ ap (λ (v : View). first_tallies (settings_of header) v.control) (sym stands.shows);
    };
  };
  stands = stands;
  settings = settings;
  sizes = sizes ∙ ap shape_of settings;
  tops = tops;
}

module _ (header : Header) (steps : List Step) (kernel : View) (old : Outcomes) (made : IsMade header steps kernel old) where
  -- no count of few steps is near the end of its numbers
  pub made_room : length steps < max_steps → AllCountsBelow (2 ^ 32 - 1) old.tallies
  made_room few =
      let bound : suc (length steps) ≤ 2 ^ 32 - 1 = omega (arith, few) in
      wider_room old.tallies bound
      (subst (AllCountsBelow (suc (length steps))) (sym made.outcomes_are.replayed.tallies_are) (part_few (settings_of header) (start header) steps))

  pub some_core : 0 < kernel.settings.cores
  some_core =
      let sized = made.stands.sound.consistent.sized in
      omega (arith, sized.some_core, ap (λ (v : View). v.settings.cores) made.stands.shows)

  module _ (step : Step) (next : View) (reply : Reply) (task : ℕ) (new : Outcomes)
      (replied : reply ≡ (step_of step (state_after (start header) steps)).0)
      (later : StandsFor next (step_of step (state_after (start header) steps)).1)
      (counted : new.tallies ≡ tallied list_queues (record { before = kernel; step = step; reply = reply; after = next }) old.tallies)
      (runs_there : task ≡ current next.control (core_of step))
      (pushed : new.each.items ≡ old.each.items ++ record { reply = reply; current = task } ∷ []) where
    replies_go : map reply_in new.each.items ≡ map first_of (run_results (start header) (steps ++ step ∷ []))
    replies_go =
        let before = state_after (start header) steps in
        let done = run_results (start header) steps in
        let last = run_results before (step ∷ []) in
        ap (map reply_in) pushed ∙ map-append reply_in old.each.items (record { reply = reply; current = task } ∷ [])
        ∙ ap (λ rs. rs ++ reply ∷ []) made.outcomes_are.replayed.replies_are ∙ ap (λ r. map first_of done ++ r ∷ []) replied
        ∙ sym (map-append first_of done last) ∙ ap (map first_of) (sym (results_follow (start header) steps (step ∷ [])))

    currents_go : map current_in new.each.items ≡ currents_after (start header) (steps ++ step ∷ [])
    currents_go =
        let before = state_after (start header) steps in
        let seen : task ≡ current (step_of step before).1.control (core_of step) = runs_there ∙ sym
        (ap (λ (v : View). current v.control (core_of step)) later.shows) in
        ap (map current_in) pushed ∙ map-append current_in old.each.items (record { reply = reply; current = task } ∷ [])
        ∙ ap (λ ts. ts ++ task ∷ []) made.outcomes_are.replayed.currents_are ∙ ap (λ t. currents_after (start header) steps ++ t ∷ []) seen
        ∙ sym (currents_follow steps (step ∷ []) (start header))

    tallies_go : new.tallies ≡ part_tallies (settings_of header) (start header) (steps ++ step ∷ [])
    tallies_go =
        let before = state_after (start header) steps in
        let moment = moment_of before step in
        let shown : seen_moment moment ≡ record { before = kernel; step = step; reply = reply; after = next } = cc
        (made.stands.shows, sym replied, later.shows) in
        let few : length old.tallies ≤ before.settings.tasks = omega (
          arith,
          shape_length old.tallies (settings_of header) made.sizes,
          ap (λ (s : Settings). s.tasks) made.settings,
          ap (λ (v : View). v.settings.tasks) made.stands.shows,
        ) in
        counted ∙ ap (λ m. tallied list_queues m old.tallies) (sym shown) ∙ sym (tallied_seen moment old.tallies made.stands.sound.consistent few)
        ∙ ap (tallied stamp_queues moment) made.outcomes_are.replayed.tallies_are
        ∙ sym (tallied_push (start header) steps step (first_tallies (settings_of header) (start header).control))

    -- one step more was made
    pub goes : next.settings ≡ kernel.settings → new.first.items ≡ old.first.items → HasTops next.control new.tallies
        → IsMade header (steps ++ step ∷ []) next new
    goes settings first tops = record {
      outcomes_are = record {
        sound = made.outcomes_are.sound;
        first = first ∙ made.outcomes_are.first;
        replayed = record { replies_are = replies_go; currents_are = currents_go; tallies_are = tallies_go };
      };
      stands = subst (λ t. StandsFor next t) (sym (state_push (start header) steps step)) later;
      settings = settings ∙ made.settings;
      sizes = ap shape counted ∙ tallied_shape list_queues (record { before = kernel; step = step; reply = reply; after = next }) old.tallies ∙ made.sizes;
      tops = tops;
    }

-- outcomes with the same parts
pub same_made : (header : Header) (steps : List Step) (kernel : View) (old new : Outcomes) → new.first.items ≡ old.first.items → new.each.items ≡ old.each.items
    → new.tallies ≡ old.tallies → IsMade header steps kernel old → IsMade header steps kernel new
same_made header steps kernel old new first each tallies made = record {
  outcomes_are = record {
    sound = made.outcomes_are.sound;
    first = first ∙ made.outcomes_are.first;
    replayed = record {
      replies_are = ap (map reply_in) each ∙ made.outcomes_are.replayed.replies_are;
      currents_are = ap (map current_in) each ∙ made.outcomes_are.replayed.currents_are;
      tallies_are = tallies ∙ made.outcomes_are.replayed.tallies_are;
    };
  };
  stands = made.stands;
  settings = made.settings;
  sizes = ap shape tallies ∙ made.sizes;
  tops = subst (HasTops kernel.control) (sym tallies) made.tops;
}

-- a session without steps
pub none_checked : (header : Header) → IsCheckedHeader header → IsCheckedSession (record { header = header; steps = [] })
none_checked header checked = record {
  checked = record { header = checked; steps = λ place step early. absurd (omega (arith, early)) };
  few = omega arith;
}

-- a session with a step more
pub push_checked : (header : Header) (steps : List Step) (step : Step) → length steps < max_steps → IsCheckedStep (settings_of header) step
    → IsCheckedSession (record { header = header; steps = steps }) → IsCheckedSession (record { header = header; steps = steps ++ step ∷ [] })
push_checked header steps step few next is = record {
  checked = record {
    header = is.checked.header;
    steps = All-push (IsCheckedStep (settings_of header)) steps step is.checked.steps next;
  };
  few = omega (arith, length-append steps (step ∷ []), few);
}
