-- Lists of steps from equal states: equal replies, running tasks, tallies and states.
use Rattle.std.proofs.Common.{◌≡◌, ℕ, ◌≤◌, List, [], ◌∷◌, ◌++◌, length, take, refl, sym, ap, ap₂, subst, ◌∙◌, arith}
use Rattle.std.specs.Prelude.{All, fold}
use Rattle.std.proofs.lemmas.List.Sums.{fold-append}
use Rattle.std.proofs.lemmas.List.Elements.{All-head, All-tail, All-take}
use Rattle.bench_types.specs.declared.kernel_data.Settings.{Settings}
use Rattle.bench_types.specs.declared.reply.Reply.{Reply}
use Rattle.bench_types.specs.declared.step.Step.{Step}
use Rattle.bench_types.specs.Step.{IsCheckedStep}
use Rattle.bench_model.specs.Control.{Control, running}
use Rattle.bench_model.specs.Equal.{Same}
use Rattle.bench_model.specs.Lists.{View, list_queues}
use Rattle.bench_model.specs.Session.{step_of, state_after, run_results}
use Rattle.bench_model.specs.Sound.{IsSound}
use Rattle.bench_model.specs.Table.{Table, stamp_queues}
use Rattle.bench_model.specs.Tallied.{tallied, moment_of, tallied_after, first_tallies, first_tally, part_tallies, added}
use Rattle.bench_model.specs.Tally.{TaskTally}
use Rattle.session_laws.proofs.Tallies.{tallied_seen, length_each, parts_added}
use Rattle.step_laws.proofs.Along.{settings_after, checked_rest}
use Rattle.step_laws.proofs.Steps.{after_sound, equal_after}
use Rattle.meeting_laws.specs.RunLaws.{RunAlike, tallies_in_turn}

-- ---- one step

-- sound tables of which the same can be seen
pub record AreAlike (a b : Table) : Type 0 where
  pub first : IsSound a
  pub second : IsSound b
  pub same : Same a b

alike_settings : (a b : Table) → Same a b → a.settings ≡ b.settings
alike_settings a b same = ap (λ (view : View). view.settings) same

alike_control : (a b : Table) → Same a b → a.control ≡ b.control
alike_control a b same = ap (λ (view : View). view.control) same

alike_after : (a b : Table) (step : Step) → AreAlike a b → IsCheckedStep a.settings step → AreAlike (step_of step a).1 (step_of step b).1
alike_after a b step alike checked =
    let other = subst (λ settings. IsCheckedStep settings step) (alike_settings a b alike.same) checked in
    record {
      first = after_sound step a alike.first checked;
      second = after_sound step b alike.second other;
      same = (equal_after a b step alike.first alike.second alike.same checked).1;
    }

-- ---- lists of steps

outcomes_alike : (steps : List Step) (a b : Table) → AreAlike a b → All (IsCheckedStep a.settings) steps → run_results a steps ≡ run_results b steps
outcomes_alike [] a b alike all = refl
outcomes_alike (step ∷ steps) a b alike all =
    let checked = All-head (IsCheckedStep a.settings) step steps all in
    let both = equal_after a b step alike.first alike.second alike.same checked in
    let one : ◌≡◌ {A = Reply × List ℕ} ((step_of step a).0, running (step_of step a).1.control) ((step_of step b).0, running (step_of step b).1.control) = ap₂
    (λ reply (control : Control). (reply, running control)) both.0 (alike_control (step_of step a).1 (step_of step b).1 both.1) in
    ap₂ (λ outcome rest. outcome ∷ rest) one (outcomes_alike steps (step_of step a).1 (step_of step b).1 (alike_after a b step alike checked)
    (checked_rest a step steps alike.first all))

states_alike : (steps : List Step) (a b : Table) → AreAlike a b → All (IsCheckedStep a.settings) steps → Same (state_after a steps) (state_after b steps)
states_alike [] a b alike all = alike.same
states_alike (step ∷ steps) a b alike all =
    let checked = All-head (IsCheckedStep a.settings) step steps all in
    states_alike steps (step_of step a).1 (step_of step b).1 (alike_after a b step alike checked) (checked_rest a step steps alike.first all)

-- ---- tallies

-- a step from either table counts the same
counted_alike : (a b : Table) (step : Step) (tallies : List TaskTally) → AreAlike a b → IsCheckedStep a.settings step → length tallies ≤ a.settings.tasks →
    tallied stamp_queues (moment_of a step) tallies ≡ tallied stamp_queues (moment_of b step) tallies
counted_alike a b step tallies alike checked few =
    let both = equal_after a b step alike.first alike.second alike.same checked in
    let tasks = ap (λ (settings : Settings). settings.tasks) (alike_settings a b alike.same) in
    let moments = ap₃ (λ (before : View) (reply : Reply) (later : View). tallied list_queues
    (record { before = before; step = step; reply = reply; after = later }) tallies) alike.same both.0 both.1 in
    tallied_seen (moment_of a step) tallies alike.first.consistent few
    ∙ moments
    ∙ sym (tallied_seen (moment_of b step) tallies alike.second.consistent (omega (arith, few, tasks)))
  where
    ap₃ : {A B C D : Type 0} (f : A → B → C → D) {a a' : A} {b b' : B} {c c' : C} → a ≡ a' → b ≡ b' → c ≡ c' → f a b c ≡ f a' b' c'
    ap₃ f p q r = λ i. f (p i) (q i) (r i)

length_tallied : (table : Table) (step : Step) (tallies : List TaskTally) → length (tallied stamp_queues (moment_of table step) tallies) ≡ length tallies
unfolding tallied
length_tallied table step tallies = length_each _ (length tallies)

tallies_alike : (steps : List Step) (a b : Table) (tallies : List TaskTally) → AreAlike a b → All (IsCheckedStep a.settings) steps → length tallies ≤
    a.settings.tasks → tallied_after a steps tallies ≡ tallied_after b steps tallies
tallies_alike [] a b tallies alike all few = refl
tallies_alike (step ∷ steps) a b tallies alike all few =
    let checked = All-head (IsCheckedStep a.settings) step steps all in
    let counted = tallied stamp_queues (moment_of a step) tallies in
    let tasks = ap (λ (settings : Settings). settings.tasks) (settings_after a step alike.first) in
    tallies_alike steps (step_of step a).1 (step_of step b).1 counted (alike_after a b step alike checked) (checked_rest a step steps alike.first all)
    (omega (arith, few, tasks, length_tallied a step tallies))
    ∙ ap (tallied_after (step_of step b).1 steps) (counted_alike a b step tallies alike checked few)

parts_alike : (steps : List Step) (a b : Table) → AreAlike a b → All (IsCheckedStep a.settings) steps → part_tallies a.settings a steps ≡ part_tallies
    a.settings b steps
parts_alike steps a b alike all =
    let first = first_tallies a.settings a.control in
    tallies_alike steps a b first alike all (omega (arith, length_each (first_tally a.settings a.control) a.settings.tasks))
    ∙ ap (λ (control : Control). tallied_after b steps (first_tallies a.settings control)) (alike_control a b alike.same)

pub run_alike : (a b : Table) (steps : List Step) → IsSound a → IsSound b → Same a b → All (IsCheckedStep a.settings) steps → RunAlike a b steps
run_alike a b steps first second same all =
    let alike : AreAlike a b = record { first = first; second = second; same = same } in
    record {
      outcomes = outcomes_alike steps a b alike all;
      tallies = parts_alike steps a b alike all;
      states = λ place. states_alike (take place steps) a b alike (All-take (IsCheckedStep a.settings) place steps all);
    }

-- ---- steps that follow others

pub results_follow : (table : Table) (first second : List Step) → run_results table (first ++ second) ≡ run_results table first ++ run_results
    (state_after table first) second
results_follow table [] second = refl
results_follow table (step ∷ first) second = let outcome = step_of step table in ap (λ rest. (outcome.0, running outcome.1.control) ∷ rest)
    (results_follow outcome.1 first second)

pub segments_add_up : (settings : Settings) (table : Table) (first : List Step) (segments : List (List Step)) → part_tallies settings table
    (fold (λ steps segment. steps ++ segment) first segments) ≡ fold added (part_tallies settings table first)
    (tallies_in_turn settings (state_after table first) segments)
segments_add_up settings table first [] = refl
segments_add_up settings table first (second ∷ segments) =
    let after_both = fold-append (λ table step. (step_of step table).1) table first second in
    segments_add_up settings table (first ++ second) segments
    ∙ ap (λ counted. fold added counted (tallies_in_turn settings (state_after table (first ++ second)) segments)) (parts_added settings table first second)
    ∙ ap (λ left. fold added (added (part_tallies settings table first) (part_tallies settings (state_after table first) second))
    (tallies_in_turn settings left segments)) after_both
