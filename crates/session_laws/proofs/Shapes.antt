-- Counting a step and adding two parts keep the shape of tallies, and those of a session have the shape of its settings.
use Rattle.std.proofs.Common.{◌≡◌, ℕ, ◌+◌, List, [], ◌∷◌, length, map, sym, ap, ◌∙◌, refl}
use Rattle.std.proofs.lemmas.List.FromFn.{length-range_with_len}
use Rattle.std.proofs.lemmas.Simd.{splat_is_map}
use Rattle.bench_types.specs.declared.header.Header.{Header}
use Rattle.bench_types.specs.declared.step.Step.{Step}
use Rattle.bench_types.specs.Step.{settings_of}
use Rattle.list_orders.specs.Search.{numbers}
use Rattle.bench_model.specs.State.{QueueOps}
use Rattle.bench_model.specs.Tally.{TaskTally, Moment, is_found_on, run_ticks, tally_of, tallies}
use Rattle.bench_model.specs.Tallied.{tally_at, run_at, no_counts, one_if, tally_after, tallied, added_tally, added, shape, shape_of}
use Rattle.session_laws.proofs.Tallies.{numbers_agree, length_each, own_items}

-- for how many cores the tally of the task has a number
abbrev size_at : List TaskTally → ℕ → ℕ
size_at tallies task = length (tally_at tallies task).run

pub shape_of_each : (f : ℕ → TaskTally) (ns : List ℕ) → shape (map f ns) ≡ map (λ n. length (f n).run) ns
shape_of_each f [] = refl
shape_of_each f (n ∷ ns) = ap (λ rest. length (f n).run ∷ rest) (shape_of_each f ns)

own_shape : (tallies : List TaskTally) → map (size_at tallies) (numbers (length tallies)) ≡ shape tallies
own_shape tallies =
    sym (shape_of_each (tally_at tallies) (numbers (length tallies))) ∙ ap shape (own_items tallies (record { run = []; counts = no_counts 0 }))

-- tallies made from these, each with as many numbers
kept_shape : (tallies : List TaskTally) (f : ℕ → TaskTally) → ((task : ℕ) → length (f task).run ≡ size_at tallies task) → shape
    (map f (numbers (length tallies))) ≡ shape tallies
kept_shape tallies f same =
    shape_of_each f (numbers (length tallies))
    ∙ numbers_agree (λ task. length (f task).run) (size_at tallies) (length tallies) (λ task below. same task)
    ∙ own_shape tallies

module _ {Orders : Type 0} (ops : QueueOps Orders) (moment : Moment Orders) where
  counted_size : (task : ℕ) (tally : TaskTally) → length (tally_after ops moment task tally).run ≡ length tally.run
  unfolding tally_after
  counted_size task tally = length_each (λ core. run_at tally core + one_if (is_found_on core task moment)) (length tally.run)

  pub tallied_shape : (tallies : List TaskTally) → shape (tallied ops moment tallies) ≡ shape tallies
  unfolding tallied
  tallied_shape tallies = kept_shape tallies (λ task. tally_after ops moment task (tally_at tallies task)) (λ task. counted_size task (tally_at tallies task))

added_size : (a b : TaskTally) → length (added_tally a b).run ≡ length a.run
unfolding added_tally
added_size a b = length_each (λ core. run_at a core + run_at b core) (length a.run)

pub added_shape : (a b : List TaskTally) → shape (added a b) ≡ shape a
unfolding added
added_shape a b = kept_shape a (λ task. added_tally (tally_at a task) (tally_at b task)) (λ task. added_size (tally_at a task) (tally_at b task))

pub session_shape : (header : Header) (steps : List Step) → shape (tallies header steps) ≡ shape_of (settings_of header)
session_shape header steps =
    let tasks = (settings_of header).tasks in
    shape_of_each (tally_of header steps) (numbers tasks)
    ∙ numbers_agree (λ task. length (tally_of header steps task).run) (λ task. header.config.cores) tasks
    (λ task below. length_each (run_ticks header steps task) header.config.cores)
    ∙ sym (splat_is_map (numbers tasks) tasks header.config.cores (length-range_with_len 0 tasks))
