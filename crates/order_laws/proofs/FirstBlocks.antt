-- The control blocks of a start: how many there are, their priorities and their masks.
use Rattle.std.proofs.Common.{◌≡◌, ℕ, zero, suc, ◌+◌, ◌-◌, ◌^◌, ◌<◌, true, false, Bool, cond, Option, Some, None, refl, List, [], ◌∷◌, length, map, replicate, get_or, sym, ap, subst, ◌∙◌, arith}
use Rattle.std.proofs.Common.{inl, inr}
use Rattle.std.specs.Prelude.{is_some, option_map, All}
use Rattle.std.specs.List.{list_all}
use Rattle.std.proofs.lemmas.Bool.Decides.{nat_tests}
use Rattle.std.proofs.lemmas.Bool.{cases_lt}
use Rattle.std.proofs.lemmas.Nat.{pow_pos}
use Rattle.std.proofs.Math.Nat.{mod-lt}
use Rattle.std.proofs.Math.Pow.{pow-sub-lt}
use Rattle.std.proofs.lemmas.List.{length-append, length-map, length-replicate, get_or_append_left, get_or-append_right, get_or-replicate, get_or-map}
use Rattle.bench_types.specs.declared.header.Config.{Config}
use Rattle.bench_types.specs.declared.header.Header.{Header}
use Rattle.bench_types.specs.declared.header.QueueArgs.{QueueArgs}
use Rattle.bench_types.specs.declared.header.TaskArgs.{TaskArgs}
use Rattle.bench_types.specs.declared.kernel_data.TaskControl.{TaskControl}
use Rattle.bench_types.proofs.Passes.{has_valid_args, IsWithinLimits}
use Rattle.bench_types.specs.Step.{settings_of}
use Rattle.bench_model.specs.Control.{task_at}
use Rattle.bench_model.specs.Sound.{list_values, IsControlBlock}
use Rattle.bench_model.specs.Start.{idle_control, user_control, first_control, first_values}

no_args : TaskArgs
no_args = record { name = []; priority = 0; mask = 0 }

valid_priority : (config : Config) (tasks : List TaskArgs) → list_all (has_valid_args config) tasks ≡ true → (i : ℕ) → i < length tasks →
    (get_or tasks i no_args).priority < config.priorities
valid_priority config [] valid i low = absurd (omega arith)
valid_priority config (task ∷ tasks) valid zero low = grind (arith, nat_tests, valid)
valid_priority config (task ∷ tasks) valid (suc i) low = valid_priority config tasks (grind (arith, valid)) i (omega arith)

module _ (header : Header) where
  abbrev cores : ℕ
  cores = header.config.cores

  abbrev users : ℕ
  users = length header.tasks

  pub first_tasks : length (first_control header).tasks ≡ cores + users
  first_tasks = omega (
    arith,
    length-append (replicate cores (idle_control cores)) (map (user_control cores) header.tasks),
    length-replicate cores
        (idle_control cores),
    length-map header.tasks (user_control cores),
  )

  pub first_blocks : IsWithinLimits header → (i : ℕ) → i < cores + users → IsControlBlock (settings_of header) (task_at (first_control header) i)
  first_blocks valid i low = elim (cases_lt i cores) [
    | inl idle ↦
        let at = get_or_append_left (replicate cores (idle_control cores)) (map (user_control cores) header.tasks)
        (record { base = 0; in_use = 0; mask = 0; preempt = false }) i (omega (arith, length-replicate cores (idle_control cores))) ∙ get_or-replicate cores
        i (idle_control cores) (record { base = 0; in_use = 0; mask = 0; preempt = false }) idle in
        record {
          in_use = omega (arith, ap (λ (t : TaskControl). t.in_use) at, valid.some_priority);
          base = omega (arith, ap (λ (t : TaskControl). t.base) at, valid.some_priority);
          mask = subst (λ mask. mask < 2 ^ cores) (sym (ap (λ (t : TaskControl). t.mask) at)) (pow-sub-lt cores (omega arith));
        }
    | inr user ↦
        let at = get_or-append_right (replicate cores (idle_control cores)) (map (user_control cores) header.tasks) cores i
        (record { base = 0; in_use = 0; mask = 0; preempt = false }) (length-replicate cores (idle_control cores)) user ∙ get_or-map (user_control cores)
        header.tasks (i - cores) no_args (record { base = 0; in_use = 0; mask = 0; preempt = false }) (omega arith) in
        let limit = valid_priority header.config header.tasks valid.args (i - cores) (omega arith) in
        record {
          in_use = omega (arith, ap (λ (t : TaskControl). t.in_use) at, limit);
          base = omega (arith, ap (λ (t : TaskControl). t.base) at, limit);
          mask = subst (λ mask. mask < 2 ^ cores) (sym (ap (λ (t : TaskControl). t.mask) at))
              (mod-lt (get_or header.tasks (i - cores) no_args).mask (pow_pos cores));
        }
  ]

  -- each task's list value is its base priority, where there are list values
  pub first_values_length : length (first_values header) ≡ list_values (settings_of header)
  first_values_length = at header.queues
    where
      bases : List ℕ
      bases = map (λ (t : TaskControl). t.base) (first_control header).tasks

      at : (queues : Option (List QueueArgs)) → length (cond (is_some queues) bases []) ≡ cond (is_some (option_map length queues)) (cores + users) 0
      at None = refl
      at (Some queues) = length-map (first_control header).tasks (λ (t : TaskControl). t.base) ∙ first_tasks

  pub first_values_below : IsWithinLimits header → All (λ value. value < header.config.priorities) (first_values header)
  first_values_below valid = at header.queues
    where
      bases : List ℕ
      bases = map (λ (t : TaskControl). t.base) (first_control header).tasks

      below : All (λ value. value < header.config.priorities) bases
      below i d low =
          let within : i < cores + users = omega (arith, low, length-map (first_control header).tasks (λ (t : TaskControl). t.base), first_tasks) in
          let at = get_or-map (λ (t : TaskControl). t.base) (first_control header).tasks i (record { base = 0; in_use = 0; mask = 0; preempt = false }) d
          (omega (arith, within, first_tasks)) in
          omega (arith, at, (first_blocks valid i within).base)

      at : (queues : Option (List QueueArgs)) → All (λ value. value < header.config.priorities) (cond (is_some queues) bases [])
      at None = λ i d low. absurd (omega (arith, low))
      at (Some queues) = below
