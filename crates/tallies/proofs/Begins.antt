-- The tallies before any step of a kernel.
use Rattle.std.proofs.Common.{◌≡◌, ℕ, ◌+◌, ◌*◌, ◌<◌, List, [], ◌∷◌, ◌++◌, length, map, replicate, get_or, sym, ap, ◌∙◌, arith, inl, inr}
use Rattle.std.proofs.lemmas.Bool.{cases_lt}
use Rattle.std.proofs.lemmas.List.{get_or-replicate, get_or_past, length-replicate, map-append}
use Rattle.std.proofs.lemmas.List.FromFn.{length-range_with_len}
use Rattle.std.proofs.lemmas.Simd.{splat_is_map}
use Rattle.bench_types.specs.declared.kernel_data.Settings.{Settings}
use Rattle.bench_types.specs.declared.tally.Tally.{Tally}
use Rattle.list_orders.specs.Search.{numbers}
use Rattle.list_orders.proofs.Stamped.{numbers_more}
use Rattle.bench_model.specs.Control.{Control, task_at}
use Rattle.bench_model.specs.Tallied.{first_tallies, first_tally, no_counts}
use Rattle.session_laws.proofs.Tallies.{each_at, length_each, numbers_agree, numbers_so}
use Rattle.tallies.specs.Tables.{runs_of, tallies_in, tally_in}
use Rattle.tallies.proofs.Additions.{same_parts}

-- the counts of a task
abbrev pub first_counts : Control → ℕ → Tally
first_counts control task = no_counts (task_at control task).in_use

-- those of one task more
pub firsts_more : (control : Control) (task : ℕ) (counts : List Tally) (x : Tally) (top : ℕ) → counts ≡ map (first_counts control) (numbers task) → x ≡
    no_counts top → top ≡ (task_at control task).in_use
    → counts ++ x ∷ [] ≡ map (first_counts control) (numbers (task + 1))
firsts_more control task counts x top so_far made is =
    ap (λ c. counts ++ c ∷ []) (made ∙ ap no_counts is)
    ∙ ap (λ cs. cs ++ first_counts control task ∷ []) so_far
    ∙ sym (map-append (first_counts control) (numbers task) (task ∷ []))
    ∙ ap (map (first_counts control)) (sym (numbers_more task))

zero_there : (places place : ℕ) → get_or {A = ℕ} (replicate places 0) place 0 ≡ 0
zero_there places place = elim (cases_lt place places) [
  | inl inside ↦ get_or-replicate places place 0 0 inside
  | inr past ↦ get_or_past (replicate places 0) place 0 (omega (arith, past, length-replicate {A = ℕ} places 0))
]

zero_runs : (cores places task : ℕ) → runs_of cores (replicate places 0) task ≡ replicate cores 0
unfolding runs_of
zero_runs cores places task =
    numbers_agree (λ core. get_or (replicate places 0) (task * cores + core) 0) (λ core. 0) cores (λ core inside. zero_there places (task * cores + core))
    ∙ sym (splat_is_map (numbers cores) cores 0 (length-range_with_len 0 cores))

-- zeros and these counts are the tallies before any step
pub first_table : (settings : Settings) (control : Control) (cores places : ℕ) → ((task : ℕ) → task < settings.tasks → cores ≡ settings.cores)
    → tallies_in cores (replicate places 0) (map (first_counts control) (numbers settings.tasks)) ≡ first_tallies settings control
unfolding tallies_in
first_table settings control cores places same =
    let counts = map (first_counts control) (numbers settings.tasks) in
    numbers_so (tally_in cores (replicate places 0) counts) (first_tally settings control) (length counts) settings.tasks
    (length_each (first_counts control) settings.tasks)
    (λ task low. same_parts (zero_runs cores places task ∙ ap (λ n. replicate n 0) (same task low))
    (each_at (first_counts control) settings.tasks task (no_counts 0) low))
