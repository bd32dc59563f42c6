-- The lines of all numbers that a task may have.
use Rattle.std.proofs.Common.{◌≡◌, ℕ, ◌+◌, List, ◌++◌, flat_map, ap, ◌∙◌}
use Rattle.bench_types.specs.declared.header.Header.{Header}
use Rattle.bench_types.specs.Limits.{max_cores, max_tasks}
use Rattle.bench_model.specs.Tally.{TaskTally}
use Rattle.list_orders.specs.Search.{numbers}
use Rattle.run_comparisons.specs.Gains.{gains_line, gains_text}

pub gains_end : (header : Header) (before after : List TaskTally) (old text : List ℕ) (n : ℕ) → n ≡ max_cores + max_tasks → text ≡ old ++ flat_map
    (gains_line header before after) (numbers n) → text ≡ old ++ gains_text header before after
unfolding gains_text
gains_end header before after old text n all so_far = so_far ∙ ap (λ m. old ++ flat_map (gains_line header before after) (numbers m)) all
