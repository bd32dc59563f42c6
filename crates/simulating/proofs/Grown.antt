-- Lists that a loop makes, by one more each time.
use Rattle.std.proofs.Common.{◌≡◌, ℕ, ◌+◌, ◌<◌, Bool, cond, List, [], ◌∷◌, ◌++◌, length, take, get_or, filter, sym, ap, ◌∙◌}
use Rattle.std.proofs.lemmas.List.{take_more}
use Rattle.std.proofs.lemmas.List.Elements.{filter-append, filter_map-append}
use Rattle.bench_types.specs.declared.step.Step.{Step}
use Rattle.list_orders.proofs.Stamped.{numbers_more}
use Rattle.list_orders.specs.Search.{numbers}
use Rattle.simulating.specs.Callers.{caller_of, callers}

-- the numbers that pass a test
pub filtered_more : (passes : ℕ → Bool) (n : ℕ) (found more : List ℕ) → found ≡ filter passes (numbers n) → more ≡ found ++ cond (passes n) (n ∷ []) []
    → more ≡ filter passes (numbers (n + 1))
filtered_more passes n found more so_far is =
    is ∙ ap (λ found. found ++ cond (passes n) (n ∷ []) []) so_far
    ∙ sym (ap (filter passes) (numbers_more n) ∙ filter-append passes (numbers n) (n ∷ []))

-- the callers of steps
pub callers_more : (steps : List Step) (index : ℕ) (d : Step) (found more : List ℕ) → index < length steps → found ≡ callers (take index steps)
    → more ≡ found ++ callers (get_or steps index d ∷ []) → more ≡ callers (take (index + 1) steps)
callers_more steps index d found more inside so_far is =
    is ∙ ap (λ found. found ++ callers (get_or steps index d ∷ [])) so_far
    ∙ sym (ap callers (take_more steps index d inside) ∙ filter_map-append caller_of (take index steps) (get_or steps index d ∷ []))
