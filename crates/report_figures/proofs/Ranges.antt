-- What is made of the numbers below one, one after another.
use Rattle.std.proofs.Common.{◌≡◌, ℕ, ◌+◌, List, [], ◌∷◌, ◌++◌, map, flat_map, append_assoc, ap, sym, ◌∙◌}
use Rattle.std.proofs.lemmas.List.{flat_map_more, map-append}
use Rattle.std.specs.Prelude.{fold}
use Rattle.std.proofs.lemmas.List.Sums.{fold-append}
use Rattle.list_orders.specs.Search.{numbers}
use Rattle.list_orders.proofs.Stamped.{numbers_more}

-- the items of one number more
pub next_items : {X : Type 0} (f : ℕ → List X) (before items after : List X) (n : ℕ) → items ≡ before ++ flat_map f (numbers n) → after ≡ items ++ f n → after ≡
    before ++ flat_map f (numbers (n + 1))
next_items f before items after n so_far pushed =
    pushed ∙ ap (λ all. all ++ f n) so_far ∙ flat_map_more f before (numbers n) n
    ∙ sym (ap (λ all. before ++ flat_map f all) (numbers_more n))

-- the item of one number more
pub next_item : {X : Type 0} (f : ℕ → X) (before items after : List X) (n : ℕ) → items ≡ before ++ map f (numbers n) → after ≡ items ++ f n ∷ [] → after ≡
    before ++ map f (numbers (n + 1))
next_item f before items after n so_far pushed =
    pushed ∙ ap (λ all. all ++ f n ∷ []) so_far ∙ append_assoc before (map f (numbers n)) (f n ∷ [])
    ∙ ap (λ all. before ++ all) (sym (ap (map f) (numbers_more n) ∙ map-append f (numbers n) (n ∷ [])))

-- the same after a first item
pub next_item_after : {X : Type 0} (f : ℕ → X) (before : List X) (first : X) (items after : List X) (n : ℕ) → items ≡ before ++ first ∷ map f (numbers n) →
    after ≡ items ++ f n ∷ [] → after ≡ before ++ first ∷ map f (numbers (n + 1))
next_item_after f before first items after n so_far pushed =
    next_item f (before ++ first ∷ []) items after n (so_far ∙ sym (append_assoc before (first ∷ []) (map f (numbers n)))) pushed
    ∙ append_assoc before (first ∷ []) (map f (numbers (n + 1)))

-- what is folded of one number more
pub next_folded : {Y : Type 0} (f : Y → ℕ → Y) (start folded after : Y) (n : ℕ) → folded ≡ fold f start (numbers n) → after ≡ f folded n → after ≡ fold f start
    (numbers (n + 1))
next_folded f start folded after n so_far next =
    next ∙ ap (λ all. f all n) so_far ∙ sym (ap (fold f start) (numbers_more n) ∙ fold-append f start (numbers n) (n ∷ []))
