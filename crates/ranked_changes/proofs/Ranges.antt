-- Ranges of numbers, one number further.
use Rattle.std.proofs.Common.{◌≡◌, ℕ, ◌+◌, ◌-◌, ◌≤◌, List, [], ◌∷◌, ◌++◌, map, flat_map, ap, ◌∙◌, arith}
use Rattle.std.specs.List.{range_with_len}
use Rattle.std.proofs.lemmas.Grind.{flat_map-append}
use Rattle.std.proofs.lemmas.List.{append-nil, map-append}
use Rattle.list_orders.specs.Search.{numbers}
use Rattle.list_orders.proofs.Stamped.{numbers_more, range_parts}

pub range_more : (first next : ℕ) → first ≤ next → range_with_len first (next + 1 - first) ≡ range_with_len first (next - first) ++ next ∷ []
range_more first next above =
    let count : next + 1 - first ≡ (next - first) + 1 = omega arith in
    let last : first + (next - first) ≡ next = omega arith in
    ap (range_with_len first) count ∙ range_parts first (next - first) 1 ∙ ap (λ n. range_with_len first (next - first) ++ n ∷ []) last

pub map_more : {A : Type 0} (f : ℕ → A) (n : ℕ) → map f (numbers (n + 1)) ≡ map f (numbers n) ++ f n ∷ []
map_more f n = ap (map f) (numbers_more n) ∙ map-append f (numbers n) (n ∷ [])

pub flat_map_more : {A : Type 0} (f : ℕ → List A) (first next : ℕ) → first ≤ next → flat_map f (range_with_len first (next + 1 - first)) ≡ flat_map f
    (range_with_len first (next - first)) ++ f next
flat_map_more f first next above =
    ap (flat_map f) (range_more first next above) ∙ flat_map-append f (range_with_len first (next - first)) (next ∷ [])
    ∙ ap (λ last. flat_map f (range_with_len first (next - first)) ++ last) (append-nil (f next))
