-- Sums over the numbers below n of which one term changes.
use Rattle.std.proofs.Common.{◌≡◌, ℕ, zero, suc, ◌+◌, ◌<◌, ◌≢◌, List, [], ◌∷◌, refl, sym, ap, ◌∙◌, inl, inr, arith}
use Rattle.std.specs.List.{sum_by, AllByRecursion}
use Rattle.std.proofs.lemmas.Bool.{cases_eq}
use Rattle.std.proofs.lemmas.List.Sums.{sum_by-cons, sum_by_push}
use Rattle.std.proofs.Math.Numerals.{add-one}
use Rattle.list_orders.specs.Search.{numbers}
use Rattle.list_orders.proofs.Filters.{All-weaker}
use Rattle.list_orders.proofs.Stamped.{numbers_below, numbers_more}

pub same_sum : (f g : ℕ → ℕ) (ns : List ℕ) → AllByRecursion (λ i. f i ≡ g i) ns → sum_by f ns ≡ sum_by g ns
same_sum f g [] same = refl
same_sum f g (n ∷ ns) same = let rest = same_sum f g ns same.1 in omega (arith, sum_by-cons f n ns, sum_by-cons g n ns, rest, same.0)

sum_more : (f : ℕ → ℕ) (n : ℕ) → sum_by f (numbers (suc n)) ≡ sum_by f (numbers n) + f n
sum_more f n = ap (λ k. sum_by f (numbers k)) (sym (add-one n)) ∙ ap (sum_by f) (numbers_more n) ∙ sum_by_push f (numbers n) n

-- of the two sums the terms differ at one number at most
pub one_sum : (f g : ℕ → ℕ) (c n : ℕ) → c < n → ((i : ℕ) → i ≢ c → f i ≡ g i) → sum_by g (numbers n) + f c ≡ sum_by f (numbers n) + g c
one_sum f g c zero below others = absurd (omega (arith, below))
one_sum f g c (suc n) below others = elim (cases_eq c n) [
  | inl here ↦
      let rest =
      same_sum f g (numbers n)
      (All-weaker (λ i. i < n) (λ i. f i ≡ g i) (λ i low. others i (λ same. absurd (omega (arith, low, same, here)))) (numbers n) (numbers_below n)) in
      let at_f : f c ≡ f n = ap f here in
      let at_g : g c ≡ g n = ap g here in
      omega (arith, sum_more f n, sum_more g n, rest, at_f, at_g)
  | inr away ↦
      let low : c < n = omega (arith, below, away) in
      let rest = one_sum f g c n low others in
      let last = others n (λ same. away (sym same)) in
      omega (arith, sum_more f n, sum_more g n, rest, last)
]
