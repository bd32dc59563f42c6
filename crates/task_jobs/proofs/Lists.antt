-- Lists with one item more.
use Rattle.std.proofs.Common.{◌≡◌, ℕ, suc, ◌+◌, ◌<◌, ◌≤◌, max, min, Bool, true, false, ◌==◌, List, [], ◌∷◌, ◌++◌, length, map, Option, Some, None, refl, sym, ap, ◌∙◌, arith, add-one, inl, inr}
use Rattle.std.specs.Prelude.{find, filter, if◌then◌else◌}
use Rattle.std.specs.Option.{option_or}
use Rattle.std.proofs.lemmas.Bool.{cases_eq}
use Rattle.std.proofs.lemmas.Bool.Decides.{nat_tests}
use Rattle.std.proofs.lemmas.List.Elements.{filter-append}
use Rattle.list_orders.specs.Search.{numbers}
use Rattle.list_orders.proofs.Stamped.{numbers_more}
use Rattle.bench_model.specs.Tally.{greatest}
use Rattle.task_jobs.specs.Durations.{least}

pub greatest_append : (ns : List ℕ) (n : ℕ) → greatest (ns ++ n ∷ []) ≡ max (greatest ns) n
greatest_append [] n = omega arith
greatest_append (m ∷ ns) n = ap (max m) (greatest_append ns n) ∙ omega arith

pub least_append : (m : ℕ) (ns : List ℕ) (n : ℕ) → least ((m ∷ ns) ++ n ∷ []) ≡ min (least (m ∷ ns)) n
least_append m [] n = refl
least_append m (k ∷ ns) n = ap (min m) (least_append k ns n) ∙ omega arith

-- the one more is kept, or not
pub filter_more : (p : ℕ → Bool) (n : ℕ) → filter p (numbers (suc n)) ≡ filter p (numbers n) ++ (if p n then n ∷ [] else [])
filter_more p n =
    ap (λ k. filter p (numbers k)) (sym (add-one n)) ∙ ap (filter p) (numbers_more n) ∙ filter-append p (numbers n) (n ∷ [])
    ∙ ap (λ last. filter p (numbers n) ++ last) (at (p n) refl)
  where
    at : (b : Bool) → p n ≡ b → filter p (n ∷ []) ≡ (if b then n ∷ [] else [])
    at true is = rw is refl
    at false is = rw is refl
