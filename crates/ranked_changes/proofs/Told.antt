-- Counts that are told one after the other.
use Rattle.std.proofs.Common.{ℕ, ◌<◌, ◌≤◌, List, [], ◌∷◌, ◌++◌, refl, subst, arith}
use Rattle.ranked_changes.specs.Tellings.{GrowsTo, TellsEach, TellsSome, TellsUpTo}

grows_more : (before : ℕ) (counts : List ℕ) (last count : ℕ) → GrowsTo before counts last → last < count → GrowsTo before (counts ++ count ∷ []) count
grows_more before [] last count is more = (subst (λ n. n < count) is more, refl)
grows_more before (one ∷ later) last count grows more = (grows.0, grows_more one later last count grows.1 more)

module _ {P : Type 0} (tells : P → ℕ → ℕ → P → Type 0) (all : ℕ) where
  tells_each_more : (counts : List ℕ) (count : ℕ) (old middle new : P) → TellsEach tells all counts old middle → tells middle count all new →
      TellsEach tells all (counts ++ count ∷ []) old new
  tells_each_more [] count old middle new same told = (new, subst (λ (p : P). tells p count all new) same told, refl)
  tells_each_more (one ∷ later) count old middle new each told = (each.0, each.1, tells_each_more later count each.0 middle new each.2 told)

  -- one count more is told
  pub tells_more : (done count : ℕ) (old middle new : P) → TellsUpTo tells all done old middle → done < count → tells middle count all new →
      TellsUpTo tells all count old new
  tells_more done count old middle new before more told = record {
    counts = before.counts ++ count ∷ [];
    grows = grows_more 0 before.counts done count before.grows more;
    told = tells_each_more before.counts count old middle new before.told told;
  }

  -- nothing is told
  pub tells_none : (old : P) → TellsUpTo tells all 0 old old
  tells_none old = record { counts = []; grows = refl; told = refl }

  pub tells_nothing : (old : P) → TellsSome tells all old old
  tells_nothing old = record { done = 0; within = omega arith; told = tells_none old }

  pub tells_some : (done : ℕ) (old new : P) → done ≤ all → TellsUpTo tells all done old new → TellsSome tells all old new
  tells_some done old new within told = record { done = done; within = within; told = told }
