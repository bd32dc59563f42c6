-- Lists of which some items were passed over.
use Rattle.std.proofs.Common.{inl, inr, List, [], ◌∷◌, ◌++◌, refl, ap}
use Rattle.core_scripts.specs.Scripts.{IsPartOf}

module _ {X : Type 0} where
  -- one item more, kept
  pub kept_more : (whole part : List X) (x : X) → IsPartOf whole part → IsPartOf (whole ++ x ∷ []) (part ++ x ∷ [])
  kept_more [] part x none = inr ([], ap (λ part. part ++ x ∷ []) none, refl)
  kept_more (y ∷ whole) part x (inl later) = inl (kept_more whole part x later)
  kept_more (y ∷ whole) part x (inr first) = inr (first.0 ++ x ∷ [], ap (λ part. part ++ x ∷ []) first.1, kept_more whole first.0 x first.2)

  -- and passed over
  pub passed_more : (whole part : List X) (x : X) → IsPartOf whole part → IsPartOf (whole ++ x ∷ []) part
  passed_more [] part x none = inl none
  passed_more (y ∷ whole) part x (inl later) = inl (passed_more whole part x later)
  passed_more (y ∷ whole) part x (inr first) = inr (first.0, first.1, passed_more whole first.0 x first.2)
