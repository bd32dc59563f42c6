-- How many messages a queue has at the first place that is shown.
use Rattle.std.proofs.Common.{◌≡◌, ℕ, List, [], ◌∷◌, map, Option, None, Some, slice_get, refl, sym, ap}
use Rattle.std.specs.Prelude.{◌==◌, not, slice_index_or}
use Rattle.std.specs.List.{list_any}
use Rattle.list_orders.proofs.Filters.{list_any-map}
use Rattle.run_views.specs.declared.look.Look.{Look}
use Rattle.run_pictures.specs.TaskStretches.{messages_in}

same_some : {X : Type 0} (a b : X) → Some a ≡ Some b → a ≡ b
same_some a b is = cc is

pub first_seen : (queue : ℕ) (looks : List Look) (look : Look) → slice_get looks 0 ≡ Some look → messages_in queue look ≡
    slice_index_or (map (messages_in queue) looks) 0 0
first_seen queue [] look is = absurd (cc is)
first_seen queue (first ∷ looks) look is = ap (messages_in queue) (sym (same_some first look is))

pub none_seen : (queue : ℕ) (looks : List Look) → slice_get looks 0 ≡ None → 0 ≡ slice_index_or (map (messages_in queue) looks) 0 0
none_seen queue [] is = refl
none_seen queue (first ∷ looks) is = absurd (cc is)

pub any_seen : (queue first : ℕ) (looks : List Look) → list_any (λ look. not (messages_in queue look == first)) looks ≡
    list_any (λ value. not (value == first)) (map (messages_in queue) looks)
any_seen queue first looks = sym (list_any-map (λ value. not (value == first)) (messages_in queue) looks)
