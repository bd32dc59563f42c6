-- Lists with at most one entry a task: the entry of a task is found alike in any order.
use Rattle.std.proofs.Common.{◌≡◌, ℕ, Bool, true, false, cond, eqb, List, [], ◌∷◌, map, refl, sym, ap, ◌∙◌, arith}
use Rattle.std.specs.List.{filter, find, IsDistinct, AllByRecursion}
use Rattle.std.proofs.lemmas.Bool.Decides.{nat_tests}
use Rattle.list_orders.specs.Search.{placed, ranked}
use Rattle.list_orders.proofs.Filters.{filter_none, find_filter}
use Rattle.list_orders.proofs.Ranks.{IsRank, filter-ranked}

module _ {E : Type 0} (task_of : E → ℕ) where
  -- what is so of each task in a list is so of each entry
  pub each_entry : (P Q : ℕ → Type 0) → ((m : ℕ) → P m → Q m) → (entries : List E) → AllByRecursion P (map task_of entries) → AllByRecursion
      (λ entry. Q (task_of entry)) entries
  each_entry P Q weaker [] all = tt
  each_entry P Q weaker (entry ∷ entries) all = (weaker (task_of entry) all.0, each_entry P Q weaker entries all.1)

  abbrev entries_of : ℕ → List E → List E
  entries_of task entries = filter (λ entry. eqb (task_of entry) task) entries

  module _ (front : E → E → Bool) where
    -- the entries of one task are none or one, in any order
    alone : (task : ℕ) (entries : List E) → IsDistinct eqb (map task_of entries) → ranked front (entries_of task entries) ≡ entries_of task entries
    unfolding IsDistinct ranked placed
    alone task [] once = refl
    alone task (entry ∷ entries) once = at (eqb (task_of entry) task) refl (alone task entries once.1)
      where
        none : eqb (task_of entry) task ≡ true → entries_of task entries ≡ []
        none its = filter_none (λ e. eqb (task_of e) task) entries (each_entry (λ m. eqb (task_of entry) m ≡ false) (λ m. eqb m task ≡ false)
            (λ m other. grind (arith, nat_tests, its, other)) entries once.0)

        at : (b : Bool) → eqb (task_of entry) task ≡ b → ranked front (entries_of task entries) ≡ entries_of task entries → ranked front
            (cond b (entry ∷ entries_of task entries) (entries_of task entries)) ≡ cond b (entry ∷ entries_of task entries) (entries_of task entries)
        at true its rest = rw (none its) refl
        at false is rest = rest

    pub find-ranked : IsRank front → (task : ℕ) (entries : List E) → IsDistinct eqb (map task_of entries) → find (λ entry. eqb (task_of entry) task) entries ≡
        find (λ entry. eqb (task_of entry) task) (ranked front entries)
    find-ranked rank task entries once =
        let its = λ (entry : E). eqb (task_of entry) task in
        find_filter its entries ∙ ap (find (λ _. true)) (sym (alone task entries once) ∙ sym (filter-ranked front rank its entries)) ∙ sym
        (find_filter its (ranked front entries))
