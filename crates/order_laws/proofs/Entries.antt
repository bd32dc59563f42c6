-- The entries of the tasks whose standing passes a test, in the order of a rank: what one more standing does to them.
use Rattle.std.proofs.Common.{◌≡◌, ℕ, ◌<◌, Bool, true, false, cond, not, eqb, List, [], ◌∷◌, ◌++◌, length, map, Some, None, refl, sym, ap, ◌∙◌, arith}
use Rattle.std.proofs.Math.Path.{fun_ext}
use Rattle.std.specs.List.{filter, find, list_any}
use Rattle.std.proofs.lemmas.List.{append-nil, map-append}
use Rattle.std.proofs.lemmas.Bool.{eqb-true}
use Rattle.std.proofs.lemmas.Bool.Decides.{nat_tests}
use Rattle.bench_model.specs.declared.row.TaskState.{TaskState}
use Rattle.bench_model.specs.declared.row.TaskRow.{TaskRow}
use Rattle.list_orders.specs.Search.{placed, ranked, without, has}
use Rattle.bench_model.specs.Table.{Stamps, row_at, restamped}
use Rattle.list_orders.proofs.Filters.{filter-map, map_agrees, list_any-map, find_sole, All-map, All_each, All-filter_passes, All-weaker}
use Rattle.list_orders.proofs.Ranks.{IsRank, ranked-push, filter-ranked, list_any-ranked, All-ranked}
use Rattle.order_laws.proofs.Restamps.{IsGiven, standing_so, has-standing_so, standing_so_moved, row_same, row_other}

pub without_absent : (n : ℕ) (ns : List ℕ) → has n ns ≡ false → without n ns ≡ ns
without_absent n [] absent = refl
without_absent n (m ∷ ms) absent = grind (arith, absent, without_absent n ms)

module _ {E : Type 0} (front : E → E → Bool) (test : TaskState → Bool) (entry : ℕ → TaskState → E) where
  abbrev pub entry_at : Stamps → ℕ → E
  entry_at stamps i = entry i (row_at stamps i).standing

  abbrev pub entries : Stamps → List E
  entries stamps = ranked front (map (entry_at stamps) (standing_so test stamps))

  -- the entry of a task is what a search for the task finds, where its standing passes the test
  pub entry_found : (task_of : E → ℕ) → ((i : ℕ) (s : TaskState) → task_of (entry i s) ≡ i) → (stamps : Stamps) (task : ℕ) → IsGiven stamps → task < length
      stamps.rows →
      find (λ e. eqb (task_of e) task) (entries stamps) ≡ cond (test (row_at stamps task).standing) (Some (entry_at stamps task)) None
  entry_found task_of named stamps task given below =
      let ids = standing_so test stamps in
      let is_its = λ (e : E). eqb (task_of e) task in
      let named_so : (λ i. is_its (entry_at stamps i)) ≡ (λ i. eqb i task) = fun_ext (λ i. ap (λ t. eqb t task) (named i (row_at stamps i).standing)) in
      let sole = All-map (λ e. is_its e ≡ true → e ≡ entry_at stamps task) (entry_at stamps) ids
      (All_each (λ i. is_its (entry_at stamps i) ≡ true → entry_at stamps i ≡ entry_at stamps task)
      (λ i is. ap (entry_at stamps) (sym (named i (row_at stamps i).standing) ∙ eqb-true (task_of (entry_at stamps i)) task is)) ids) in
      find_sole is_its (entry_at stamps task) (entries stamps) (All-ranked front (λ e. is_its e ≡ true → e ≡ entry_at stamps task) (map (entry_at stamps) ids)
      sole)
      ∙ ap (λ b. cond b (Some (entry_at stamps task)) None)
      (list_any-ranked front is_its (map (entry_at stamps) ids) ∙ list_any-map is_its (entry_at stamps) ids ∙ ap (λ p. list_any p ids) named_so ∙
      has-standing_so test stamps task given below)

  module _ (stamps : Stamps) (task : ℕ) (standing : TaskState) (below : task < length stamps.rows) where
    abbrev moved : Stamps
    moved = restamped task standing stamps

    same_others : (ids : List ℕ) → map (entry_at moved) (without task ids) ≡ map (entry_at stamps) (without task ids)
    same_others ids = map_agrees (entry_at moved) (entry_at stamps) (without task ids)
        (All-weaker (λ i. not (eqb i task) ≡ true) (λ i. entry_at moved i ≡ entry_at stamps i)
        (λ i h. ap (λ (r : TaskRow). entry i r.standing) (row_other stamps task standing below i (λ e. grind (arith, nat_tests, h, e)))) (without task ids)
        (All-filter_passes (λ i. not (eqb i task)) ids))

    -- after the others stands the task's, where its new standing passes the test
    pushed : (ids : List ℕ) → ranked front (map (entry_at moved) (without task ids ++ cond (test standing) (task ∷ []) [])) ≡ cond (test standing)
        (placed front (entry task standing) (ranked front (map (entry_at stamps) (without task ids)))) (ranked front (map (entry_at stamps) (without task ids)))
    pushed ids = at (test standing)
      where
        at : (b : Bool) → ranked front (map (entry_at moved) (without task ids ++ cond b (task ∷ []) [])) ≡ cond b
            (placed front (entry task standing) (ranked front (map (entry_at stamps) (without task ids))))
            (ranked front (map (entry_at stamps) (without task ids)))
        at true =
            ap (ranked front) (map-append (entry_at moved) (without task ids) (task ∷ []))
            ∙ ranked-push front (map (entry_at moved) (without task ids)) (entry_at moved task)
            ∙ ap (λ e. placed front e (ranked front (map (entry_at moved) (without task ids))))
            (ap (λ (r : TaskRow). entry task r.standing) (row_same stamps task standing below))
            ∙ ap (λ es. placed front (entry task standing) (ranked front es)) (same_others ids)
        at false = ap (λ ids. ranked front (map (entry_at moved) ids)) (append-nil (without task ids)) ∙ ap (ranked front) (same_others ids)

    -- a task that had no entry gets one where its new standing passes the test
    pub entries_initial : IsGiven stamps → test (row_at stamps task).standing ≡ false → entries moved ≡ cond (test standing)
        (placed front (entry task standing) (entries stamps)) (entries stamps)
    entries_initial given fails =
        let ids = standing_so test stamps in
        let absent = without_absent task ids (has-standing_so test stamps task given below ∙ fails) in
        ap (λ ids. ranked front (map (entry_at moved) ids)) (standing_so_moved stamps task standing below test given) ∙ pushed ids
        ∙ ap (λ others. cond (test standing) (placed front (entry task standing) (ranked front (map (entry_at stamps) others)))
        (ranked front (map (entry_at stamps) others))) absent

    -- the entry of a task goes where its new standing fails the test
    pub entries_over : (task_of : E → ℕ) → ((i : ℕ) (s : TaskState) → task_of (entry i s) ≡ i) → IsRank front → IsGiven stamps → test standing ≡ false → entries
        moved ≡ filter (λ e. not (eqb (task_of e) task)) (entries stamps)
    entries_over task_of named rank given fails =
        let ids = standing_so test stamps in
        let other = λ (e : E). not (eqb (task_of e) task) in
        let named_so : (λ i. other (entry_at stamps i)) ≡ (λ i. not (eqb i task)) = fun_ext
        (λ i. ap (λ t. not (eqb t task)) (named i (row_at stamps i).standing)) in
        ap (λ ids. ranked front (map (entry_at moved) ids)) (standing_so_moved stamps task standing below test given) ∙ pushed ids
        ∙ ap (λ b. cond b (placed front (entry task standing) (ranked front (map (entry_at stamps) (without task ids))))
        (ranked front (map (entry_at stamps) (without task ids)))) fails
        ∙ ap (λ p. ranked front (map (entry_at stamps) (filter p ids))) (sym named_so)
        ∙ ap (ranked front) (sym (filter-map other (entry_at stamps) ids))
        ∙ sym (filter-ranked front rank other (map (entry_at stamps) ids))
