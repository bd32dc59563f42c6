-- Answers in rows, one item after another.
use Rattle.std.proofs.Common.{◌≡◌, ℕ, zero, suc, ◌+◌, ◌<◌, Bool, true, false, cond, eqb, List, [], ◌∷◌, ◌++◌, length, map, take, get_or, Option, Some, None, refl, sym, ap, subst, ◌∙◌, inl, inr, arith}
use Rattle.std.specs.Prelude.{slice_set}
use Rattle.std.specs.List.{filter}
use Rattle.std.specs.Option.{option_map_or}
use Rattle.std.proofs.lemmas.Bool.{cases_eq}
use Rattle.std.proofs.lemmas.Bool.Decides.{nat_tests}
use Rattle.std.proofs.lemmas.List.{append-nil, get_or-set_same, get_or-set_other, length-set, map-append, take_more}
use Rattle.std.proofs.lemmas.List.Elements.{filter-append}
use Rattle.bench_types.specs.declared.step.Step.{Step}
use Rattle.bench_types.specs.Session.{Session}
use Rattle.kept_runs.specs.Items.{Item, begins_call}
use Rattle.kept_runs.specs.Known.{answer_before}
use Rattle.known_limits.specs.Before.{row_at, AreRows}
use Rattle.known_limits.specs.Calls.{begun_task}
use Rattle.known_limits.proofs.Begun.{begins_is}

pub more_empty : (rows : List (List (Option Bool))) → ((row : ℕ) → row_at rows row ≡ []) → (row : ℕ) → row_at (rows ++ [] ∷ []) row ≡ []
more_empty [] all zero = refl
more_empty [] all (suc row) = refl
more_empty (one ∷ rows) all zero = all 0
more_empty (one ∷ rows) all (suc row) = more_empty rows (λ row. all (suc row)) row

-- a row with an answer more
row_put : (rows : List (List (Option Bool))) (row other : ℕ) (answer : Option Bool) → row < length rows
    → row_at (slice_set rows row (row_at rows row ++ answer ∷ [])) other ≡ row_at rows other ++ cond (eqb row other) (answer ∷ []) []
row_put rows row other answer within = elim (cases_eq other row) [
  | inl own ↦
      let yes : eqb row other ≡ true = grind (arith, nat_tests, own) in
      ap (row_at (slice_set rows row (row_at rows row ++ answer ∷ []))) own
      ∙ get_or-set_same rows row (row_at rows row ++ answer ∷ []) [] within
      ∙ (λ i. row_at rows (sym own i) ++ cond (sym yes i) (answer ∷ []) [])
  | inr away ↦
      let no : eqb row other ≡ false = grind (arith, nat_tests, away) in
      get_or-set_other rows row other (row_at rows row ++ answer ∷ []) [] away
      ∙ sym (append-nil (row_at rows other))
      ∙ ap (λ (b : Bool). row_at rows other ++ cond b (answer ∷ []) []) (sym no)
]

-- what a list keeps, with an item more
module _ {X Y : Type 0} (f : X → Y) (keep : X → Bool) where
  one_kept : (x : X) (b : Bool) → keep x ≡ b → map f (filter keep (x ∷ [])) ≡ cond b (f x ∷ []) []
  one_kept x b is = ap (λ (b : Bool). map f (cond b (x ∷ []) [])) is ∙ same b
    where
      same : (b : Bool) → map f (cond b (x ∷ []) []) ≡ cond b (f x ∷ []) []
      same true = refl
      same false = refl

  kept_more : (xs : List X) (index : ℕ) (d : X) (b : Bool) → index < length xs → keep (get_or xs index d) ≡ b
      → map f (filter keep (take (index + 1) xs)) ≡ map f (filter keep (take index xs)) ++ cond b (f (get_or xs index d) ∷ []) []
  kept_more xs index d b within is =
      ap (λ (xs : List X). map f (filter keep xs)) (take_more xs index d within)
      ∙ ap (map f) (filter-append keep (take index xs) (get_or xs index d ∷ []))
      ∙ map-append f (filter keep (take index xs)) (filter keep (get_or xs index d ∷ []))
      ∙ ap (λ (ys : List Y). map f (filter keep (take index xs)) ++ ys) (one_kept (get_or xs index d) b is)

module _ (session : Session) (settled : List Step) (tasks : ℕ) where
  pub rows_begin : (items : List Item) (rows : List (List (Option Bool))) → length rows ≡ tasks → ((row : ℕ) → row_at rows row ≡ [])
      → AreRows session settled tasks (take 0 items) rows
  rows_begin items rows many empty = record {
    many = many;
    each = λ task low. empty task;
  }

  module _ (items : List Item) (index : ℕ) (d : Item) (within : index < length items) where
    -- what the row of a task is to have
    in_row : (o : Option ℕ) (task : ℕ) → begun_task (get_or items index d).step ≡ o
        → map (answer_before session settled task) (filter (λ (item : Item). begins_call task item.step) (take (index + 1) items))
        ≡ map (answer_before session settled task) (filter (λ (item : Item). begins_call task item.step) (take index items))
        ++ cond (option_map_or (λ own. eqb own task) o false) (answer_before session settled task (get_or items index d) ∷ []) []
    in_row o task is =
        kept_more (answer_before session settled task) (λ (item : Item). begins_call task item.step) items index d
        (option_map_or (λ own. eqb own task) o false) within
        (begins_is task (get_or items index d).step ∙ ap (λ o. option_map_or (λ own. eqb own task) o false) is)

    pub rows_on : (rows : List (List (Option Bool))) (task : ℕ) (answer : Option Bool) → begun_task (get_or items index d).step ≡ Some task
        → task < tasks → answer ≡ answer_before session settled task (get_or items index d)
        → AreRows session settled tasks (take index items) rows
        → AreRows session settled tasks (take (index + 1) items) (slice_set rows task (row_at rows task ++ answer ∷ []))
    rows_on rows task answer is low own are = record {
      many = length-set rows task (row_at rows task ++ answer ∷ []) ∙ are.many;
      each = λ other few.
          row_put rows task other answer (omega (arith, low, are.many))
          ∙ (λ i. are.each other few i ++ its other i)
          ∙ sym (in_row (Some task) other is);
    }
      where
        its : (other : ℕ) → cond (eqb task other) (answer ∷ []) [] ≡ cond (eqb task other) (answer_before session settled other (get_or items index d) ∷ []) []
        its other = elim (cases_eq other task) [
          | inl same ↦
              subst
              (λ other. cond (eqb task other) (answer ∷ []) [] ≡ cond (eqb task other) (answer_before session settled other (get_or items index d) ∷ []) [])
              (sym same) (ap (λ answer. cond (eqb task task) (answer ∷ []) []) own)
          | inr away ↦
              let no : eqb task other ≡ false = grind (arith, nat_tests, away) in
              ap (λ b. cond b (answer ∷ []) []) no
              ∙ sym (ap (λ b. cond b (answer_before session settled other (get_or items index d) ∷ []) []) no)
        ]

    pub rows_pass : (rows : List (List (Option Bool))) → begun_task (get_or items index d).step ≡ None
        → AreRows session settled tasks (take index items) rows
        → AreRows session settled tasks (take (index + 1) items) rows
    rows_pass rows is are = record {
      many = are.many;
      each = λ other few. are.each other few ∙ sym (append-nil _) ∙ sym (in_row None other is);
    }

-- there are as many rows as tasks
pub rows_own : (session : Session) (settled : List Step) (tasks : ℕ) (items : List Item) (rows : List (List (Option Bool)))
    → AreRows session settled tasks items rows → AreRows session settled (length rows) items rows
rows_own session settled tasks items rows are = subst (λ tasks. AreRows session settled tasks items rows) (sym are.many) are
