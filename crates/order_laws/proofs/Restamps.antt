-- A task that gets the next stamp: what it does to the orders of a table.
use Rattle.std.proofs.Common.{◌≡◌, ◌≢◌, ℕ, suc, ◌<◌, Bool, cond, List, [], ◌∷◌, ◌++◌, length, sym, ap, subst, ◌∙◌, arith}
use Rattle.std.specs.Prelude.{is_some}
use Rattle.std.proofs.lemmas.List.{length-set, get_or-set_same, get_or-set_other}
use Rattle.std.proofs.Common.{inl, inr}
use Rattle.std.proofs.lemmas.Bool.{cases_eq}
use Rattle.std.proofs.lemmas.Bool.Decides.{nat_tests}
use Rattle.bench_model.specs.declared.row.TaskState.{TaskState}
use Rattle.bench_model.specs.declared.row.TaskState.TheVariants.{Ready}
use Rattle.bench_model.specs.declared.row.TaskRow.{TaskRow}
use Rattle.list_orders.specs.Search.{numbers, by_stamp, without, has}
use Rattle.bench_model.specs.Table.{Stamps, row_at, stamp_of, tasks_of, wake_in, restamped}
use Rattle.bench_model.specs.Sound.{IsStamped}
use Rattle.list_orders.proofs.Stamped.{numbers_have, by_stamp_moved, has-by_stamp}

-- every stamp was given
abbrev pub IsGiven : Stamps → Type 0
IsGiven stamps = (i : ℕ) → i < length stamps.rows → stamp_of stamps i < stamps.next

-- the tasks whose standing passes a test, by ascending stamp
abbrev pub standing_so : (TaskState → Bool) → Stamps → List ℕ
standing_so test stamps = by_stamp (stamp_of stamps) (λ i. test (row_at stamps i).standing) (tasks_of stamps) stamps.next

abbrev pub waits : TaskState → Bool
waits standing = is_some (wake_in standing)

-- whether a task is among them
pub has-standing_so : (test : TaskState → Bool) (stamps : Stamps) (i : ℕ) → IsGiven stamps → i < length stamps.rows → has i (standing_so test stamps) ≡ test
    (row_at stamps i).standing
has-standing_so test stamps i given below = grind (
  arith,
  nat_tests,
  has-by_stamp (stamp_of stamps) (λ i. test (row_at stamps i).standing) (tasks_of stamps) i
      stamps.next,
  given i below,
  numbers_have (length stamps.rows) i below,
)

module _ (stamps : Stamps) (task : ℕ) (standing : TaskState) (below : task < length stamps.rows) where
  abbrev moved : Stamps
  moved = restamped task standing stamps

  pub row_same : row_at moved task ≡ record { stamp = stamps.next; standing = standing }
  row_same = get_or-set_same stamps.rows task (record { stamp = stamps.next; standing = standing }) (record { stamp = 0; standing = Ready }) below

  pub row_other : (i : ℕ) → i ≢ task → row_at moved i ≡ row_at stamps i
  row_other i other = get_or-set_other stamps.rows task i (record { stamp = stamps.next; standing = standing }) (record { stamp = 0; standing = Ready }) other

  pub moved_length : length moved.rows ≡ length stamps.rows
  moved_length = length-set stamps.rows task (record { stamp = stamps.next; standing = standing })

  pub stamp_same : stamp_of moved task ≡ stamps.next
  stamp_same = ap (λ (r : TaskRow). r.stamp) row_same

  pub stamp_other : (i : ℕ) → i ≢ task → stamp_of moved i ≡ stamp_of stamps i
  stamp_other i other = ap (λ (r : TaskRow). r.stamp) (row_other i other)

  pub moved_given : IsGiven stamps → IsGiven moved
  moved_given given i low = elim (cases_eq i task) [
    | inl here ↦ subst (λ j. stamp_of moved j < suc stamps.next) (sym here) (omega (arith, stamp_same))
    | inr other ↦ omega (arith, stamp_other i other, given i (omega (arith, moved_length)))
  ]

  pub moved_once : IsStamped stamps → IsStamped moved
  moved_once stamped = record {
    given = moved_given stamped.given;
    once = λ i j low high same. elim (cases_eq i task) [
      | inl here ↦ elim (cases_eq j task) [
        | inl there ↦ here ∙ sym there
        | inr other ↦ absurd (omega (arith, ap (stamp_of moved) here, stamp_same, stamp_other j other, stamped.given j (omega (arith, moved_length)), same))
      ]
      | inr away ↦ elim (cases_eq j task) [
        | inl there ↦ absurd (omega (arith, ap (stamp_of moved) there, stamp_same, stamp_other i away, stamped.given i (omega (arith, moved_length)), same))
        | inr other ↦ stamped.once i j (omega (arith, moved_length)) (omega (arith, moved_length)) (sym (stamp_other i away) ∙ same ∙ stamp_other j other)
      ]
    ];
  }

  -- it leaves its place, and stands last where its new standing passes the test
  pub standing_so_moved : (test : TaskState → Bool) → IsGiven stamps → standing_so test moved ≡ without task (standing_so test stamps) ++ cond (test standing)
      (task ∷ []) []
  standing_so_moved test given =
      let by_moved = by_stamp_moved (stamp_of stamps) (stamp_of moved) (λ i. test (row_at stamps i).standing) (λ i. test (row_at moved i).standing)
      (length stamps.rows) stamps.next task below given stamp_other (λ i other. ap (λ (r : TaskRow). test r.standing) (row_other i other)) stamp_same in
      let sized = ap (λ n. by_stamp (stamp_of moved) (λ i. test (row_at moved i).standing) (numbers n) moved.next) moved_length in
      let last = ap (λ (r : TaskRow). cond (test r.standing) (task ∷ []) []) row_same in
      sized ∙ by_moved ∙ ap (λ tail. without task (standing_so test stamps) ++ tail) last
