-- A row of two runs that were made has alike steps, and alike steps have no rows of their own beside each other.
use Rattle.std.proofs.Common.{◌≡◌, ℕ, zero, suc, Bool, true, false, cond, List, [], ◌∷◌, ◌++◌, take, Option, Some, None, refl, ap, sym, subst, ◌∙◌, arith, inl, inr}
use Rattle.std.specs.Prelude.{◌⊎◌, All, Contains, slice_get}
use Rattle.std.proofs.lemmas.List.Elements.{All-head, All-tail, Contains-append_cases}
use Rattle.bench_types.specs.declared.step.Step.{Step}
use Rattle.run_comparisons.specs.declared.place_pair.PlacePair.{PlacePair}
use Rattle.run_comparisons.specs.declared.rows.Row.{Row}
use Rattle.run_comparisons.specs.declared.rows.Row.TheVariants.{Both, Removed, Inserted}
use Rattle.run_comparisons.specs.Alike.{are_alike}
use Rattle.run_comparisons.specs.PairLaws.{AlikeAreNotApart, AreAlikeAt, RowsAreAlike, StandInTurn}
use Rattle.run_comparisons.specs.SideBySide.{first_places, found_after, is_nearer, next_row, past, row_of, row_of_those, AreAligned, AreSideBySide}
use Rattle.run_comparisons.proofs.AlikeSteps.{may_share, share_alike}
use Rattle.run_comparisons.proofs.MadePairs.{made_pair}
use Rattle.run_comparisons.proofs.Moved.{first_or_later}

-- ---- what the next row tells

record IsBothNext (before after : List Step) (at : PlacePair) (old new : ℕ) : Type 0 where
  pub first : at.before ≡ old
  pub second : at.after ≡ new
  pub step : Step
  pub other : Step
  pub stands : slice_get before at.before ≡ Some step
  pub beside : slice_get after at.after ≡ Some other
  pub alike : are_alike step other ≡ true

both_next : (before after : List Step) (at : PlacePair) (old new : ℕ) → next_row before after at ≡ Some (Both old new) → IsBothNext before after at old new
both_next before after at old new next = of_those (slice_get before at.before) (slice_get after at.after) refl refl next
  where
    of_two : (step other : Step) → slice_get before at.before ≡ Some step → slice_get after at.after ≡ Some other → (alike near : Bool) → are_alike step other ≡
        alike → cond alike (Both at.before at.after) (cond near (Inserted at.after) (Removed at.before)) ≡ Both old new → IsBothNext before after at old new
    of_two step other found met true near tells is = record {
      first = cc is;
      second = cc is;
      step = step;
      other = other;
      stands = found;
      beside = met;
      alike = tells;
    }
    of_two step other found met false true tells is = absurd (cc is)
    of_two step other found met false false tells is = absurd (cc is)

    of_those : (one two : Option Step) → slice_get before at.before ≡ one → slice_get after at.after ≡ two → row_of_those before after at one two ≡ Some
        (Both old new) → IsBothNext before after at old new
    of_those None None found met is = absurd (cc is)
    of_those (Some step) None found met is = absurd (cc is)
    of_those None (Some other) found met is = absurd (cc is)
    of_those (Some step) (Some other) found met is =
        of_two step other found met (are_alike step other) (is_nearer (found_after step after at.after) (found_after other before at.before)) refl (cc is)

-- no step of the other run that is alike stands there
abbrev Alone : List Step → List Step → PlacePair → Type 0
Alone before after at = (step other : Step) → slice_get before at.before ≡ Some step → slice_get after at.after ≡ Some other → are_alike step other ≡ false

record IsRemovedNext (before after : List Step) (at : PlacePair) (old : ℕ) : Type 0 where
  pub first : at.before ≡ old
  pub step : Step
  pub stands : slice_get before at.before ≡ Some step
  pub alone : Alone before after at

removed_next : (before after : List Step) (at : PlacePair) (old : ℕ) → next_row before after at ≡ Some (Removed old) → IsRemovedNext before after at old
removed_next before after at old next = of_those (slice_get before at.before) (slice_get after at.after) refl refl next
  where
    of_two : (step other : Step) → slice_get before at.before ≡ Some step → slice_get after at.after ≡ Some other → (alike near : Bool) → are_alike step other ≡
        alike → cond alike (Both at.before at.after) (cond near (Inserted at.after) (Removed at.before)) ≡ Removed old → IsRemovedNext before after at old
    of_two step other found met true near tells is = absurd (cc is)
    of_two step other found met false true tells is = absurd (cc is)
    of_two step other found met false false tells is = record {
      first = cc is;
      step = step;
      stands = found;
      alone = λ one two here there.
          let same : step ≡ one = cc (found, here) in
          let too : other ≡ two = cc (met, there) in
          ap (λ s. are_alike s two) (sym same) ∙ ap (are_alike step) (sym too) ∙ tells;
    }

    of_those : (one two : Option Step) → slice_get before at.before ≡ one → slice_get after at.after ≡ two → row_of_those before after at one two ≡ Some
        (Removed old) → IsRemovedNext before after at old
    of_those None None found met is = absurd (cc is)
    of_those (Some step) None found met is = record {
      first = cc is;
      step = step;
      stands = found;
      alone = λ one two here there. absurd (cc (met, there));
    }
    of_those None (Some other) found met is = absurd (cc is)
    of_those (Some step) (Some other) found met is =
        of_two step other found met (are_alike step other) (is_nearer (found_after step after at.after) (found_after other before at.before)) refl (cc is)

record IsInsertedNext (before after : List Step) (at : PlacePair) (new : ℕ) : Type 0 where
  pub second : at.after ≡ new
  pub other : Step
  pub beside : slice_get after at.after ≡ Some other
  pub alone : Alone before after at

inserted_next : (before after : List Step) (at : PlacePair) (new : ℕ) → next_row before after at ≡ Some (Inserted new) → IsInsertedNext before after at new
inserted_next before after at new next = of_those (slice_get before at.before) (slice_get after at.after) refl refl next
  where
    of_two : (step other : Step) → slice_get before at.before ≡ Some step → slice_get after at.after ≡ Some other → (alike near : Bool) → are_alike step other ≡
        alike → cond alike (Both at.before at.after) (cond near (Inserted at.after) (Removed at.before)) ≡ Inserted new → IsInsertedNext before after at new
    of_two step other found met true near tells is = absurd (cc is)
    of_two step other found met false false tells is = absurd (cc is)
    of_two step other found met false true tells is = record {
      second = cc is;
      other = other;
      beside = met;
      alone = λ one two here there.
          let same : step ≡ one = cc (found, here) in
          let too : other ≡ two = cc (met, there) in
          ap (λ s. are_alike s two) (sym same) ∙ ap (are_alike step) (sym too) ∙ tells;
    }

    of_those : (one two : Option Step) → slice_get before at.before ≡ one → slice_get after at.after ≡ two → row_of_those before after at one two ≡ Some
        (Inserted new) → IsInsertedNext before after at new
    of_those None None found met is = absurd (cc is)
    of_those (Some step) None found met is = absurd (cc is)
    of_those None (Some other) found met is = record {
      second = cc is;
      other = other;
      beside = met;
      alone = λ one two here there. absurd (cc (found, here));
    }
    of_those (Some step) (Some other) found met is =
        of_two step other found met (are_alike step other) (is_nearer (found_after step after at.after) (found_after other before at.before)) refl (cc is)

-- ---- rows of both

window_alike : (before after : List Step) (at : PlacePair) (rows : List Row) (old new : ℕ) → AreAligned before after at rows → Contains rows (Both old new) →
    AreAlikeAt before after old new
window_alike before after at [] old new aligned there = absurd (omega (arith, there.1))
window_alike before after at (row ∷ rows) old new aligned there = elim (first_or_later row (Both old new) rows there) [
  | inl is ↦
      let next = both_next before after at old new (aligned.0 ∙ ap Some is) in
      record {
        step = next.step;
        other = next.other;
        stands = ap (slice_get before) (sym next.first) ∙ next.stands;
        beside = ap (slice_get after) (sym next.second) ∙ next.beside;
        alike = may_share next.step next.other next.alike;
      }
  | inr rest ↦ window_alike before after (past row at) rows old new aligned.1 rest
]

from_take : (n : ℕ) (steps : List Step) (i : ℕ) (step : Step) → slice_get (take n steps) i ≡ Some step → slice_get steps i ≡ Some step
from_take zero steps i step found = absurd (cc found)
from_take (suc n) [] i step found = absurd (cc found)
from_take (suc n) (first ∷ steps) zero step found = found
from_take (suc n) (first ∷ steps) (suc i) step found = from_take n steps i step found

run_alike : (before after : List Step) (events : List PlacePair) (at : PlacePair) (rows : List Row) (old new : ℕ) → AreSideBySide before after events at rows →
    All (λ event. AreAlikeAt before after event.before event.after) events → Contains rows (Both old new) → AreAlikeAt before after old new
run_alike before after [] at rows old new aligned alike there = window_alike before after at rows old new aligned there
run_alike before after (event ∷ events) at rows old new aligned alike there =
    let within = subst (λ (list : List Row). Contains list (Both old new)) aligned.2 there in
    elim (Contains-append_cases aligned.0 (row_of event ∷ aligned.1) (Both old new) within) [
      | inl window ↦
          let one = window_alike (take event.before before) (take event.after after) at aligned.0 old new aligned.3 window in
          record {
            step = one.step;
            other = one.other;
            stands = from_take event.before before old one.step one.stands;
            beside = from_take event.after after new one.other one.beside;
            alike = one.alike;
          }
      | inr later ↦ elim (first_or_later (row_of event) (Both old new) aligned.1 later) [
        | inl is ↦
            let first : event.before ≡ old = cc is in
            let second : event.after ≡ new = cc is in
            subst (λ n. AreAlikeAt before after old n) second
            (subst (λ n. AreAlikeAt before after n event.after) first
            (All-head (λ (one : PlacePair). AreAlikeAt before after one.before one.after) event events alike))
        | inr rest ↦ run_alike before after events (past (row_of event) at) aligned.1 old new aligned.4
            (All-tail (λ (one : PlacePair). AreAlikeAt before after one.before one.after) event events alike) rest
      ]
    ]

pub rows_are_alike : RowsAreAlike
rows_are_alike pair old new is there =
    let made = made_pair pair is in
    run_alike pair.before.session.steps pair.after.session.steps made.events first_places pair.rows old new made.aligned made.met.alike there

-- ---- neighbours

-- the steps are there, and are not alike
record AreUnlikeAt (before after : List Step) (old new : ℕ) : Type 0 where
  pub step : Step
  pub other : Step
  pub stands : slice_get before old ≡ Some step
  pub beside : slice_get after new ≡ Some other
  pub unlike : are_alike step other ≡ false

-- a row of the first run before one of the second
removed_first : (before after : List Step) (at : PlacePair) (row next : Row) (old new : ℕ) → next_row before after at ≡ Some row → next_row before after
    (past row at) ≡ Some next → row ≡ Removed old → next ≡ Inserted new → AreUnlikeAt before after old new
removed_first before after at row next old new one two is too =
    let first = removed_next before after at old (one ∙ ap Some is) in
    let second = inserted_next before after (past (Removed old) at) new (ap (λ (r : Row). next_row before after (past r at)) (sym is) ∙ two ∙ ap Some too) in
    record {
      step = first.step;
      other = second.other;
      stands = ap (slice_get before) (sym first.first) ∙ first.stands;
      beside = ap (slice_get after) (sym second.second) ∙ second.beside;
      unlike = first.alone first.step second.other first.stands second.beside;
    }

-- and one of the second before one of the first
inserted_first : (before after : List Step) (at : PlacePair) (row next : Row) (old new : ℕ) → next_row before after at ≡ Some row → next_row before after
    (past row at) ≡ Some next → row ≡ Inserted new → next ≡ Removed old → AreUnlikeAt before after old new
inserted_first before after at row next old new one two is too =
    let first = inserted_next before after at new (one ∙ ap Some is) in
    let second = removed_next before after (past (Inserted new) at) old (ap (λ (r : Row). next_row before after (past r at)) (sym is) ∙ two ∙ ap Some too) in
    record {
      step = second.step;
      other = first.other;
      stands = ap (slice_get before) (sym second.first) ∙ second.stands;
      beside = ap (slice_get after) (sym first.second) ∙ first.beside;
      unlike = first.alone second.step first.other second.stands first.beside;
    }

window_unlike : (before after : List Step) (at : PlacePair) (rows : List Row) (k old new : ℕ) → AreAligned before after at rows →
    StandInTurn rows k (Removed old) (Inserted new) ⊎ StandInTurn rows k (Inserted new) (Removed old) → AreUnlikeAt before after old new
window_unlike before after at [] k old new aligned (inl both) = absurd (cc both.0)
window_unlike before after at [] k old new aligned (inr both) = absurd (cc both.0)
window_unlike before after at (row ∷ []) k old new aligned (inl both) = absurd (cc both.1)
window_unlike before after at (row ∷ []) k old new aligned (inr both) = absurd (cc both.1)
window_unlike before after at (row ∷ next ∷ rows) zero old new aligned (inl both) =
    removed_first before after at row next old new aligned.0 aligned.1.0 (cc both.0) (cc both.1)
window_unlike before after at (row ∷ next ∷ rows) zero old new aligned (inr both) =
    inserted_first before after at row next old new aligned.0 aligned.1.0 (cc both.0) (cc both.1)
window_unlike before after at (row ∷ next ∷ rows) (suc k) old new aligned both =
    window_unlike before after (past row at) (next ∷ rows) k old new aligned.1 both

-- neighbours stand on one side of a row that is neither
on_one_side : (window rest : List Row) (mid one two : Row) (k : ℕ) → (mid ≡ one → ⊥) → (mid ≡ two → ⊥) → StandInTurn (window ++ mid ∷ rest) k one two →
    StandInTurn window k one two ⊎ ((j : ℕ) × StandInTurn rest j one two)
on_one_side [] rest mid one two zero not nor both = absurd (not (cc both.0))
on_one_side [] rest mid one two (suc k) not nor both = inr (k, both)
on_one_side (row ∷ []) rest mid one two zero not nor both = absurd (nor (cc both.1))
on_one_side (row ∷ next ∷ window) rest mid one two zero not nor both = inl both
on_one_side (row ∷ window) rest mid one two (suc k) not nor both = on_one_side window rest mid one two k not nor both

-- of either order
sides : (window rest : List Row) (event : PlacePair) (k old new : ℕ) → StandInTurn (window ++ row_of event ∷ rest) k (Removed old) (Inserted new)
    ⊎ StandInTurn (window ++ row_of event ∷ rest) k (Inserted new) (Removed old)
    → (StandInTurn window k (Removed old) (Inserted new) ⊎ StandInTurn window k (Inserted new) (Removed old))
    ⊎ ((j : ℕ) × (StandInTurn rest j (Removed old) (Inserted new) ⊎ StandInTurn rest j (Inserted new) (Removed old)))
sides window rest event k old new (inl both) =
    elim (on_one_side window rest (row_of event) (Removed old) (Inserted new) k (λ is. cc is) (λ is. cc is) both) [
      | inl here ↦ inl (inl here)
      | inr later ↦ inr (later.0, inl later.1)
    ]
sides window rest event k old new (inr both) =
    elim (on_one_side window rest (row_of event) (Inserted new) (Removed old) k (λ is. cc is) (λ is. cc is) both) [
      | inl here ↦ inl (inr here)
      | inr later ↦ inr (later.0, inr later.1)
    ]

run_unlike : (before after : List Step) (events : List PlacePair) (at : PlacePair) (rows : List Row) (k old new : ℕ) → AreSideBySide before after events at rows →
    StandInTurn rows k (Removed old) (Inserted new) ⊎ StandInTurn rows k (Inserted new) (Removed old) → AreUnlikeAt before after old new
run_unlike before after [] at rows k old new aligned both = window_unlike before after at rows k old new aligned both
run_unlike before after (event ∷ events) at rows k old new aligned both =
    elim (sides aligned.0 aligned.1 event k old new (subst
    (λ (list : List Row). StandInTurn list k (Removed old) (Inserted new) ⊎ StandInTurn list k (Inserted new) (Removed old)) aligned.2 both)) [
      | inl here ↦
          let one = window_unlike (take event.before before) (take event.after after) at aligned.0 k old new aligned.3 here in
          record {
            step = one.step;
            other = one.other;
            stands = from_take event.before before old one.step one.stands;
            beside = from_take event.after after new one.other one.beside;
            unlike = one.unlike;
          }
      | inr later ↦ run_unlike before after events (past (row_of event) at) aligned.1 later.0 old new aligned.4 later.1
    ]

pub alike_are_not_apart : AlikeAreNotApart
alike_are_not_apart pair old new is neighbours alike =
    let made = made_pair pair is in
    let one = run_unlike pair.before.session.steps pair.after.session.steps made.events first_places pair.rows neighbours.0 old new made.aligned neighbours.1 in
    let step : one.step ≡ alike.step = cc (one.stands, alike.stands) in
    let other : one.other ≡ alike.other = cc (one.beside, alike.beside) in
    let same = ap (λ s. are_alike s alike.other) step ∙ share_alike alike.step alike.other alike.alike in
    let not = ap (are_alike one.step) (sym other) ∙ one.unlike in
    cc (same, not)
