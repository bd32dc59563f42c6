-- The row after a step, which the segment with the step tells.
use Rattle.std.proofs.Common.{◌≡◌, ℕ, suc, ◌-◌, ◌<◌, ◌≤◌, List, [], ◌∷◌, length, take, get_or, Some, None, refl, sym, ap, ap₂, ◌∙◌, arith}
use Rattle.std.specs.Prelude.{slice_get, Bool, true, false, nat_le, nat_lt, if◌then◌else◌}
use Rattle.std.proofs.lemmas.Bool.Decides.{nat_tests}
use Rattle.std.proofs.lemmas.Option.{slice_get-get_or, slice_get_past, slice_get_within}
use Rattle.bench_types.specs.declared.header.Header.{Header}
use Rattle.bench_types.specs.declared.step.Step.{Step}
use Rattle.bench_types.specs.declared.step.Step.TheVariants.{Tick}
use Rattle.bench_model.specs.Control.{running}
use Rattle.bench_model.specs.Session.{step_of, state_after, state_at, running_at}
use Rattle.bench_model.specs.Start.{start}
use Rattle.bench_model.specs.Table.{Table}
use Rattle.segment_laws.specs.Segments.{SegmentView, all_steps, lengths, starts, IsIndexOf, running_after}
use Rattle.segment_laws.proofs.Following.{take_with, state_append}
use Rattle.session_store.specs.Kept.{IsKept}
use Rattle.session_store.proofs.StoreReads.{read_at, row_length}
use Rattle.session_store.proofs.StoreStates.{checked_read}

-- one step more from a table on
row_shown : (table : Table) (steps : List Step) (count : ℕ) (step : Step) → slice_get steps count ≡ Some step → running_after table steps (suc count) ≡ Some
    (running (step_of step (state_after table (take count steps))).1.control)
row_shown table steps count step found =
    let within : nat_le (suc count) (length steps) ≡ true = grind (arith, nat_tests, slice_get_within steps count step found) in
    let more : state_after table (take (suc count) steps) ≡ (step_of step (state_after table (take count steps))).1 = ap (state_after table)
    (take_with steps count step found) ∙ state_append table (take count steps) (step ∷ []) in
    ap₂ (λ (b : Bool) (t : Table). if b then Some (running t.control) else None) within more

from_start : (header : Header) (steps : List Step) (place : ℕ) → running_at header steps place ≡ running_after (start header) steps place
unfolding running_at state_at
from_start header steps place = refl

state_from_start : (header : Header) (steps : List Step) (place : ℕ) → state_at header steps place ≡ state_after (start header) (take place steps)
unfolding state_at
state_from_start header steps place = refl

both_rows : (header : Header) (steps : List Step) (table : Table) (own : List Step) (place count : ℕ) (step : Step) → slice_get steps place ≡ Some step →
    slice_get own count ≡ Some step → state_at header steps place ≡ state_after table (take count own)
    → running_after table own (suc count) ≡ running_at header steps (suc place)
both_rows header steps table own place count step found there same =
    let after = λ (t : Table). Some (running (step_of step t).1.control) in
    row_shown table own count step there ∙ ap after (sym same ∙ state_from_start header steps place) ∙ sym (row_shown (start header) steps place step found) ∙
    sym (from_start header steps (suc place))

-- one list has an item where the other has
early_too : (one other : List Step) (i k : ℕ) → slice_get one i ≡ slice_get other k → i < length one → k < length other
early_too one other i k same early = at (nat_lt k (length other)) refl
  where
    at : (b : Bool) → nat_lt k (length other) ≡ b → k < length other
    at true is = grind (arith, nat_tests, is)
    at false is =
        let past : length other ≤ k = grind (arith, nat_tests, is) in
        absurd (cc (slice_get-get_or one i Tick early, same, slice_get_past other k past))

module _ (header : Header) (span : ℕ) (segments : List SegmentView) (kept : IsKept header span segments) (place index from : ℕ) (segment : SegmentView)
    (is : IsIndexOf (starts 0 (lengths segments)) place index from) (found : slice_get segments index ≡ Some segment) where
  same_step : slice_get (all_steps segments) place ≡ slice_get segment.steps (place - from)
  same_step = (read_at header span segments kept place index from segment is found).step

  pub early_own : place < length (all_steps segments) → place - from < length segment.steps
  early_own early = early_too (all_steps segments) segment.steps place (place - from) same_step early

  -- the row at the place, as the segment tells it, and what it has after the step there
  pub row_here : (row : List ℕ) → running_at header (all_steps segments) place ≡ Some row → running_after (state_at header (all_steps segments) from)
      segment.steps (place - from) ≡ Some row
  row_here row runs = sym (read_at header span segments kept place index from segment is found).row ∙ runs

  pub row_own : (row : List ℕ) → place < length (all_steps segments) → running_after (state_at header (all_steps segments) from) segment.steps
      (suc (place - from)) ≡ Some row → running_at header (all_steps segments) (suc place) ≡ Some row
  row_own row early shown =
      let reads = read_at header span segments kept place index from segment is found in
      let step = get_or (all_steps segments) place Tick in
      let there : slice_get (all_steps segments) place ≡ Some step = slice_get-get_or (all_steps segments) place Tick early in
      sym (both_rows header (all_steps segments) (state_at header (all_steps segments) from) segment.steps place (place - from) step there
      (sym same_step ∙ there) reads.state) ∙ shown

  pub row_cores : (row : List ℕ) → running_at header (all_steps segments) place ≡ Some row → length row ≡ segment.kernel.settings.cores
  row_cores row runs =
      let reads = read_at header span segments kept place index from segment is found in
      row_length segment.kernel segment.steps segment.kernel.settings.cores refl (state_at header (all_steps segments) from) reads.stands
      (checked_read header span segments kept place index from segment is found) (place - from) row (row_here row runs)
