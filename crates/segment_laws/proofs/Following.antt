-- Segments that follow one another: their front, their rest, and each one's kernel.
use Rattle.std.proofs.Common.{◌≡◌, ℕ, zero, suc, List, [], ◌∷◌, ◌++◌, length, take, drop, refl, sym, ap, subst, ◌∙◌, arith}
use Rattle.std.specs.Prelude.{All, Some, slice_get}
use Rattle.std.proofs.lemmas.Grind.{flat_map-append}
use Rattle.std.proofs.lemmas.List.{take_all, take_at, drop_at, take-append-drop}
use Rattle.std.proofs.lemmas.List.Sums.{fold-append}
use Rattle.std.proofs.lemmas.List.Elements.{All-take, All-drop, All-same}
use Rattle.std.proofs.lemmas.Option.{same_Some}
use Rattle.bench_types.specs.declared.step.Step.{Step}
use Rattle.bench_types.specs.Step.{IsCheckedStep}
use Rattle.bench_model.specs.Equal.{Same, StandsFor}
use Rattle.bench_model.specs.Lists.{View}
use Rattle.bench_model.specs.Session.{step_of, state_after}
use Rattle.bench_model.specs.Sound.{IsSound}
use Rattle.bench_model.specs.Table.{Table}
use Rattle.meeting_laws.proofs.Going.{stand_alike}
use Rattle.step_laws.proofs.Along.{sound_along, settings_along}
use Rattle.meeting_laws.proofs.Runs.{run_alike}
use Rattle.segment_laws.specs.Segments.{SegmentView, steps_of, all_steps, Follow}

-- ---- lists

module _ {X : Type 0} where
  -- a list is what stands before an item, the item, and what stands after it
  pub split_at : (xs : List X) (index : ℕ) (x : X) → slice_get xs index ≡ Some x → xs ≡ take index xs ++ x ∷ drop (suc index) xs
  split_at [] index x found = absurd (cc found)
  split_at (y ∷ ys) zero x found = ap (λ z. z ∷ ys) (same_Some y x found)
  split_at (y ∷ ys) (suc index) x found = ap (λ zs. y ∷ zs) (split_at ys index x found)

  -- the items up to it and with it
  pub take_with : (xs : List X) (index : ℕ) (x : X) → slice_get xs index ≡ Some x → take (suc index) xs ≡ take index xs ++ x ∷ []
  take_with [] index x found = absurd (cc found)
  take_with (y ∷ ys) zero x found = ap (λ z. z ∷ []) (same_Some y x found)
  take_with (y ∷ ys) (suc index) x found = ap (λ zs. y ∷ zs) (take_with ys index x found)

  -- an item is the first of those from it on
  pub take_found : (xs : List X) (count : ℕ) → slice_get xs count ≡ slice_get (drop count xs) 0
  take_found xs zero = refl
  take_found [] (suc count) = refl
  take_found (x ∷ xs) (suc count) = take_found xs count

  pub All_front : (P : X → Type 0) (xs ys : List X) → All P (xs ++ ys) → All P xs
  All_front P xs ys all = All-same P xs (take (length xs) (xs ++ ys)) (sym (take_at xs ys (length xs) refl)) (All-take P (length xs) (xs ++ ys) all)

  pub All_back : (P : X → Type 0) (xs ys : List X) → All P (xs ++ ys) → All P ys
  All_back P xs ys all = All-same P ys (drop (length xs) (xs ++ ys)) (sym (drop_at xs ys (length xs) refl)) (All-drop P (length xs) (xs ++ ys) all)

-- ---- steps

-- the steps of two lists of segments
pub all_more : (first second : List SegmentView) → all_steps (first ++ second) ≡ all_steps first ++ all_steps second
all_more first second = flat_map-append steps_of first second

-- so many of the segments and the others
pub segments_split : (count : ℕ) (segments : List SegmentView) → all_steps segments ≡ all_steps (take count segments) ++ all_steps (drop count segments)
segments_split count segments = ap all_steps (sym (take-append-drop count segments)) ∙ all_more (take count segments) (drop count segments)

-- the steps of the segments before one, its own, and those after it
pub all_split : (segments : List SegmentView) (index : ℕ) (segment : SegmentView) → slice_get segments index ≡ Some segment → all_steps segments ≡ all_steps
    (take index segments) ++ (segment.steps ++ all_steps (drop (suc index) segments))
all_split segments index segment found =
    ap all_steps (split_at segments index segment found) ∙ all_more (take index segments) (segment ∷ drop (suc index) segments)

-- the state after steps that follow others
pub state_append : (table : Table) (first second : List Step) → state_after table (first ++ second) ≡ state_after (state_after table first) second
state_append table first second = fold-append (λ table step. (step_of step table).1) table first second

-- ---- segments

pub follow_append : (first second : List SegmentView) (table : Table) → Follow table first → Follow (state_after table (all_steps first)) second → Follow table
    (first ++ second)
follow_append [] second table front back = back
follow_append (segment ∷ first) second table front back = (
  front.0,
  follow_append first second (state_after table segment.steps) front.1
      (subst (λ state. Follow state second) (state_append table segment.steps (all_steps first)) back),
)

pub follow_front : (first second : List SegmentView) (table : Table) → Follow table (first ++ second) → Follow table first
follow_front [] second table follow = tt
follow_front (segment ∷ first) second table follow = (follow.0, follow_front first second (state_after table segment.steps) follow.1)

pub follow_back : (first second : List SegmentView) (table : Table) → Follow table (first ++ second) → Follow (state_after table (all_steps first)) second
follow_back [] second table follow = follow
follow_back (segment ∷ first) second table follow =
    subst (λ state. Follow state second) (sym (state_append table segment.steps (all_steps first)))
    (follow_back first second (state_after table segment.steps) follow.1)

-- so many of them, and those after these
pub follow_take : (count : ℕ) (segments : List SegmentView) (table : Table) → Follow table segments → Follow table (take count segments)
follow_take count segments table follow =
    follow_front (take count segments) (drop count segments) table (subst (Follow table) (sym (take-append-drop count segments)) follow)

pub follow_drop : (count : ℕ) (segments : List SegmentView) (table : Table) → Follow table segments → Follow
    (state_after table (all_steps (take count segments))) (drop count segments)
follow_drop count segments table follow =
    follow_back (take count segments) (drop count segments) table (subst (Follow table) (sym (take-append-drop count segments)) follow)

-- the kernel of the first one
pub kernel_at : (segments : List SegmentView) (table : Table) (segment : SegmentView) → Follow table segments → slice_get segments 0 ≡ Some segment → StandsFor
    segment.kernel table
kernel_at [] table segment follow found = absurd (cc found)
kernel_at (first ∷ segments) table segment follow found = subst (λ (one : SegmentView). StandsFor one.kernel table) (same_Some first segment found) follow.0

pub segment_follows : (table : Table) (segments : List SegmentView) (index : ℕ) (segment : SegmentView) → Follow table segments → slice_get segments index ≡
    Some segment → StandsFor segment.kernel (state_after table (all_steps (take index segments)))
segment_follows table segments index segment follow found =
    kernel_at (drop index segments) (state_after table (all_steps (take index segments))) segment (follow_drop index segments table follow)
    (sym (take_found segments index) ∙ found)
