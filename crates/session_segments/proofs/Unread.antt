-- Which segments have a delay until a tick count.
use Rattle.std.proofs.Common.{◌≡◌, ◌⊎◌, inl, inr, ⊎_elim, ℕ, zero, suc, ◌+◌, ◌-◌, ◌<◌, ◌≤◌, Bool, true, false, ltb, ◌||◌, List, [], ◌∷◌, ◌++◌, length, map}
use Rattle.std.proofs.Common.{drop, refl, sym, ap, ap₂, subst, ◌∙◌, arith}
use Rattle.std.specs.Prelude.{IfSome, None, Option, Some, slice_get, slice_set}
use Rattle.std.proofs.Math.Bool.{or-true}
use Rattle.std.proofs.lemmas.Bool.{or_parts}
use Rattle.std.proofs.lemmas.Bool.Decides.{nat_tests}
use Rattle.std.proofs.lemmas.List.{drop-drop, drop-map}
use Rattle.std.proofs.lemmas.List.Folds.{flat_map-map, list_any-append}
use Rattle.std.proofs.lemmas.Option.{same_Some}
use Rattle.std.specs.List.{flat_map}
use Rattle.bench_types.specs.declared.step.Step.{Step}
use Rattle.bench_model.specs.Shifted.{delays_until, some_delays_until}
use Rattle.segment_laws.specs.Segments.{SegmentView, steps_of, all_steps}
use Rattle.session_segments.specs.Meetings.{IsUnreadFrom}
use Rattle.session_segments.proofs.Replaying.{drop_found, joined, own_steps}

-- a segment and those after it
pub both : (segment : SegmentView) (rest : List SegmentView) → some_delays_until (all_steps (segment ∷ rest)) ≡
    (some_delays_until segment.steps || some_delays_until (all_steps rest))
both segment rest = list_any-append delays_until segment.steps (all_steps rest)

-- what no step of some segments does, no step of the last of them does
pub unread_drop : (n : ℕ) (segments : List SegmentView) → some_delays_until (all_steps segments) ≡ false → some_delays_until (all_steps (drop n segments)) ≡
    false
unread_drop zero segments unread = unread
unread_drop (suc n) [] unread = refl
unread_drop (suc n) (segment ∷ segments) unread =
    unread_drop n segments (or_parts (some_delays_until segment.steps) (some_delays_until (all_steps segments)) (sym (both segment segments) ∙ unread)).1

-- nor does any step of one of them
pub unread_one : (segments : List SegmentView) (k : ℕ) (segment : SegmentView) → slice_get segments k ≡ Some segment → some_delays_until (all_steps segments) ≡
    false → some_delays_until segment.steps ≡ false
unread_one [] k segment found unread = absurd (cc found)
unread_one (first ∷ segments) zero segment found unread =
    subst (λ (one : SegmentView). some_delays_until one.steps ≡ false) (same_Some first segment found)
    (or_parts (some_delays_until first.steps) (some_delays_until (all_steps segments)) (sym (both first segments) ∙ unread)).0
unread_one (first ∷ segments) (suc k) segment found unread =
    unread_one segments k segment found (or_parts (some_delays_until first.steps) (some_delays_until (all_steps segments))
    (sym (both first segments) ∙ unread)).1

-- one segment more in front
pub unread_more : (segments : List SegmentView) (k : ℕ) (segment : SegmentView) → slice_get segments k ≡ Some segment → some_delays_until segment.steps ≡ false
    → some_delays_until (all_steps (drop (suc k) segments)) ≡ false → some_delays_until (all_steps (drop k segments)) ≡ false
unread_more segments k segment found own rest =
    ap (λ (rest : List SegmentView). some_delays_until (all_steps rest)) (drop_found segments k segment found)
    ∙ both segment (drop (suc k) segments) ∙ ap₂ (λ x y. x || y) own rest

-- a segment with such a step, and those before it
read_before : (segments : List SegmentView) (index k : ℕ) (segment : SegmentView) → slice_get segments k ≡ Some segment → some_delays_until segment.steps ≡ true
    → index ≤ k → some_delays_until (all_steps (drop index segments)) ≡ true
read_before [] index k segment found reads before = absurd (cc found)
read_before (first ∷ segments) (suc index) zero segment found reads before = absurd (omega (arith, before))
read_before (first ∷ segments) (suc index) (suc k) segment found reads before = read_before segments index k segment found reads (omega (arith, before))
read_before (first ∷ segments) zero zero segment found reads before =
    let own : some_delays_until first.steps ≡ true = subst (λ (one : SegmentView). some_delays_until one.steps ≡ true) (sym (same_Some first segment found))
    reads in
    both first segments ∙ ap (λ x. x || some_delays_until (all_steps segments)) own
read_before (first ∷ segments) zero (suc k) segment found reads before =
    both first segments
    ∙ ap (λ x. some_delays_until first.steps || x) (read_before segments 0 k segment found reads (omega arith))
    ∙ or-true (some_delays_until first.steps)

pub unread_from : (segments : List SegmentView) (from : ℕ) → some_delays_until (all_steps (drop from segments)) ≡ false →
    ((k : ℕ) → from ≡ suc k → (segment : SegmentView) × (slice_get segments k ≡ Some segment) × (some_delays_until segment.steps ≡ true)) → IsUnreadFrom
    segments from
unread_from segments from unread reads index = at (ltb index from) refl
  where
    last : (n : ℕ) → from ≡ n → index < n → some_delays_until (all_steps (drop index segments)) ≡ true
    last zero is below = absurd (omega (arith, below))
    last (suc k) is below = let one = reads k is in read_before segments index k one.0 one.1 one.2 (omega (arith, below))

    at : (b : Bool) → ltb index from ≡ b → some_delays_until (all_steps (drop index segments)) ≡ b
    at true is = last from refl (grind (arith, nat_tests, is))
    at false is =
        let past : from ≤ index = grind (arith, nat_tests, is) in
        let there : from + (index - from) ≡ index = omega (arith, past) in
        ap (λ n. some_delays_until (all_steps (drop n segments))) (sym there)
        ∙ ap (λ (rest : List SegmentView). some_delays_until (all_steps rest)) (sym (drop-drop (index - from) from segments))
        ∙ unread_drop (index - from) (drop from segments) unread

-- it is told by the steps alone
pub unread_alike : (segments others : List SegmentView) (from : ℕ) → map steps_of segments ≡ map steps_of others → IsUnreadFrom segments from → IsUnreadFrom
    others from
unread_alike segments others from same unread index =
    let parts : map steps_of (drop index others) ≡ map steps_of (drop index segments) = sym (drop-map steps_of index others) ∙ ap (drop index) (sym same) ∙
    drop-map steps_of index segments in
    let steps : all_steps (drop index others) ≡ all_steps (drop index segments) = sym (own_steps (drop index others)) ∙ ap joined parts ∙ own_steps
    (drop index segments) in
    ap some_delays_until steps ∙ unread index

-- and a segment in its place has the same steps
pub unread_still : (segments : List SegmentView) (k : ℕ) (segment own : SegmentView) (known : Option ℕ) → slice_get segments k ≡ Some segment → own.steps ≡
    segment.steps → IfSome known (IsUnreadFrom segments) → IfSome known (IsUnreadFrom (slice_set segments k own))
unread_still segments k segment own None found same unread = tt
unread_still segments k segment own (Some from) found same unread = unread_alike segments (slice_set segments k own) from
    (sym (parts_still segments k segment own found same)) unread
  where
    parts_still : (segments : List SegmentView) (k : ℕ) (segment own : SegmentView) → slice_get segments k ≡ Some segment → own.steps ≡ segment.steps → map
        steps_of (slice_set segments k own) ≡ map steps_of segments
    parts_still [] k segment own found same = absurd (cc found)
    parts_still (first ∷ segments) zero segment own found same = ap (λ steps. steps ∷ map steps_of segments)
        (same ∙ ap steps_of (sym (same_Some first segment found)))
    parts_still (first ∷ segments) (suc k) segment own found same = ap (λ parts. first.steps ∷ parts) (parts_still segments k segment own found same)
