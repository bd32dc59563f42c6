-- Segments that become so many ticks later, one after another.
use Rattle.std.proofs.Common.{◌≡◌, ℕ, suc, false, cond, eqb, ◌+◌, ◌-◌, ◌<◌, ◌≤◌, List, [], ◌∷◌, ◌++◌, length, map, take, drop, refl, sym, ap, ap₂, subst, ◌∙◌}
use Rattle.std.proofs.Common.{arith}
use Rattle.std.specs.Prelude.{Some, slice_get, slice_set}
use Rattle.std.proofs.lemmas.Bool.Decides.{nat_tests}
use Rattle.std.proofs.lemmas.List.{append-nil, append_assoc, drop_all, length-drop, length-map, length-take-le, map-append, take-append-drop, take_all}
use Rattle.segment_laws.specs.Segments.{SegmentView, later_segment, later_segments}
use Rattle.segment_laws.proofs.Following.{take_with}
use Rattle.session_segments.proofs.Replaying.{found_there, set_there}

-- the segments of which those up to the index are later
abbrev pub so_far : ℕ → List SegmentView → ℕ → ℕ → List SegmentView
so_far by old from index =
    take from old ++ map (later_segment by) (take (index - from) (drop from old)) ++ drop (index - from) (drop from old)

pub shift_starts : (by : ℕ) (old : List SegmentView) (from : ℕ) → old ≡ so_far by old from from
shift_starts by old from =
    let none : 0 ≡ from - from = omega arith in
    sym (take-append-drop from old)
    ∙ ap (λ xs. xs ++ drop from old) (sym (append-nil (take from old)))
    ∙ ap (λ n. take from old ++ map (later_segment by) (take n (drop from old)) ++ drop n (drop from old)) none

module _ (by : ℕ) (old : List SegmentView) (from index : ℕ) (order : from ≤ index) (early : index < length old) where
  abbrev made : List SegmentView
  made = map (later_segment by) (take (index - from) (drop from old))

  front_size : length (take from old) ≡ from
  front_size = length-take-le from old (omega (arith, order, early))

  made_size : length made ≡ index - from
  made_size = length-map (take (index - from) (drop from old)) (later_segment by) ∙ length-take-le (index - from) (drop from old)
      (omega (arith, order, early, length-drop from old))

  place : length (take from old) + (index - from) ≡ index
  place = omega (arith, front_size, order)

  pub shift_found : slice_get (so_far by old from index) index ≡ slice_get (drop from old) (index - from)
  shift_found = ap (slice_get (so_far by old from index)) (sym place) ∙ found_there (take from old) made (drop from old) (index - from) made_size

  pub shift_goes : (segment : SegmentView) → slice_get (drop from old) (index - from) ≡ Some segment → slice_set (so_far by old from index) index
      (later_segment by segment) ≡ so_far by old from (index + 1)
  shift_goes segment found =
      let next : index - from + 1 ≡ index + 1 - from = omega (arith, order) in
      let more : suc (index - from) ≡ index + 1 - from = omega (arith, order) in
      let longer : made ++ later_segment by segment ∷ [] ≡ map (later_segment by) (take (index + 1 - from) (drop from old)) =
      sym (map-append (later_segment by) (take (index - from) (drop from old)) (segment ∷ []))
      ∙ ap (map (later_segment by)) (sym (take_with (drop from old) (index - from) segment found) ∙ ap (λ n. take n (drop from old)) more) in
      ap (λ n. slice_set (so_far by old from index) n (later_segment by segment)) (sym place)
      ∙ set_there (take from old) made (drop from old) (index - from) segment (later_segment by segment) made_size found
      ∙ ap₂ (λ xs n. take from old ++ xs ++ drop n (drop from old)) longer next

pub shift_ends : (by : ℕ) (old : List SegmentView) (from index : ℕ) → (by ≡ 0 → ⊥) → from ≤ length old → length old ≤ index → so_far by old from index ≡ take
    from old ++ later_segments by (drop from old)
shift_ends by old from index some within all =
    let past : length (drop from old) ≤ index - from = omega (arith, within, all, length-drop from old) in
    let other : eqb by 0 ≡ false = grind (arith, nat_tests, some) in
    ap₂ (λ xs ys. take from old ++ map (later_segment by) xs ++ ys) (take_all (index - from) (drop from old) past)
    (drop_all (index - from) (drop from old) past)
    ∙ append-nil (take from old ++ map (later_segment by) (drop from old))
    ∙ ap (λ b. take from old ++ cond b (drop from old) (map (later_segment by) (drop from old))) (sym other)

-- by no ticks
pub shift_none : (by : ℕ) (old : List SegmentView) (from : ℕ) → by ≡ 0 → old ≡ take from old ++ later_segments by (drop from old)
shift_none by old from none = sym (take-append-drop from old) ∙ ap (λ n. take from old ++ later_segments n (drop from old)) (sym none)
