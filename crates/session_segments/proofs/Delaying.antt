-- How many segments have a delay until a tick count.
use Rattle.std.proofs.Common.{◌≡◌, ℕ, zero, suc, ◌+◌, ◌-◌, ◌<◌, ◌≤◌, Bool, true, false, cond, ltb, ◌||◌, List, [], ◌∷◌, ◌++◌, length, map, take, drop, refl}
use Rattle.std.proofs.Common.{sym, ap, ap₂, ◌∙◌, arith}
use Rattle.std.specs.List.{count_by}
use Rattle.std.proofs.lemmas.Bool.Decides.{nat_tests}
use Rattle.std.proofs.lemmas.List.{take-append-drop, drop-drop}
use Rattle.std.proofs.lemmas.List.Sums.{sum_by-append}
use Rattle.bench_model.specs.Shifted.{some_delays_until}
use Rattle.segment_laws.specs.Segments.{SegmentView, steps_of, all_steps}
use Rattle.session_segments.specs.Meetings.{count_delaying, IsUnreadFrom}
use Rattle.session_segments.proofs.Unread.{both, unread_drop}

abbrev one : SegmentView → ℕ
one segment = cond (some_delays_until segment.steps) 1 0

count-append : (segments others : List SegmentView) → count_delaying (segments ++ others) ≡ count_delaying segments + count_delaying others
count-append segments others = sum_by-append one segments others

-- segments of the same steps
pub count_alike : (segments others : List SegmentView) → map steps_of segments ≡ map steps_of others → count_delaying segments ≡ count_delaying others
count_alike segments others same = by_steps segments ∙ ap (count_by some_delays_until) same ∙ sym (by_steps others)
  where
    by_steps : (segments : List SegmentView) → count_delaying segments ≡ count_by some_delays_until (map steps_of segments)
    by_steps [] = refl
    by_steps (segment ∷ segments) =
        count-append (segment ∷ []) segments ∙ ap (λ n. count_delaying (segment ∷ []) + n) (by_steps segments)
        ∙ sym (sum_by-append (λ steps. cond (some_delays_until steps) 1 0) (segment.steps ∷ []) (map steps_of segments))

-- those between two places are some of all, and others take their place
module _ (segments made : List SegmentView) (from to : ℕ) (order : from ≤ to) where
  abbrev pub between : List SegmentView
  between = take (to - from) (drop from segments)

  parts : count_delaying segments ≡ count_delaying (take from segments) + (count_delaying between + count_delaying (drop to segments))
  parts =
      let reach : from + (to - from) ≡ to = omega (arith, order) in
      ap count_delaying (sym (take-append-drop from segments)) ∙ count-append (take from segments) (drop from segments)
      ∙ ap (λ n. count_delaying (take from segments) + n)
      (ap count_delaying (sym (take-append-drop (to - from) (drop from segments))) ∙ count-append between (drop (to - from) (drop from segments))
      ∙ ap (λ (rest : List SegmentView). count_delaying between + count_delaying rest) (drop-drop (to - from) from segments ∙ ap (λ n. drop n segments) reach))

  pub fewer_than_all : count_delaying between ≤ count_delaying segments
  fewer_than_all = omega (arith, parts)

  pub count_exchanged : count_delaying (take from segments ++ made ++ drop to segments) ≡ (count_delaying segments - count_delaying between) + count_delaying
      made
  count_exchanged =
      let whole = count-append (take from segments ++ made) (drop to segments) in
      let front = count-append (take from segments) made in
      omega (arith, parts, whole, front)

-- where there is none, none stands from the first on
none_reads : (segments : List SegmentView) → count_delaying segments ≡ 0 → some_delays_until (all_steps segments) ≡ false
none_reads [] none = refl
none_reads (segment ∷ segments) none =
    let first : count_delaying (segment ∷ []) ≡ one segment = omega arith in
    let parts : one segment + count_delaying segments ≡ 0 = ap (λ n. n + count_delaying segments) (sym first) ∙ sym (count-append (segment ∷ []) segments) ∙
    none in
    both segment segments ∙ at (some_delays_until segment.steps) parts (none_reads segments (omega (arith, parts)))
  where
    at : (b : Bool) → cond b 1 0 + count_delaying segments ≡ 0 → some_delays_until (all_steps segments) ≡ false → (b || some_delays_until (all_steps segments))
        ≡ false
    at true none rest = absurd (omega (arith, none))
    at false none rest = rest

pub unread_of_none : (segments : List SegmentView) → count_delaying segments ≡ 0 → IsUnreadFrom segments 0
unread_of_none segments none index =
    unread_drop index segments (none_reads segments none)
    ∙ (let past : ltb index 0 ≡ false = grind (arith, nat_tests) in sym past)
