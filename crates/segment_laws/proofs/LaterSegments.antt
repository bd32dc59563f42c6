-- Segments whose kernels are so many ticks later: their steps, and that they follow a later state.
use Rattle.std.proofs.Common.{◌≡◌, ◌⊎◌, inl, inr, ⊎_elim, ℕ, zero, suc, ◌+◌, Bool, true, false, cond, eqb, List, [], ◌∷◌, ◌++◌, length, map, take, drop, refl}
use Rattle.std.proofs.Common.{sym, ap, ap₂, subst, ◌∙◌, arith}
use Rattle.std.specs.Prelude.{All, Some, slice_get}
use Rattle.std.specs.List.{flat_map}
use Rattle.std.proofs.lemmas.Bool.{or_parts}
use Rattle.std.proofs.lemmas.Bool.Decides.{nat_tests}
use Rattle.std.proofs.lemmas.Simd.{map-map}
use Rattle.std.proofs.lemmas.List.{take_all}
use Rattle.std.proofs.lemmas.List.Folds.{flat_map-map, list_any-append}
use Rattle.bench_types.specs.declared.step.Step.{Step}
use Rattle.bench_types.specs.Step.{IsCheckedStep}
use Rattle.bench_model.specs.Equal.{StandsFor}
use Rattle.bench_model.specs.Lists.{View, view_of}
use Rattle.bench_model.specs.Session.{state_after}
use Rattle.bench_model.specs.Shifted.{delays_until, shifted, some_delays_until}
use Rattle.bench_model.specs.Sound.{IsSound}
use Rattle.bench_model.specs.Table.{Table}
use Rattle.step_laws.proofs.Along.{sound_along, settings_along}
use Rattle.shift_laws.proofs.LaterTables.{stands_shifted}
use Rattle.shift_laws.proofs.Steps.{not_shifted}
use Rattle.meeting_laws.specs.RunLaws.{MeetBy}
use Rattle.meeting_laws.proofs.Meets.{met_run_alike}
use Rattle.segment_laws.specs.Segments.{SegmentView, steps_of, all_steps, later_segment, later_segments, lengths, Follow}
use Rattle.segment_laws.proofs.Following.{All_front, All_back}

-- ---- what stays

abbrev moved : ℕ → List SegmentView → List SegmentView
moved by segments = map (later_segment by) segments

moved_steps : (by : ℕ) (segments : List SegmentView) → map steps_of (moved by segments) ≡ map steps_of segments
moved_steps by [] = refl
moved_steps by (segment ∷ segments) = ap (λ parts. segment.steps ∷ parts) (moved_steps by segments)

-- the steps of each segment stay
pub later_parts : (by : ℕ) (segments : List SegmentView) → map steps_of (later_segments by segments) ≡ map steps_of segments
later_parts by segments = at (eqb by 0)
  where
    at : (b : Bool) → map steps_of (cond b segments (moved by segments)) ≡ map steps_of segments
    at true = refl
    at false = moved_steps by segments

pub later_steps : (by : ℕ) (segments : List SegmentView) → all_steps (later_segments by segments) ≡ all_steps segments
later_steps by segments =
    sym (flat_map-map (λ (steps : List Step). steps) steps_of (later_segments by segments))
    ∙ ap (flat_map (λ steps. steps)) (later_parts by segments)
    ∙ flat_map-map (λ steps. steps) steps_of segments

pub later_lengths : (by : ℕ) (segments : List SegmentView) → lengths (later_segments by segments) ≡ lengths segments
later_lengths by segments =
    sym (map-map (λ (steps : List Step). length steps) steps_of (later_segments by segments))
    ∙ ap (map (λ steps. length steps)) (later_parts by segments)
    ∙ map-map (λ steps. length steps) steps_of segments

pub later_nothing : (by : ℕ) → later_segments by [] ≡ []
later_nothing by = at (eqb by 0)
  where
    at : (b : Bool) → cond b [] (moved by []) ≡ []
    at true = refl
    at false = refl

-- ---- what moves

-- no ticks later is as it was, where the kernels stand for tables
moved_none : (segments : List SegmentView) (a : Table) → Follow a segments → moved 0 segments ≡ segments
moved_none [] a follow = refl
moved_none (segment ∷ segments) a follow =
    let same : shifted 0 segment.kernel ≡ segment.kernel = sym (ap (shifted 0) follow.0.shows) ∙ sym (not_shifted a a refl) ∙ follow.0.shows in
    ap₂ (λ kernel rest. record { kernel = kernel; steps = segment.steps } ∷ rest) same (moved_none segments (state_after a segment.steps) follow.1)

later_moved : (by : ℕ) (segments : List SegmentView) (a : Table) → Follow a segments → later_segments by segments ≡ moved by segments
later_moved by segments a follow = at (eqb by 0) refl
  where
    at : (b : Bool) → eqb by 0 ≡ b → cond b segments (moved by segments) ≡ moved by segments
    at false is = refl
    at true is =
        let none : by ≡ 0 = grind (arith, nat_tests, is) in
        sym (moved_none segments a follow) ∙ ap (λ n. moved n segments) (sym none)

-- tables that meet before two lists of steps meet before the first
pub met_front : (by : ℕ) (a b : Table) (own rest : List Step) → MeetBy by a b (own ++ rest) → MeetBy by a b own
met_front by a b own rest meet = record {
  later = meet.later;
  unread = ⊎_elim
      (λ none. inl none)
      (λ unread. inr (or_parts (some_delays_until own) (some_delays_until rest) (sym (list_any-append delays_until own rest) ∙ unread)).0)
      meet.unread;
}

-- and after it before the second
pub met_back : (by : ℕ) (a b : Table) (own rest : List Step) → view_of b ≡ shifted by (view_of a) → (by ≡ 0) ⊎ (some_delays_until (own ++ rest) ≡ false) →
    MeetBy by a b rest
met_back by a b own rest later unread = record {
  later = later;
  unread = ⊎_elim
      (λ none. inl none)
      (λ unread. inr (or_parts (some_delays_until own) (some_delays_until rest) (sym (list_any-append delays_until own rest) ∙ unread)).1)
      unread;
}

follow_moved : (by : ℕ) (segments : List SegmentView) (a b : Table) → IsSound a → IsSound b → MeetBy by a b (all_steps segments) → All
    (IsCheckedStep a.settings) (all_steps segments) → Follow a segments → Follow b (moved by segments)
follow_moved by [] a b first second meet all follow = tt
follow_moved by (segment ∷ segments) a b first second meet all follow =
    let own = All_front (IsCheckedStep a.settings) segment.steps (all_steps segments) all in
    let rest = All_back (IsCheckedStep a.settings) segment.steps (all_steps segments) all in
    let settings : b.settings ≡ a.settings = ap (λ (view : View). view.settings) meet.later in
    let other = subst (λ settings. All (IsCheckedStep settings) segment.steps) (sym settings) own in
    let run = met_run_alike by a b segment.steps first second (met_front by a b segment.steps (all_steps segments) meet) own in
    let reached = subst (λ steps. view_of (state_after b steps) ≡ shifted by (view_of (state_after a steps)))
    (take_all (length segment.steps) segment.steps (omega arith)) (run.states (length segment.steps)) in (
      stands_shifted by segment.kernel a b follow.0 meet.later second,
      follow_moved by segments (state_after a segment.steps) (state_after b segment.steps)
          (sound_along segment.steps a first own) (sound_along segment.steps b second other)
          (met_back by (state_after a segment.steps) (state_after b segment.steps) segment.steps (all_steps segments) reached meet.unread)
          (subst (λ settings. All (IsCheckedStep settings) (all_steps segments)) (sym (settings_along segment.steps a first own)) rest) follow.1,
    )

-- from a state that they meet segments of checked steps follow, so many ticks later
pub follow_met : (by : ℕ) (segments : List SegmentView) (a b : Table) → IsSound a → IsSound b → MeetBy by a b (all_steps segments) → All
    (IsCheckedStep a.settings) (all_steps segments) → Follow a segments → Follow b (later_segments by segments)
follow_met by segments a b first second meet all follow =
    subst (Follow b) (sym (later_moved by segments a follow)) (follow_moved by segments a b first second meet all follow)
