-- A session that is opened, in segments of a span each and a last one.
use Rattle.std.proofs.Common.{◌≡◌, ◌⊎◌, inl, inr, ℕ, zero, suc, ◌+◌, ◌-◌, ◌*◌, ◌/◌, ◌%◌, ◌<◌, ◌≤◌, List, [], ◌∷◌, ◌++◌, length, take, drop, replicate, sym, ap}
use Rattle.std.proofs.Common.{ap₂, subst, ◌∙◌, arith, length-drop, div-add-mod'}
use Rattle.std.specs.Prelude.{true, Result, Ok, Err, IfOk, OnOk}
use Rattle.std.proofs.Math.Nat.{zero-div}
use Rattle.std.proofs.lemmas.Bool.Decides.{nat_tests}
use Rattle.std.proofs.lemmas.List.{append-nil, map-append, take_all, take-append-drop}
use Rattle.bench_types.specs.declared.header.Header.{Header}
use Rattle.bench_types.specs.declared.step.Step.{Step}
use Rattle.bench_types.specs.Limits.{max_span}
use Rattle.bench_types.specs.Name.{is_within}
use Rattle.bench_types.specs.Session.{Session}
use Rattle.bench_model.specs.Equal.{StandsFor}
use Rattle.bench_model.specs.Lists.{View}
use Rattle.bench_model.specs.Meeting.{CheckpointedSession, first_checkpoints, first_kept}
use Rattle.bench_model.specs.Session.{state_after}
use Rattle.bench_model.specs.Start.{start}
use Rattle.segment_laws.specs.Segments.{SegmentView, all_steps, lengths, starts, Follow, AreSegments}
use Rattle.segment_laws.proofs.Following.{all_more, follow_append}
use Rattle.segment_laws.proofs.OpenedPlaces.{opened_places}
use Rattle.session_segments.specs.Counting.{meter_after}
use Rattle.session_segments.proofs.Counts.{counted_twice}
use Rattle.session_store.specs.Replays.{AreSpans}

-- ---- how many spans there are before the last place, and what is left after them

pub record HasRest (count span full : ℕ) : Type 0 where
  pub rest : ℕ
  pub whole : full * span + rest ≡ count
  pub short : rest ≤ span
  pub least : (1 ≤ rest) ⊎ (full ≡ 0)

pub rest_of : (count span : ℕ) → 1 ≤ span → HasRest count span ((count - 1) / span)
rest_of zero span some =
    let none : (0 - 1) / span ≡ 0 = zero-div span in
    record { rest = 0; whole = omega (arith, ap (λ n. n * span) none); short = omega arith; least = inr none }
rest_of (suc count) span some =
    let full = (suc count - 1) / span in
    let parts : full * span + (suc count - 1) % span ≡ suc count - 1 = div-add-mod' (suc count - 1) span in
    let below : (suc count - 1) % span < span = omega arith in
    record {
      rest = suc ((suc count - 1) % span);
      whole = omega (arith, parts);
      short = omega (arith, below);
      least = inl (omega arith);
    }

-- the part from a place on
pub part_after : (from : ℕ) (steps : List Step) → take (length steps - from) (drop from steps) ≡ drop from steps
part_after from steps = take_all (length steps - from) (drop from steps) (omega (arith, length-drop from steps))

pub some_span : (span : ℕ) → is_within 1 max_span span ≡ true → 1 ≤ span
some_span span fits = grind (arith, nat_tests, fits)

-- ---- the last segment

module _ (steps : List Step) (span full : ℕ) (part : List Step) (some : 1 ≤ span) (cut : full ≡ (length steps - 1) / span)
    (is : part ≡ drop (full * span) steps) where
  has_rest : HasRest (length steps) span full
  has_rest = subst (HasRest (length steps) span) (sym cut) (rest_of (length steps) span some)

  left : length part ≡ has_rest.rest
  left = let whole = has_rest.whole in ap length is ∙ omega (arith, length-drop (full * span) steps, whole)

  -- its steps and those of the spans are all
  pub opened_count : full * span + length part ≡ length steps
  opened_count = let whole = has_rest.whole in omega (arith, left, whole)

  pub opened_meter : (old middle new : ℕ) → middle ≡ meter_after (full * span) old → new ≡ meter_after (length part) middle → new ≡ meter_after (length steps)
      old
  opened_meter old middle new summed_front counted =
      counted ∙ ap (meter_after (length part)) summed_front ∙ counted_twice (full * span) (length part) old ∙ ap (λ n. meter_after n old) opened_count

-- ---- segments

module _ (header : Header) (steps : List Step) (span full : ℕ) (kernel : View) (part : List Step) (made segments : List SegmentView) (some : 1 ≤ span)
    (cut : full ≡ (length steps - 1) / span) (is : part ≡ drop (full * span) steps)
    (stands : StandsFor kernel (state_after (start header) (take (full * span) steps)))
    (added : segments ≡ made ++ record { kernel = kernel; steps = part } ∷ []) (spans : AreSpans (start header) span full steps made) where
  abbrev session : Session
  session = record { header = header; steps = steps }

  abbrev last : SegmentView
  last = record { kernel = kernel; steps = part }

  pub opened_steps : all_steps segments ≡ steps
  opened_steps =
      ap all_steps added ∙ all_more made (last ∷ []) ∙ ap₂ (λ xs ys. xs ++ ys) spans.steps_are (append-nil part ∙ is) ∙ take-append-drop (full * span) steps

  opened_lengths : lengths segments ≡ replicate full span ++ length part ∷ []
  opened_lengths =
      ap lengths added ∙ map-append (λ (segment : SegmentView). length segment.steps) made (last ∷ []) ∙ ap (λ xs. xs ++ length part ∷ []) spans.lengths_are

  opened_starts : starts 0 (replicate full span ++ length part ∷ []) ≡ first_checkpoints span session
  opened_starts =
      let rest = has_rest steps span full part some cut is in
      ap (λ x. starts 0 (replicate full span ++ x ∷ [])) (left steps span full part some cut is) ∙ opened_places span session full rest.rest some rest.short
      rest.least rest.whole

  pub opened_segments : AreSegments (first_kept span session) segments
  opened_segments = record {
    steps = opened_steps;
    places = ap (starts 0) opened_lengths ∙ opened_starts;
    follow =
        let summed_front : StandsFor kernel (state_after (start header) (all_steps made)) = subst (λ taken. StandsFor kernel (state_after (start header) taken))
        (sym spans.steps_are) stands in
        subst (Follow (start header)) (sym added) (follow_append made (last ∷ []) (start header) spans.follow (summed_front, tt));
  }

-- ---- results

pub on_ok : {T E : Type 0} {P : Type 0} (result : Result T E) → P → OnOk result P
on_ok (Ok value) holds = holds
on_ok (Err why) holds = tt

pub if_segments : {E : Type 0} (result : Result (List SegmentView) E) (kept : CheckpointedSession) (segments : List SegmentView) → AreSegments kept segments →
    IfOk result (λ made. made ≡ segments) → IfOk result (AreSegments kept)
if_segments (Ok made) kept segments are same = subst (AreSegments kept) (sym same) are
if_segments (Err why) kept segments are same = tt
