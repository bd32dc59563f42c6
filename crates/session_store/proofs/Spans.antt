-- Spans of steps that are replayed one after another, a segment each.
use Rattle.std.proofs.Common.{◌≡◌, ℕ, suc, ◌+◌, ◌-◌, ◌*◌, ◌<◌, ◌≤◌, List, [], ◌∷◌, ◌++◌, length, take, drop, replicate, sym, ap, ap₂, subst, ◌∙◌, arith}
use Rattle.std.proofs.Common.{length-drop, suc-mul}
use Rattle.std.proofs.lemmas.List.{append-nil, map-append, length-take-le, replicate-append-replicate}
use Rattle.std.proofs.Math.Nat.{mul-le-mul_right}
use Rattle.std.proofs.Math.Seq.{take-add}
use Rattle.bench_types.specs.declared.step.Step.{Step}
use Rattle.bench_model.specs.Equal.{StandsFor}
use Rattle.bench_model.specs.Lists.{View}
use Rattle.bench_model.specs.Session.{state_after}
use Rattle.bench_model.specs.Table.{Table}
use Rattle.segment_laws.specs.Segments.{SegmentView, all_steps, lengths, Follow}
use Rattle.segment_laws.proofs.Following.{all_more, follow_append, state_append}
use Rattle.session_store.specs.Replays.{AreSpans}

-- the part from a place on that has so many steps
pub part_from : (from span : ℕ) (steps : List Step) → take (from + span - from) (drop from steps) ≡ take span (drop from steps)
part_from from span steps =
    let same : from + span - from ≡ span = omega arith in
    ap (λ n. take n (drop from steps)) same

pub span_more : (segment span : ℕ) → (segment + 1) * span ≡ segment * span + span
span_more segment span =
    let next : segment + 1 ≡ suc segment = omega arith in
    ap (λ n. n * span) next ∙ omega (arith, suc-mul segment span)

-- such a span lies within the first so many
pub span_within : (segment full span count : ℕ) → segment < full → full * span ≤ count → (segment + 1) * span ≤ count
span_within segment full span count early within =
    let few : segment + 1 ≤ full = omega arith in
    omega (arith, within, mul-le-mul_right span few)

take_span : (segment span : ℕ) (steps : List Step) → take ((segment + 1) * span) steps ≡ take (segment * span) steps ++ take span (drop (segment * span) steps)
take_span segment span steps = ap (λ n. take n steps) (span_more segment span) ∙ take-add (segment * span) span steps

pub part_length : (segment span : ℕ) (steps : List Step) → (segment + 1) * span ≤ length steps → length (take span (drop (segment * span) steps)) ≡ span
part_length segment span steps within =
    length-take-le span (drop (segment * span) steps) (omega (arith, within, span_more segment span, length-drop (segment * span) steps))

-- ---- segments

replicate_more : (count length : ℕ) → replicate count length ++ length ∷ [] ≡ replicate (count + 1) length
replicate_more count length = replicate-append-replicate count 1 length

-- one span more
pub spans_more : (table : Table) (span segment : ℕ) (steps : List Step) (kernel : View) (part : List Step) (old new : List SegmentView) → part ≡ take span
    (drop (segment * span) steps) → (segment + 1) * span ≤ length steps
    → StandsFor kernel (state_after table (take (segment * span) steps)) → new ≡ old ++ record { kernel = kernel; steps = part } ∷ [] → AreSpans table span
    segment steps old → AreSpans table span (segment + 1) steps new
spans_more table span segment steps kernel part old new is within stands added so_far =
    let one : SegmentView = record { kernel = kernel; steps = part } in
    let summed_front : StandsFor kernel (state_after table (all_steps old)) = subst (λ taken. StandsFor kernel (state_after table taken)) (sym so_far.steps_are)
    stands in
    record {
      steps_are = ap all_steps added ∙ all_more old (one ∷ []) ∙ ap₂ (λ xs ys. xs ++ ys) so_far.steps_are (append-nil part ∙ is) ∙ sym
          (take_span segment span steps);
      lengths_are = ap lengths added ∙ map-append (λ (segment : SegmentView). length segment.steps) old (one ∷ []) ∙ ap₂ (λ xs x. xs ++ x ∷ [])
          so_far.lengths_are (ap length is ∙ part_length segment span steps within) ∙ replicate_more segment span;
      follow = subst (Follow table) (sym added) (follow_append old (one ∷ []) table so_far.follow (summed_front, tt));
    }

-- the state after one span more
pub state_more : (table : Table) (span segment : ℕ) (steps : List Step) (kernel : View) (part : List Step) → part ≡ take span (drop (segment * span) steps) →
    StandsFor kernel (state_after (state_after table (take (segment * span) steps)) part)
    → StandsFor kernel (state_after table (take ((segment + 1) * span) steps))
state_more table span segment steps kernel part is stands =
    let front = take (segment * span) steps in
    subst (StandsFor kernel) (ap (state_after (state_after table front)) is ∙ sym (state_append table front (take span (drop (segment * span) steps))) ∙ ap
    (state_after table) (sym (take_span segment span steps))) stands
