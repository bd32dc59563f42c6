-- Segments that are traced one after another.
use Rattle.std.proofs.Common.{◌≡◌, ℕ, ◌+◌, ◌≤◌, List, [], ◌∷◌, ◌++◌, length, sym, ap, ◌∙◌, arith}
use Rattle.std.proofs.lemmas.List.{append-nil, append_assoc}
use Rattle.segment_laws.specs.Segments.{SegmentView, all_steps}
use Rattle.session_segments.specs.Counting.{meter_after}
use Rattle.session_segments.proofs.Counts.{counted_twice}
use Rattle.session_segments.proofs.Places.{steps_append}

-- what a loop over the segments has come to
pub record AreTraced (segments yielded rest with_results : List SegmentView) (old new : ℕ) : Type 0 where
  pub all : segments ≡ yielded ++ rest
  pub same : with_results ≡ yielded
  pub counted : new ≡ meter_after (length (all_steps yielded)) old

one_more : (yielded : List SegmentView) (segment : SegmentView) → length (all_steps (yielded ++ segment ∷ [])) ≡ length (all_steps yielded) + length
    segment.steps
one_more yielded segment = steps_append yielded (segment ∷ []) ∙ ap (λ xs. length (all_steps yielded) + length xs) (append-nil segment.steps)

-- the steps of the next one are among all
pub traced_within : (segments yielded rest next with_results : List SegmentView) (segment : SegmentView) (old new : ℕ) → rest ≡ segment ∷ next → AreTraced
    segments yielded rest with_results old new → length (all_steps yielded) + length segment.steps ≤ length (all_steps segments)
traced_within segments yielded rest next with_results segment old new first so_far =
    let whole = so_far.all ∙ ap (λ xs. yielded ++ xs) first ∙ sym (append_assoc yielded (segment ∷ []) next) in
    omega (arith, ap (λ xs. length (all_steps xs)) whole, steps_append (yielded ++ segment ∷ []) next, one_more yielded segment)

pub traced_more : (segments yielded rest next with_results pushed : List SegmentView) (segment one : SegmentView) (old middle new : ℕ) → rest ≡ segment ∷ next →
    one ≡ segment → pushed ≡ with_results ++ one ∷ [] → new ≡ meter_after (length segment.steps) middle
    → AreTraced segments yielded rest with_results old middle → AreTraced segments (yielded ++ segment ∷ []) next pushed old new
traced_more segments yielded rest next with_results pushed segment one old middle new first is push counts so_far = record {
  all = so_far.all ∙ ap (λ xs. yielded ++ xs) first ∙ sym (append_assoc yielded (segment ∷ []) next);
  same = push ∙ ap (λ xs. xs ++ one ∷ []) so_far.same ∙ ap (λ s. yielded ++ s ∷ []) is;
  counted = counts ∙ ap (meter_after (length segment.steps)) so_far.counted ∙ counted_twice (length (all_steps yielded)) (length segment.steps) old ∙ ap
      (λ n. meter_after n old) (sym (one_more yielded segment));
}
