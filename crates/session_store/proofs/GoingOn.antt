-- Segments that are replayed after edited steps, up to the first that the replay meets.
use Rattle.std.proofs.Common.{◌≡◌, ℕ, ◌+◌, ◌*◌, ◌<◌, Bool, true, false, cond, not, ◌&&◌, leb, List, [], ◌∷◌, ◌++◌, length, take, drop, refl, sym, ap, ap₂}
use Rattle.std.proofs.Common.{subst, ◌∙◌, arith}
use Rattle.std.specs.Prelude.{All, ◌==◌}
use Rattle.std.proofs.Math.Dec.{eqb-suc-zero}
use Rattle.std.proofs.lemmas.List.{map-append}
use Rattle.std.proofs.lemmas.List.Elements.{All-same}
use Rattle.bench_types.specs.declared.kernel_data.Settings.{Settings}
use Rattle.bench_types.specs.declared.step.Step.{Step}
use Rattle.bench_types.specs.Step.{IsCheckedStep}
use Rattle.bench_model.specs.Session.{state_after}
use Rattle.bench_model.specs.Shifted.{is_met}
use Rattle.bench_model.specs.Table.{Table}
use Rattle.meeting_laws.specs.RunLaws.{MeetBy}
use Rattle.segment_laws.specs.EditedSegments.{cut, has_none, is_empty, AreUnmet, AreReplayed, IsMetAt}
use Rattle.segment_laws.specs.Segments.{SegmentView, steps_of, all_steps, Follow}
use Rattle.segment_laws.proofs.EditedSteps.{cut_joined}
use Rattle.segment_laws.proofs.Following.{state_append, follow_append}
use Rattle.session_segments.specs.Replaying.{IsReplayOf}
use Rattle.session_segments.proofs.Replaying.{joined, own_steps}
use Rattle.session_store.specs.Replays.{AreMade}

-- steps of a segment are fit for a kernel of the same settings
pub checked_alike : (own now settings : Settings) (steps lent : List Step) → own ≡ settings → now ≡ settings → lent ≡ steps → All (IsCheckedStep own) steps →
    All (IsCheckedStep now) lent
checked_alike own now settings steps lent same alike lends all =
    subst (λ (s : Settings). All (IsCheckedStep s) lent) (same ∙ sym alike) (All-same (IsCheckedStep own) lent steps lends all)

-- ---- the edited steps and the segments after them

pub made_are_steps : (span : ℕ) (table : Table) (steps : List Step) (after made : List SegmentView) → AreMade table (cut span (has_none after) steps) made →
    all_steps made ≡ steps
made_are_steps span table steps after made are = sym (own_steps made) ∙ ap joined are.parts_are ∙ cut_joined span (has_none after) steps

module _ (table : Table) (steps : List Step) (after : List SegmentView) where
  -- the state after the steps and some of the segments
  pub state_later : (i : ℕ) → state_after table (steps ++ all_steps (take i after)) ≡ state_after (state_after table steps) (all_steps (take i after))
  state_later i = state_append table steps (all_steps (take i after))

  pub unmet_later : (count : ℕ) → AreUnmet (state_after table steps) [] after count → AreUnmet table steps after count
  unmet_later count unmet = λ i segment old below found stands. ap (λ (table : Table). is_met old table (all_steps (drop i after))) (state_later i) ∙ unmet i
      segment old below found stands

  pub met_later : (count by : ℕ) → IsMetAt (state_after table steps) [] after count by → IsMetAt table steps after count by
  met_later count by met = λ segment old found stands. subst (λ table. MeetBy by old table (all_steps (drop count after))) (sym (state_later count))
      (met segment old found stands)

  pub goes_on : (span : ℕ) (first later : List SegmentView) (count by : ℕ) → AreMade table (cut span (has_none after) steps) first → IsReplayOf
      (state_after table steps) after later count by → AreReplayed span table steps after (first ++ later) count by
  goes_on span first later count by summed_front replay = record {
    within = replay.within;
    parts = map-append steps_of first later ∙ ap₂ (λ xs ys. xs ++ ys) summed_front.parts_are replay.parts_are;
    follow = follow_append first later table summed_front.follow (subst (λ passed. Follow (state_after table passed) later)
        (sym (made_are_steps span table steps after first summed_front)) replay.follow);
    unmet = unmet_later count replay.unmet;
    met = met_later count by replay.met;
  }

-- no segments come after the steps
pub none_left : (after : List SegmentView) → (length after == 0) ≡ has_none after
none_left [] = refl
none_left (segment ∷ after) = eqb-suc-zero (length after)

-- the edited steps are in a segment, or segments come after them
pub cut_some : (span : ℕ) (after : List SegmentView) (steps : List Step) → 0 < length (cut span (has_none after) steps) + length after
cut_some span [] steps = at (leb (2 * span) (length steps)) steps
  where
    one : (steps : List Step) → 0 < length (cond (is_empty steps && not true) [] (steps ∷ [])) + 0
    one [] = omega arith
    one (step ∷ steps) = omega arith

    at : (b : Bool) (steps : List Step) → 0 < length (cond b (take span steps ∷ drop span steps ∷ []) (cond (is_empty steps && not true) [] (steps ∷ []))) + 0
    at true steps = omega arith
    at false steps = one steps
cut_some span (segment ∷ after) steps = omega arith
