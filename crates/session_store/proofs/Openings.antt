-- What is known of a session that is opened.
use Rattle.std.proofs.Common.{◌≡◌, ℕ, ◌≤◌, Bool, true, false, List, length, nat_le, if◌then◌else◌, Result, Ok, Err, refl, sym, ap, subst, arith}
use Rattle.std.specs.Result.{result_map_both}
use Rattle.std.proofs.lemmas.Bool.Decides.{nat_tests}
use Rattle.bench_types.specs.declared.fault.Fault.{Fault}
use Rattle.bench_types.specs.declared.header.Header.{Header}
use Rattle.bench_types.specs.declared.step.Step.{Step}
use Rattle.bench_types.specs.Header.{header_check}
use Rattle.bench_types.specs.Name.{is_within}
use Rattle.bench_types.specs.Step.{settings_of, ◌>>◌}
use Rattle.bench_types.specs.Limits.{max_span, max_steps}
use Rattle.bench_types.specs.Session.{Session, IsSession}
use Rattle.bench_types.proofs.Passes.{both_pass}
use Rattle.bench_model.specs.Meeting.{first_kept}
use Rattle.meeting_laws.proofs.Checkpoints.{first_fit}
use Rattle.meeting_laws.specs.CheckpointLaws.{AreCheckpoints}
use Rattle.segment_laws.specs.Segments.{SegmentView, lengths, starts, AreSegments}
use Rattle.session_store.specs.declared.fault.OpenRefusal.TheVariants.{Bench, BadSpan, TooLong}
use Rattle.session_store.specs.declared.fault.Refused.{Refused}
use Rattle.session_store.specs.Kept.{IsKept}
use Rattle.session_store.specs.Opening.{at_no_step, steps_check, open_check}

shown : (Fault → Refused) → Result (Unit {0}) Fault → Result (Unit {0}) Refused
shown why fits = result_map_both (λ _. tt) why fits

chosen : Bool → Refused → Result (Unit {0}) Refused
chosen b why = if b then Ok tt else Err why

chosen_passes : (b : Bool) (why : Refused) → chosen b why ≡ Ok tt → b ≡ true
unfolding chosen
chosen_passes true why passes = refl
chosen_passes false why passes = absurd (cc passes)

pub record IsOpened (steps : List Step) (span : ℕ) : Type 0 where
  pub few_steps : length steps ≤ max_steps
  pub span_fits : is_within 1 max_span span ≡ true

pub opens : (header : Header) (steps : List Step) (span : ℕ) → open_check header steps span ≡ Ok tt → IsOpened steps span
unfolding shown chosen
opens header steps span passes =
    let fits = shown (λ fault. at_no_step (Bench fault)) (header_check header) in
    let spans = chosen (is_within 1 max_span span) (at_no_step BadSpan) in
    let few = chosen (nat_le (length steps) max_steps) (at_no_step TooLong) in
    let last = both_pass (fits >> spans >> few) (steps_check (settings_of header) 0 steps) passes in
    let third = both_pass (fits >> spans) few last.0 in
    let second = both_pass fits spans third.0 in
    let short : nat_le (length steps) max_steps ≡ true = chosen_passes (nat_le (length steps) max_steps) (at_no_step TooLong) third.1 in
    record {
      few_steps = grind (arith, nat_tests, short);
      span_fits = chosen_passes (is_within 1 max_span span) (at_no_step BadSpan) second.1;
    }

-- the segments of a session that is opened are kept
pub opened_kept : (header : Header) (steps : List Step) (span : ℕ) (segments : List SegmentView) → IsSession (record { header = header; steps = steps }) →
    IsOpened steps span → AreSegments (first_kept span (record { header = header; steps = steps })) segments → IsKept header span segments
opened_kept header steps span segments session opened are =
    let fits = opened.span_fits in
    let some : 1 ≤ span = grind (arith, nat_tests, fits) in
    let opening : Session = record { header = header; steps = steps } in
    let first = subst (AreCheckpoints span (length steps)) (sym are.places) (first_fit span opening some) in
    record {
      session = subst (λ all. IsSession (record { header = header; steps = all })) (sym are.steps) session;
      few_steps = omega (arith, ap length are.steps, opened.few_steps);
      span_fits = fits;
      checkpoints = subst (λ all. AreCheckpoints span (length all) (starts 0 (lengths segments))) (sym are.steps) first;
      follow = are.follow;
    }
