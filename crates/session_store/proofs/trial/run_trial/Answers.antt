use Rattle.std.proofs.Common.{◌≡◌, ◌+◌, ◌≤◌, List, length, take, refl, sym, ap, subst, ◌∙◌, arith}
use Rattle.std.specs.Prelude.{All}
use Rattle.bench_types.specs.declared.step.Step.{Step}
use Rattle.bench_types.specs.Step.{IsCheckedStep}
use Rattle.segment_laws.specs.Segments.{SegmentView, all_steps}
use Rattle.bench_model.specs.Meeting.{replayed}
use Rattle.session_store.specs.Kept.{kept_of}
use Rattle.session_store.proofs.EditShown.{counts_err}
use Rattle.session_segments.specs.Replaying.{HasSettings}
use Rattle.session_store.proofs.EditReplays.{all_few, part_checked, rest_settings, counted, meets, outcome_is, stay_later, with_results, traced_few}
use Rattle.session_store.proofs.EditReplays.{traced_length, traced_runs, traced_tallies, traced_total}
use Rattle.session_store.proofs.trial.run_trial.Goals as goal

pub retrace-requires-clause-steps : goal.retrace-requires-clause-steps
retrace-requires-clause-steps c =
    let words = c.requires.words in
    let accepts = c.requires.accepted in
    let edited_segment = c.args.edited_segment.now in
    subst (All (IsCheckedStep edited_segment.kernel.settings)) (sym c.as_slice-steps.ensures.value)
    (part_checked c.args.edit.now c.requires.kept words accepts c.requires.edited_segment)

pub retrace-requires-clause-settings : goal.retrace-requires-clause-settings
retrace-requires-clause-settings c =
    let words = c.requires.words in
    let accepts = c.requires.accepted in
    let edited_segment = c.args.edited_segment.now in
    subst (All (HasSettings edited_segment.kernel.settings)) (sym c.later-rest.ensures.rest)
    (rest_settings c.args.edit.now c.requires.kept words accepts c.requires.edited_segment)

pub retrace-requires-clause-few_steps : goal.retrace-requires-clause-few_steps
retrace-requires-clause-few_steps c =
    let words = c.requires.words in
    let accepts = c.requires.accepted in
    let few = all_few c.args.edit.now c.requires.kept words accepts c.requires.edited_segment in
    omega (
      arith,
      few,
      ap (λ (steps : List Step). length steps) c.as_slice-steps.ensures.value,
      ap
          (λ (segments : List SegmentView). length (all_steps segments)) c.later-rest.ensures.rest,
    )

pub overflow_cast-replayed : goal.overflow_cast-replayed
overflow_cast-replayed c =
    let words = c.requires.words in
    let accepts = c.requires.accepted in
    let same = c.as_slice-steps.ensures.value in
    let there = c.later-rest.ensures.rest in
    let few = traced_few c.args.edit.now c.requires.kept words accepts c.requires.edited_segment same there c.in_ok-tallies.ensures.meeting in
    omega (arith, few)

pub count_steps-requires : goal.count_steps-requires
count_steps-requires c =
    let words = c.requires.words in
    let accepts = c.requires.accepted in
    let same = c.as_slice-steps.ensures.value in
    let there = c.later-rest.ensures.rest in
    let few = traced_few c.args.edit.now c.requires.kept words accepts c.requires.edited_segment same there c.in_ok-tallies.ensures.meeting in
    omega (arith, few)

pub overflow_add-replayed : goal.overflow_add-replayed
overflow_add-replayed c =
    let words = c.requires.words in
    let accepts = c.requires.accepted in
    let same = c.as_slice-steps.ensures.value in
    let there = c.later-rest.ensures.rest in
    let few = traced_few c.args.edit.now c.requires.kept words accepts c.requires.edited_segment same there c.in_ok-tallies.ensures.meeting in
    omega (arith, few, c.count_steps.ensures)

pub tallies_after-requires-clause-replayed : goal.tallies_after-requires-clause-replayed
tallies_after-requires-clause-replayed c =
    let words = c.requires.words in
    let accepts = c.requires.accepted in
    let same = c.as_slice-steps.ensures.value in
    let there = c.later-rest.ensures.rest in (
      traced_tallies c.args.edit.now c.requires.kept words accepts c.requires.edited_segment same there c.in_ok-tallies.ensures.meeting
          c.in_ok-tallies.tallies c.in_ok-tallies.ensures.tallies c.in_ok-tallies.ensures.sizes,
      stay_later c.args.edit.now c.requires.kept words accepts c.requires.edited_segment same there c.in_ok-tallies.ensures.meeting,
    )

pub returns-in_err-total-clause-some : goal.returns-in_err-total-clause-some
returns-in_err-total-clause-some c =
    let words = c.requires.words in
    let accepts = c.requires.accepted in
    let given = c.as_slice-steps.result.now in
    let later = c.later-rest.result.now in
    let count = c.in_ok-tallies.count in
    let same = c.as_slice-steps.ensures.value in
    let there = c.later-rest.ensures.rest in
    let meters = counted c.args.edit.now c.requires.kept words accepts c.requires.edited_segment
    (with_results c.args.edit.now c.requires.kept words accepts c.requires.edited_segment same there c.in_ok-tallies.ensures.meeting) count
    (meets c.args.edit.now c.requires.kept words accepts c.requires.edited_segment same there c.in_ok-tallies.ensures.meeting).by
    (traced_runs c.args.edit.now c.requires.kept words accepts c.requires.edited_segment same there c.in_ok-tallies.ensures.meeting) given later
    c.args.meter.now c.retrace.new.meter same there c.in_ok-tallies.ensures.meter in
    let at_most : replayed (kept_of c.args.header.now c.args.span c.args.segments.now) c.args.edit.now ≤ replayed
    (kept_of c.args.header.now c.args.span c.args.segments.now) c.args.edit.now = omega arith in
    counts_err c.from_residual-in_err-total.result
    (replayed (kept_of c.args.header.now c.args.span c.args.segments.now) c.args.edit.now, at_most, meters)

pub overflow_add-outcome : goal.overflow_add-outcome
overflow_add-outcome c =
    let words = c.requires.words in
    let accepts = c.requires.accepted in
    let same = c.as_slice-steps.ensures.value in
    let there = c.later-rest.ensures.rest in
    let few = traced_few c.args.edit.now c.requires.kept words accepts c.requires.edited_segment same there c.in_ok-tallies.ensures.meeting in
    omega (arith, few, c.count_steps.ensures, c.requires.from)

pub returns-clause-outcome : goal.returns-clause-outcome
returns-clause-outcome c =
    let words = c.requires.words in
    let accepts = c.requires.accepted in
    let edited_segment = c.args.edited_segment.now in
    let given = c.as_slice-steps.result.now in
    let later = c.later-rest.result.now in
    let count = c.in_ok-tallies.count in
    let same = c.as_slice-steps.ensures.value in
    let there = c.later-rest.ensures.rest in
    let steps : length given + c.count_steps.result ≡ length given + length (all_steps (take count later)) = omega (arith, c.count_steps.ensures) in
    outcome_is c.args.edit.now c.requires.kept words accepts c.requires.edited_segment
    (with_results c.args.edit.now c.requires.kept words accepts c.requires.edited_segment same there
    c.in_ok-tallies.ensures.meeting) count (meets c.args.edit.now c.requires.kept words accepts c.requires.edited_segment same there
    c.in_ok-tallies.ensures.meeting).by (traced_runs c.args.edit.now c.requires.kept words accepts c.requires.edited_segment same there
    c.in_ok-tallies.ensures.meeting) edited_segment.from (length given + c.count_steps.result) c.requires.from
    (steps ∙ traced_length c.args.edit.now c.requires.kept words accepts c.requires.edited_segment same there c.in_ok-tallies.ensures.meeting)

pub returns-clause-tallies : goal.returns-clause-tallies
returns-clause-tallies c =
    let words = c.requires.words in
    let accepts = c.requires.accepted in
    let same = c.as_slice-steps.ensures.value in
    let there = c.later-rest.ensures.rest in
    traced_total c.args.edit.now c.requires.kept words accepts c.requires.edited_segment same there c.in_ok-tallies.ensures.meeting c.in_ok-total.total
    (c.in_ok-total.ensures (traced_tallies c.args.edit.now c.requires.kept words accepts c.requires.edited_segment same there
    c.in_ok-tallies.ensures.meeting c.in_ok-tallies.tallies c.in_ok-tallies.ensures.tallies c.in_ok-tallies.ensures.sizes)
    (stay_later c.args.edit.now c.requires.kept words accepts c.requires.edited_segment same there c.in_ok-tallies.ensures.meeting))

pub returns-clause-meter : goal.returns-clause-meter
returns-clause-meter c =
    let words = c.requires.words in
    let accepts = c.requires.accepted in
    let given = c.as_slice-steps.result.now in
    let later = c.later-rest.result.now in
    let count = c.in_ok-tallies.count in
    let same = c.as_slice-steps.ensures.value in
    let there = c.later-rest.ensures.rest in
    counted c.args.edit.now c.requires.kept words accepts c.requires.edited_segment
    (with_results c.args.edit.now c.requires.kept words accepts c.requires.edited_segment same there
    c.in_ok-tallies.ensures.meeting) count (meets c.args.edit.now c.requires.kept words accepts c.requires.edited_segment same there
    c.in_ok-tallies.ensures.meeting).by (traced_runs c.args.edit.now c.requires.kept words accepts c.requires.edited_segment same there
    c.in_ok-tallies.ensures.meeting) given later c.args.meter.now c.retrace.new.meter same there c.in_ok-tallies.ensures.meter
