use Rattle.std.proofs.Common.{◌-◌, List, length, take, drop, sym, ap, subst, ◌∙◌, arith}
use Rattle.std.specs.Prelude.{All}
use Rattle.bench_types.specs.Step.{IsCheckedStep}
use Rattle.bench_model.specs.Session.{state_after}
use Rattle.segment_laws.specs.Segments.{SegmentView, all_steps}
use Rattle.session_store.proofs.EditReplays.{are_remade, gave_up, gives_up, is_last_is, kernel_few, kernel_some, later_settings, part_checked, part_few}
use Rattle.session_store.proofs.EditReplays.{placed_few, placed_some, remade_counted, remade_outcome, slice_few, slice_within}
use Rattle.session_store.proofs.EditShown.{counts_err}
use Rattle.session_store.proofs.edit.replay_edit_from.Goals as goal

pub push_cut-requires-clause-few : goal.push_cut-requires-clause-few
push_cut-requires-clause-few g c =
    kernel_few c.args.edit.now c.requires.kept c.requires.words c.requires.accepted c.requires.edited_segment

pub push_cut-requires-clause-steps : goal.push_cut-requires-clause-steps
push_cut-requires-clause-steps g c =
    subst (All (IsCheckedStep c.args.edited_segment.now.kernel.settings)) (sym c.as_slice-steps.ensures.value)
    (part_checked c.args.edit.now c.requires.kept c.requires.words c.requires.accepted c.requires.edited_segment)

pub push_cut-requires-clause-few_steps : goal.push_cut-requires-clause-few_steps
push_cut-requires-clause-few_steps g c =
    omega (
      arith,
      part_few c.args.edit.now c.requires.kept c.requires.words c.requires.accepted c.requires.edited_segment,
      ap length
          c.as_slice-steps.ensures.value,
    )

pub returns-in_err-push_cut-clause-some : goal.returns-in_err-push_cut-clause-some
returns-in_err-push_cut-clause-some g c =
    counts_err c.from_residual.result (gives_up c.args.edit.now c.requires.kept c.requires.words c.requires.accepted c.requires.edited_segment
    c.as_slice-steps.result.now
    c.args.meter.now c.push_cut.new.meter c.as_slice-steps.ensures.value c.in_err-push_cut.ensures.some)

pub replace-requires-clause-some : goal.replace-requires-clause-some
replace-requires-clause-some g c =
    placed_some c.args.edit.now c.requires.kept c.requires.words c.requires.accepted c.requires.edited_segment c.as_slice-steps.ensures.value
    (is_last_is c.args.edit.now c.requires.kept c.requires.words c.requires.accepted c.requires.edited_segment c.len.result c.len.ensures.count)
    c.in_ok-push_cut.ensures.made

pub replace-requires-clause-few : goal.replace-requires-clause-few
replace-requires-clause-few g c =
    placed_few c.args.edit.now c.requires.kept c.requires.words c.requires.accepted c.requires.edited_segment c.as_slice-steps.ensures.value
    (is_last_is c.args.edit.now c.requires.kept c.requires.words c.requires.accepted c.requires.edited_segment c.len.result c.len.ensures.count)
    c.in_ok-push_cut.ensures.made

pub returns-in_err-replace-clause-some : goal.returns-in_err-replace-clause-some
returns-in_err-replace-clause-some g c =
    counts_err c.from_residual-in_err-replace.result (gave_up c.args.edit.now c.requires.kept c.requires.words c.requires.accepted c.requires.edited_segment
    c.as_slice-steps.result.now c.args.meter.now c.push_cut.new.meter c.as_slice-steps.ensures.value c.in_ok-push_cut.ensures.meter)

pub replay_from-end-requires-clause-stands : goal.replay_from-end-requires-clause-stands
replay_from-end-requires-clause-stands g c =
    let some = kernel_some c.args.edit.now c.requires.kept c.requires.words c.requires.accepted c.requires.edited_segment in
    (state_after some.0 c.as_slice-steps.result.now, c.in_ok-push_cut.ensures.state some.0 some.1)

pub replay_from-end-requires-clause-settings : goal.replay_from-end-requires-clause-settings
replay_from-end-requires-clause-settings g c =
    later_settings c.args.edit.now c.requires.kept c.requires.words c.requires.accepted c.requires.edited_segment c.as_slice-steps.ensures.value
    (is_last_is c.args.edit.now c.requires.kept c.requires.words c.requires.accepted c.requires.edited_segment c.len.result c.len.ensures.count)
    c.in_ok-push_cut.ensures.made c.in_ok-replace.ensures.replaced (c.len-2.result - (c.len.result - c.args.edited_segment.now.after))
    (omega (arith, c.len-2.ensures.count, c.len.ensures.count)) c.push_cut.new.kernel c.push_cut.ensures.settings

pub offset_bounds-as_slice-before : goal.offset_bounds-as_slice-before
offset_bounds-as_slice-before g c =
    let within = slice_within c.args.edit.now c.requires.kept c.requires.words c.requires.accepted c.requires.edited_segment c.as_slice-steps.ensures.value
    (is_last_is c.args.edit.now c.requires.kept c.requires.words c.requires.accepted c.requires.edited_segment c.len.result c.len.ensures.count)
    c.in_ok-push_cut.ensures.made c.in_ok-replace.ensures.replaced (c.len-2.result - (c.len.result - c.args.edited_segment.now.after))
    (omega (arith, c.len-2.ensures.count, c.len.ensures.count)) c.in_ok-push_cut.ensures.state c.replay_from-end.ensures.replayed in
    omega (arith, within.0, within.1, ap length c.as_slice.ensures.segments)

pub slice_bounds-count_steps-count : goal.slice_bounds-count_steps-count
slice_bounds-count_steps-count g c =
    let within = slice_within c.args.edit.now c.requires.kept c.requires.words c.requires.accepted c.requires.edited_segment c.as_slice-steps.ensures.value
    (is_last_is c.args.edit.now c.requires.kept c.requires.words c.requires.accepted c.requires.edited_segment c.len.result c.len.ensures.count)
    c.in_ok-push_cut.ensures.made c.in_ok-replace.ensures.replaced (c.len-2.result - (c.len.result - c.args.edited_segment.now.after))
    (omega (arith, c.len-2.ensures.count, c.len.ensures.count)) c.in_ok-push_cut.ensures.state c.replay_from-end.ensures.replayed in
    within.0

pub slice_bounds-count_steps-start : goal.slice_bounds-count_steps-start
slice_bounds-count_steps-start g c =
    let within = slice_within c.args.edit.now c.requires.kept c.requires.words c.requires.accepted c.requires.edited_segment c.as_slice-steps.ensures.value
    (is_last_is c.args.edit.now c.requires.kept c.requires.words c.requires.accepted c.requires.edited_segment c.len.result c.len.ensures.count)
    c.in_ok-push_cut.ensures.made c.in_ok-replace.ensures.replaced (c.len-2.result - (c.len.result - c.args.edited_segment.now.after))
    (omega (arith, c.len-2.ensures.count, c.len.ensures.count)) c.in_ok-push_cut.ensures.state c.replay_from-end.ensures.replayed in
    within.0

pub slice_bounds-count_steps-end : goal.slice_bounds-count_steps-end
slice_bounds-count_steps-end g c =
    let within = slice_within c.args.edit.now c.requires.kept c.requires.words c.requires.accepted c.requires.edited_segment c.as_slice-steps.ensures.value
    (is_last_is c.args.edit.now c.requires.kept c.requires.words c.requires.accepted c.requires.edited_segment c.len.result c.len.ensures.count)
    c.in_ok-push_cut.ensures.made c.in_ok-replace.ensures.replaced (c.len-2.result - (c.len.result - c.args.edited_segment.now.after))
    (omega (arith, c.len-2.ensures.count, c.len.ensures.count)) c.in_ok-push_cut.ensures.state c.replay_from-end.ensures.replayed in
    omega (arith, within.1, ap length c.as_slice.ensures.segments)

pub count_steps-replayed-requires : goal.count_steps-replayed-requires
count_steps-replayed-requires g c =
    let few = slice_few c.args.edit.now c.requires.kept c.requires.words c.requires.accepted c.requires.edited_segment c.as_slice-steps.ensures.value
    (is_last_is c.args.edit.now c.requires.kept c.requires.words c.requires.accepted c.requires.edited_segment c.len.result c.len.ensures.count)
    c.in_ok-push_cut.ensures.made c.in_ok-replace.ensures.replaced (c.len-2.result - (c.len.result - c.args.edited_segment.now.after))
    (omega (arith, c.len-2.ensures.count, c.len.ensures.count)) c.in_ok-push_cut.ensures.state c.replay_from-end.ensures.replayed in
    omega (
      arith,
      few,
      ap (λ (xs : List SegmentView). length (all_steps
          (take (c.replay_from-end.result - c.args.edited_segment.now.before) (drop c.args.edited_segment.now.before xs)))) c.as_slice.ensures.segments,
    )

pub overflow_add-result : goal.overflow_add-result
overflow_add-result g c =
    let few = slice_few c.args.edit.now c.requires.kept c.requires.words c.requires.accepted c.requires.edited_segment c.as_slice-steps.ensures.value
    (is_last_is c.args.edit.now c.requires.kept c.requires.words c.requires.accepted c.requires.edited_segment c.len.result c.len.ensures.count)
    c.in_ok-push_cut.ensures.made c.in_ok-replace.ensures.replaced (c.len-2.result - (c.len.result - c.args.edited_segment.now.after))
    (omega (arith, c.len-2.ensures.count, c.len.ensures.count)) c.in_ok-push_cut.ensures.state c.replay_from-end.ensures.replayed in
    omega (
      arith,
      few,
      c.requires.from,
      c.count_steps-replayed.ensures,
      ap
          (λ (xs : List SegmentView). length (all_steps
          (take (c.replay_from-end.result - c.args.edited_segment.now.before) (drop c.args.edited_segment.now.before xs)))) c.as_slice.ensures.segments,
    )

pub returns-clause-replay : goal.returns-clause-replay
returns-clause-replay g c =
    are_remade c.args.edit.now c.requires.kept c.requires.words c.requires.accepted c.requires.edited_segment c.as_slice-steps.ensures.value
    (is_last_is c.args.edit.now c.requires.kept c.requires.words c.requires.accepted c.requires.edited_segment c.len.result c.len.ensures.count)
    c.in_ok-push_cut.ensures.made c.in_ok-replace.ensures.replaced (c.len-2.result - (c.len.result - c.args.edited_segment.now.after))
    (omega (arith, c.len-2.ensures.count, c.len.ensures.count)) c.in_ok-push_cut.ensures.state c.replay_from-end.ensures.replayed

pub returns-clause-outcome : goal.returns-clause-outcome
returns-clause-outcome g c =
    remade_outcome c.args.edit.now c.requires.kept c.requires.words c.requires.accepted c.requires.edited_segment c.as_slice-steps.ensures.value
    (is_last_is c.args.edit.now c.requires.kept c.requires.words c.requires.accepted c.requires.edited_segment c.len.result c.len.ensures.count)
    c.in_ok-push_cut.ensures.made c.in_ok-replace.ensures.replaced (c.len-2.result - (c.len.result - c.args.edited_segment.now.after))
    (omega (arith, c.len-2.ensures.count, c.len.ensures.count)) c.in_ok-push_cut.ensures.state c.replay_from-end.ensures.replayed
    c.args.edited_segment.now.from
    c.count_steps-replayed.result c.requires.from (c.count_steps-replayed.ensures ∙ ap
    (λ (xs : List SegmentView). length (all_steps
    (take (c.replay_from-end.result - c.args.edited_segment.now.before) (drop c.args.edited_segment.now.before xs)))) c.as_slice.ensures.segments)

pub returns-clause-meter : goal.returns-clause-meter
returns-clause-meter g c =
    remade_counted c.args.edit.now c.requires.kept c.requires.words c.requires.accepted c.requires.edited_segment c.as_slice-steps.ensures.value
    (is_last_is c.args.edit.now c.requires.kept c.requires.words c.requires.accepted c.requires.edited_segment c.len.result c.len.ensures.count)
    c.in_ok-push_cut.ensures.made c.in_ok-replace.ensures.replaced (c.len-2.result - (c.len.result - c.args.edited_segment.now.after))
    (omega (arith, c.len-2.ensures.count, c.len.ensures.count)) c.in_ok-push_cut.ensures.state c.replay_from-end.ensures.replayed c.args.meter.now
    c.push_cut.new.meter c.replay_from-end.new.meter c.in_ok-push_cut.ensures.meter c.replay_from-end.ensures.meter
