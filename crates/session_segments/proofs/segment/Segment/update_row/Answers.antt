use Rattle.std.proofs.Common.{◌≡◌, ◌<◌, Some, suc, length, get_or, ap, ap₂, subst, ◌∙◌, arith}
use Rattle.std.specs.Prelude.{slice_set}
use Rattle.std.proofs.lemmas.List.{get_or_default}
use Rattle.bench_types.specs.declared.step.Step.TheVariants.{Tick}
use Rattle.bench_types.specs.Step.{core_of}
use Rattle.bench_model.specs.Equal.{StandsFor}
use Rattle.bench_model.specs.Table.{Table}
use Rattle.segment_laws.specs.Segments.{SegmentView, running_after}
use Rattle.session_segments.proofs.KeptRows.{kept_length, row_taken}
use Rattle.session_segments.proofs.segment.Segment.update_row.Goals as goal

pub index-task-requires : goal.index-task-requires
index-task-requires c =
    let inside = c.self.inside in
    let sized = kept_length inside.kernel inside.steps.items inside.kept.replies.items inside.kept.currents.items inside.kept.tallies c.self.invariant.0
    c.self.invariant.2.0 in
    omega (arith, sized, inside.kept.currents.ok.0, c.requires.within, ap (λ (v : SegmentView). length v.steps) c.self.view_is)

pub returns-clause-row : goal.returns-clause-row
returns-clause-row c =
    let inside = c.self.inside in
    let index = c.args.index in
    let row = c.args.row.now in
    let early : index < length inside.steps.items = omega (arith, c.requires.within, ap (λ (v : SegmentView). length v.steps) c.self.view_is) in
    let sized = kept_length inside.kernel inside.steps.items inside.kept.replies.items inside.kept.currents.items inside.kept.tallies c.self.invariant.0
    c.self.invariant.2.0 in
    let step : c.core-core.result ≡ core_of (get_or inside.steps.items index Tick) = c.core-core.ensures ∙ ap core_of
    (c.index.ensures ∙ get_or_default inside.steps.items index c.index.result.now Tick early) in
    let read = c.index-task.ensures ∙ get_or_default inside.kept.currents.items index c.index-task.result.now 0 (omega (arith, sized, early)) in
    let moved : slice_set row c.core-core.result c.index-task.result.now ≡ slice_set row (core_of (get_or inside.steps.items index Tick))
    (get_or inside.kept.currents.items index 0) = ap₂ (slice_set row) step read in
    subst (λ (v : SegmentView). (table : Table) → StandsFor v.kernel table → running_after table v.steps index ≡ Some row → running_after table v.steps
    (suc index) ≡ Some (slice_set row c.core-core.result c.index-task.result.now)) c.self.view_is
    (λ table stands runs. row_taken inside.kernel inside.steps.items inside.kept.replies.items inside.kept.currents.items inside.kept.tallies c.self.invariant.0
    c.self.invariant.2.0 table index row (slice_set row c.core-core.result c.index-task.result.now) stands early moved runs)
