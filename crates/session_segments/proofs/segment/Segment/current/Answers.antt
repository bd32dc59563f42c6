use Rattle.std.proofs.Common.{◌≡◌, ◌≢◌, ◌+◌, ◌<◌, length, take, get_or, sym, ap, subst, ◌∙◌, arith}
use Rattle.std.proofs.lemmas.List.{get_or_default}
use Rattle.bench_types.specs.declared.step.Step.TheVariants.{Tick}
use Rattle.bench_types.specs.Step.{core_of}
use Rattle.bench_model.specs.Control.{current}
use Rattle.bench_model.specs.Equal.{StandsFor}
use Rattle.bench_model.specs.Session.{state_after}
use Rattle.bench_model.specs.Table.{Table}
use Rattle.segment_laws.specs.Segments.{SegmentView}
use Rattle.session_segments.proofs.KeptRows.{current_elsewhere, current_here, kept_length}
use Rattle.session_segments.proofs.segment.Segment.current.Goals.{then-core, else-core}
use Rattle.session_segments.proofs.segment.Segment.current.Goals as goal

pub index-task-requires : goal.index-task-requires
index-task-requires c =
    let inside = c.self.inside in
    let sized = kept_length inside.kernel inside.steps.items inside.kept.replies.items inside.kept.currents.items inside.kept.tallies c.self.invariant.0
    c.self.invariant.2.0 in
    omega (arith, sized, inside.kept.currents.ok.0, c.loop-index-test.true, c.requires.within, ap (λ (v : SegmentView). length v.steps) c.self.view_is)

pub loop-index-preserved : goal.loop-index-preserved
loop-index-preserved c =
    let inside = c.self.inside in
    let index = c.loop-index.index in
    let core = c.args.core in
    let early : index < length inside.steps.items = omega (
      arith,
      c.loop-index-test.true,
      c.requires.within,
      ap (λ (v : SegmentView). length v.steps)
          c.self.view_is,
    ) in
    let step : c.core.result ≡ core_of (get_or inside.steps.items index Tick) = c.core.ensures ∙ ap core_of
    (c.index.ensures ∙ get_or_default inside.steps.items index c.index.result.now Tick early) in
    let before = subst (λ (v : SegmentView). (table : Table) → StandsFor v.kernel table → c.loop-index.task ≡ current
    (state_after table (take index v.steps)).control core) (sym c.self.view_is) c.loop-index.invariant in
    subst (λ (v : SegmentView). (table : Table) → StandsFor v.kernel table → c.if-core.task ≡ current (state_after table (take (index + 1) v.steps)).control
    core) c.self.view_is
    (λ table stands. elim c.if-core.branch [
      | then-core w ↦
          let sized = kept_length inside.kernel inside.steps.items inside.kept.replies.items inside.kept.currents.items inside.kept.tallies c.self.invariant.0
          c.self.invariant.2.0 in
          let read = w.index-task.ensures ∙ get_or_default inside.kept.currents.items index w.index-task.result.now 0 (omega (arith, sized, early)) in
          w.task-is ∙ read ∙ current_here inside.kernel inside.steps.items inside.kept.replies.items inside.kept.currents.items inside.kept.tallies
          c.self.invariant.0 c.self.invariant.2.0 table index stands early
          ∙ ap (current (state_after table (take (index + 1) inside.steps.items)).control) (sym step ∙ w.if-core.true)
      | else-core w ↦
          let away : core ≢ core_of (get_or inside.steps.items index Tick) = λ same. w.if-core.false (step ∙ sym same) in
          w.task-is ∙ before table stands ∙ sym (current_elsewhere inside.kernel inside.steps.items inside.kept.replies.items inside.kept.currents.items
          inside.kept.tallies c.self.invariant.0 c.self.invariant.2.0 table index core stands early away)
    ])
