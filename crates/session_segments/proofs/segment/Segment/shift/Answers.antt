use Rattle.std.proofs.Common.{◌≡◌, false, sym, ap, subst, ◌∙◌}
use Rattle.std.specs.Prelude.{All}
use Rattle.bench_types.specs.Step.{IsCheckedStep}
use Rattle.bench_model.specs.Lists.{View}
use Rattle.bench_model.specs.Shifted.{shifted, some_delays_until}
use Rattle.segment_laws.specs.Segments.{SegmentView}
use Rattle.shift_laws.proofs.LaterTables.{shifted_stands}
use Rattle.shift_laws.specs.Later.{later}
use Rattle.session_segments.specs.Kept.{MayBeReplayed}
use Rattle.session_segments.proofs.segment.Segment.shift.Goals as goal

pub invariant_of-self : goal.invariant_of-self
invariant_of-self g c =
    let inside = c.self.inside in
    let by = c.args.by in
    let kernel : View = inside.kernel in
    let steps = inside.steps.items in
    let replayable = c.self.invariant.0 in
    let unread : some_delays_until steps ≡ false = subst (λ (v : SegmentView). some_delays_until v.steps ≡ false) (sym c.self.view_is) c.requires in
    let later_replayable : MayBeReplayed (shifted by kernel) steps = record {
      stands = (later by replayable.stands.0, shifted_stands by kernel replayable.stands.0 replayable.stands.1);
      few_cores = replayable.few_cores;
      checked = replayable.checked;
      few_steps = replayable.few_steps;
    } in
    let fits = g.met.K.KeptResults.moves by kernel steps inside.kept replayable unread c.self.invariant.2 in (
      subst (λ (view : View). MayBeReplayed view steps) (sym c.shift.ensures) later_replayable,
      c.self.invariant.1,
      subst (λ (view : View). g.K.KeptResults.fits view steps inside.kept) (sym c.shift.ensures) fits,
    )
