use Rattle.std.proofs.Common.{◌≡◌, ◌<◌, ◌≤◌, ℕ, List, Some, None, length, take, ap, subst, sym, arith}
use Rattle.std.specs.Prelude.{option_and_then, slice_get}
use Rattle.bench_types.specs.declared.kernel_data.Settings.{Settings}
use Rattle.bench_model.specs.Control.{current}
use Rattle.bench_model.specs.Equal.{StandsFor}
use Rattle.bench_model.specs.Session.{state_after}
use Rattle.bench_model.specs.Table.{Table}
use Rattle.segment_laws.specs.Segments.{SegmentView, running_after}
use Rattle.session_segments.proofs.KeptRows.{core_past, current_read}
use Rattle.session_segments.proofs.Rows.{row_past}
use Rattle.session_segments.proofs.segment.Segment.running.Goals as goal

pub returns-then-settings-core : goal.returns-then-settings-core
returns-then-settings-core c =
    let inside = c.self.inside in
    let past : inside.kernel.settings.cores ≤ c.args.core = omega (arith, c.if-settings-core.true, ap (λ (s : Settings). s.cores) c.settings.ensures.settings)
    in
    subst (λ (v : SegmentView). (table : Table) → StandsFor v.kernel table → None ≡ option_and_then (λ (row : List ℕ). slice_get row c.args.core)
    (running_after table v.steps c.args.count)) c.self.view_is
    (λ table stands. core_past inside.kernel inside.steps.items inside.kept.replies.items inside.kept.currents.items inside.kept.tallies c.self.invariant.0
    c.self.invariant.2.0 table c.args.count c.args.core stands past)

pub returns-then-count-len : goal.returns-then-count-len
returns-then-count-len c =
    let inside = c.self.inside in
    let past : length inside.steps.items < c.args.count = omega (arith, c.if-count-len.true, c.len.ensures, inside.steps.ok.0) in
    subst (λ (v : SegmentView). (table : Table) → StandsFor v.kernel table → None ≡ option_and_then (λ (row : List ℕ). slice_get row c.args.core)
    (running_after table v.steps c.args.count)) c.self.view_is
    (λ table stands. ap (option_and_then (λ (row : List ℕ). slice_get row c.args.core)) (sym (row_past table inside.steps.items c.args.count past)))

pub current-requires-clause-core : goal.current-requires-clause-core
current-requires-clause-core c = omega (
  arith,
  c.if-settings-core.false,
  ap (λ (s : Settings). s.cores) c.settings.ensures.settings,
  ap
      (λ (v : SegmentView). v.kernel.settings.cores) c.self.view_is,
)

pub current-requires-clause-within : goal.current-requires-clause-within
current-requires-clause-within c = omega (
  arith,
  c.if-count-len.false,
  c.len.ensures,
  c.self.inside.steps.ok.0,
  ap (λ (v : SegmentView). length v.steps)
      c.self.view_is,
)

pub returns : goal.returns
returns c =
    let inside = c.self.inside in
    let early : c.args.core < inside.kernel.settings.cores = omega (arith, c.if-settings-core.false, ap (λ (s : Settings). s.cores) c.settings.ensures.settings)
    in
    let within : c.args.count ≤ length inside.steps.items = omega (arith, c.if-count-len.false, c.len.ensures, inside.steps.ok.0) in
    let shown = subst (λ (v : SegmentView). (table : Table) → StandsFor v.kernel table → c.current.result ≡ current
    (state_after table (take c.args.count v.steps)).control c.args.core) (sym c.self.view_is) c.current.ensures in
    subst (λ (v : SegmentView). (table : Table) → StandsFor v.kernel table → Some c.current.result ≡ option_and_then
    (λ (row : List ℕ). slice_get row c.args.core) (running_after table v.steps c.args.count)) c.self.view_is
    (λ table stands. current_read inside.kernel inside.steps.items inside.kept.replies.items inside.kept.currents.items inside.kept.tallies c.self.invariant.0
    c.self.invariant.2.0 table c.args.count c.args.core c.current.result stands early within (shown table stands))
