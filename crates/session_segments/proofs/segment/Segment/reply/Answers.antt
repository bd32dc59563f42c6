use Rattle.std.proofs.Common.{◌≡◌, List, ap, subst, ◌∙◌}
use Rattle.std.specs.Prelude.{slice_get}
use Rattle.bench_types.specs.declared.reply.Reply.{Reply}
use Rattle.bench_model.specs.Equal.{StandsFor}
use Rattle.bench_model.specs.Table.{Table}
use Rattle.segment_laws.specs.Segments.{SegmentView, reply_after}
use Rattle.session_segments.proofs.KeptRows.{kept_reply}
use Rattle.session_segments.proofs.segment.Segment.reply.Goals as goal

pub returns : goal.returns
returns c =
    let inside = c.self.inside in
    subst (λ (v : SegmentView). (table : Table) → StandsFor v.kernel table → c.reply_at.result ≡ reply_after table v.steps c.args.index) c.self.view_is
    (λ table stands. c.reply_at.ensures ∙ ap (λ (rs : List Reply). slice_get rs c.args.index) c.as_slice.ensures.value ∙ kept_reply inside.kernel
    inside.steps.items inside.kept.replies.items inside.kept.currents.items inside.kept.tallies c.self.invariant.0 c.self.invariant.2.0 table c.args.index
    stands)
