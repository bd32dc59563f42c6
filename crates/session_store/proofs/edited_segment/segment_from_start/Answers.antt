use Rattle.session_store.specs.Kept.{session_of}
use Rattle.session_store.proofs.EditedSegmentProofs.{next_passes, edited_from_start}
use Rattle.session_store.proofs.edited_segment.segment_from_start.Goals as goal

pub started-requires : goal.started-requires
started-requires g c =
    next_passes (session_of c.args.header.now c.args.segments.now) c.args.edit.now c.args.next.now c.requires.session c.requires.words c.requires.accepted
    c.requires.next

pub returns-clause-edited_segment : goal.returns-clause-edited_segment
returns-clause-edited_segment g c =
    edited_from_start (session_of c.args.header.now c.args.segments.now) c.args.edit.now c.args.segments.now c.args.next.now c.in_ok-started.field-0
    c.new.result.items
    c.requires.next c.requires.task c.in_ok-started.ensures.stands c.in_ok-started.ensures.settings c.new.ensures.items
