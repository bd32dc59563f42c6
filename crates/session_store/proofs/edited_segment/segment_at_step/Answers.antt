use Rattle.std.proofs.Common.{List, length, sym, ap, subst, ◌∙◌}
use Rattle.bench_types.specs.declared.step.Step.{Step}
use Rattle.bench_model.specs.Meeting.{place_of}
use Rattle.segment_laws.specs.EditedSegments.{edited_part}
use Rattle.segment_laws.specs.Segments.{lengths, starts}
use Rattle.session_store.specs.Replays.{IsEditAmong}
use Rattle.session_store.proofs.EditedSegmentProofs.{edit_among, index_there, part_found, edited_at_step, segment_there}
use Rattle.session_store.proofs.edited_segment.segment_at_step.Goals as goal

pub edited_part-requires-clause-place : goal.edited_part-requires-clause-place
edited_part-requires-clause-place g c =
    let header = c.args.header.now in
    let segments = c.args.segments.now in
    let edit = c.args.edit.now in
    let index = c.locate-index.result.0 in
    let from = c.locate-index.result.1 in
    let part = c.index-as_slice-index.result in
    let is = index_there (starts 0 (lengths segments)) c.args.place (place_of edit) index from c.requires.place c.locate-index.ensures.index in
    let found = segment_there segments c.as_slice.result.now index part c.as_slice.ensures.segments c.locate-index.ensures.within c.index-as_slice-index.is in
    subst (λ (steps : List Step). IsEditAmong edit from (length steps)) (sym c.steps.ensures.steps)
    (edit_among header segments edit index from part c.requires.follow c.requires.accepted is found)

pub returns-clause-edited_segment : goal.returns-clause-edited_segment
returns-clause-edited_segment g c =
    let header = c.args.header.now in
    let segments = c.args.segments.now in
    let edit = c.args.edit.now in
    let index = c.locate-index.result.0 in
    let from = c.locate-index.result.1 in
    let part = c.index-as_slice-index.result in
    let is = index_there (starts 0 (lengths segments)) c.args.place (place_of edit) index from c.requires.place c.locate-index.ensures.index in
    let found = segment_there segments c.as_slice.result.now index part c.as_slice.ensures.segments c.locate-index.ensures.within c.index-as_slice-index.is in
    edited_at_step header segments edit index from part c.requires.follow c.requires.accepted is found c.in_ok-copy_kernel.field-0
    c.in_ok-edited_part.field-0.items c.requires.session c.requires.step
    c.in_ok-copy_kernel.ensures.kernel
    (c.in_ok-edited_part.ensures ∙ ap (edited_part edit from) c.steps.ensures.steps)

pub returns-clause-from : goal.returns-clause-from
returns-clause-from g c =
    let header = c.args.header.now in
    let segments = c.args.segments.now in
    let edit = c.args.edit.now in
    let index = c.locate-index.result.0 in
    let from = c.locate-index.result.1 in
    let part = c.index-as_slice-index.result in
    let is = index_there (starts 0 (lengths segments)) c.args.place (place_of edit) index from c.requires.place c.locate-index.ensures.index in
    let found = segment_there segments c.as_slice.result.now index part c.as_slice.ensures.segments c.locate-index.ensures.within c.index-as_slice-index.is in
    sym (part_found header segments edit index from part c.requires.follow c.requires.accepted is found).begins
