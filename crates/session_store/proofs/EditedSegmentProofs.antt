-- What an accepted edit leaves of the segment with its place.
use Rattle.std.proofs.Common.{◌≡◌, ℕ, ◌+◌, ◌-◌, ◌<◌, ◌≤◌, true, List, [], length, take, drop, Some, Ok, slice_get, get_or, refl, sym, ap, subst, ◌∙◌, arith}
use Rattle.std.proofs.Common.{length-set}
use Rattle.std.proofs.lemmas.Bool.Decides.{nat_tests}
use Rattle.std.proofs.lemmas.Option.{slice_get_within, slice_get_read}
use Rattle.bench_types.specs.declared.edit.Edit.{Edit}
use Rattle.bench_types.specs.declared.edit.Edit.TheVariants.{Insert, Remove, Replace, ChangeTask}
use Rattle.bench_types.specs.declared.header.Header.{Header}
use Rattle.bench_types.specs.declared.step.Step.{Step}
use Rattle.bench_types.specs.Edit.{IsEditOfWords}
use Rattle.bench_types.specs.Header.{header_check, queue_count}
use Rattle.bench_types.specs.Session.{Session, IsSession}
use Rattle.bench_types.specs.Step.{settings_of}
use Rattle.bench_model.specs.Edits.{accepted, edited, has_place}
use Rattle.bench_model.specs.Equal.{StandsFor}
use Rattle.bench_model.specs.Lists.{View}
use Rattle.bench_model.specs.Meeting.{CheckpointedSession, place_of}
use Rattle.bench_model.specs.Session.{state_at}
use Rattle.bench_model.specs.Start.{start}
use Rattle.session_laws.proofs.EditedSessions.{edited_session, passed}
use Rattle.segment_laws.specs.EditedSegments.{AreSplit, edited_part, IsSplitAt}
use Rattle.segment_laws.specs.SegmentLaws.{IsFoundPart}
use Rattle.segment_laws.specs.Segments.{SegmentView, all_steps, lengths, starts, Follow, AreSegments, IsIndexOf}
use Rattle.segment_laws.proofs.EditedSteps.{below_part, within_part}
use Rattle.segment_laws.proofs.Reading.{part_stands_still, parts_are_found, segment_kernel_settings}
use Rattle.session_store.specs.Kept.{session_of, kept_of}
use Rattle.session_store.specs.Replays.{IsEditAmong, IsEditedSegment, IsStepEdit, IsTaskEdit}

-- ---- a changed task

-- an edit leaves the settings
pub edited_settings : (session : Session) (edit : Edit) → settings_of (edited edit session).header ≡ settings_of session.header
edited_settings session (Insert at step) = refl
edited_settings session (Remove at) = refl
edited_settings session (Replace at step) = refl
edited_settings session (ChangeTask task priority mask) =
    let config = session.header.config in
    ap (λ users. record {
      cores = config.cores;
      priorities = config.priorities;
      slicing = config.slicing;
      mutexes = config.mutexes;
      notes = config.notes;
      queues = queue_count session.header;
      units = config.units;
      tasks = config.cores + users;
    }) (length-set session.header.tasks (task - config.cores) _)

state_first : (header : Header) (steps : List Step) → state_at header steps 0 ≡ start header
unfolding state_at
state_first header steps = refl

none_split : (edit : Edit) (segments : List SegmentView) → IsTaskEdit edit → AreSplit edit segments [] [] segments
none_split (Insert at step) segments task = absurd task
none_split (Remove at) segments task = absurd task
none_split (Replace at step) segments task = absurd task
none_split (ChangeTask task priority mask) segments is = (refl, refl, refl)

-- the edited session's header passes as the session's did
pub next_passes : (session : Session) (edit : Edit) (next : Header) → IsSession session → IsEditOfWords edit → accepted session edit ≡ Ok tt → next ≡
    (edited edit session).header → header_check next ≡ Ok tt
next_passes session edit next is words accepts same = ap header_check same ∙ (edited_session session edit is words accepts).header.passes

pub edited_from_start : (session : Session) (edit : Edit) (segments : List SegmentView) (next : Header) (kernel : View) (steps : List Step) → next ≡
    (edited edit session).header → IsTaskEdit edit → StandsFor kernel (start next) → kernel.settings ≡ settings_of next → steps ≡ [] → IsEditedSegment session
    edit segments kernel steps 0 0
edited_from_start session edit segments next kernel steps same task stands settings none = record {
  order = omega arith;
  within = omega arith;
  split = subst (λ left. AreSplit edit segments [] left segments) (sym none) (none_split edit segments task);
  stands = subst (StandsFor kernel) (ap start same ∙ sym (state_first (edited edit session).header (edited edit session).steps)) stands;
  settings = settings ∙ ap settings_of same ∙ edited_settings session edit;
}

-- ---- an edited step

-- such an edit leaves the header
same_header : (session : Session) (edit : Edit) → IsStepEdit edit → (edited edit session).header ≡ session.header
same_header session (Insert at step) is = refl
same_header session (Remove at) is = refl
same_header session (Replace at step) is = refl
same_header session (ChangeTask task priority mask) is = absurd is

one_split : (edit : Edit) (segments before : List SegmentView) (part : SegmentView) (after : List SegmentView) (steps : List Step) → IsStepEdit edit → IsSplitAt
    edit segments before part after → steps ≡ edited_part edit (length (all_steps before)) part.steps → AreSplit edit segments before steps after
one_split (Insert at step) segments before part after steps is split left = (part, split, left)
one_split (Remove at) segments before part after steps is split left = (part, split, left)
one_split (Replace at step) segments before part after steps is split left = (part, split, left)
one_split (ChangeTask task priority mask) segments before part after steps is split left = absurd is

-- what is known of the place in the session's steps holds in those of its segment
is_among : (edit : Edit) (steps : List Step) (from count : ℕ) → has_place steps edit ≡ true → from ≤ place_of edit →
    (place_of edit ≤ length steps → place_of edit - from ≤ count) → (place_of edit < length steps → place_of edit - from < count) → IsEditAmong edit from count
is_among (Insert at step) steps from count there begins within below =
    let early : at ≤ length steps = grind (arith, nat_tests, there) in
    (begins, omega (arith, within early, begins))
is_among (Remove at) steps from count there begins within below =
    let early : at < length steps = grind (arith, nat_tests, there) in
    (begins, omega (arith, below early, begins))
is_among (Replace at step) steps from count there begins within below =
    let early : at < length steps = grind (arith, nat_tests, there) in
    (begins, omega (arith, below early, begins))
is_among (ChangeTask task priority mask) steps from count there begins within below = tt

-- the segment at an index of the segments that were shown
pub segment_there : (segments shown : List SegmentView) (index : ℕ) (part : SegmentView) → shown ≡ segments → index < length segments → part ≡ get_or shown
    index part → slice_get segments index ≡ Some part
segment_there segments shown index part same within is =
    subst (λ list. slice_get list index ≡ Some part) same (slice_get_read shown (length segments) index part (sym (ap length same)) within is)

pub index_there : (places : List ℕ) (place other index from : ℕ) → place ≡ other → IsIndexOf places place index from → IsIndexOf places other index from
index_there places place other index from same is = subst (λ n. IsIndexOf places n index from) same is

-- the segment from the last checkpoint before an edit
module _ (header : Header) (segments : List SegmentView) (edit : Edit) (index from : ℕ) (part : SegmentView) (follow : Follow (start header) segments)
    (accepts : accepted (session_of header segments) edit ≡ Ok tt) (is : IsIndexOf (starts 0 (lengths segments)) (place_of edit) index from)
    (found : slice_get segments index ≡ Some part) where
  abbrev kept : CheckpointedSession
  kept = kept_of header 1 segments

  are : AreSegments kept segments
  are = record { steps = refl; places = refl; follow = follow }

  pub part_found : IsFoundPart edit segments index from part
  part_found = parts_are_found kept segments edit index from part are is found

  pub edit_among : IsEditAmong edit from (length part.steps)
  edit_among =
      let before = take index segments in
      let after = drop (index + 1) segments in
      let split = part_found.split in
      subst (λ begin. IsEditAmong edit begin (length part.steps)) part_found.begins
      (is_among edit (all_steps segments) (length (all_steps before)) (length part.steps) (passed kept.session edit accepts).place split.from
      (within_part kept segments before part after are edit split)
      (below_part kept segments before part after are edit split))

  pub edited_at_step : (kernel : View) (steps : List Step) → IsSession (session_of header segments) → IsStepEdit edit → kernel ≡ part.kernel → steps ≡
      edited_part edit from part.steps → IsEditedSegment (session_of header segments) edit segments kernel steps index (index + 1)
  edited_at_step kernel steps session step copied left =
      let before = take index segments in
      let after = drop (index + 1) segments in
      let split = part_found.split in
      record {
        order = omega arith;
        within = omega (arith, slice_get_within segments index part found);
        split = one_split edit segments before part after steps step split
            (left ∙ ap (λ begin. edited_part edit begin part.steps) (sym part_found.begins));
        stands = subst (λ (view : View). StandsFor view (state_at (edited edit kept.session).header (edited edit kept.session).steps
            (length (all_steps before)))) (sym copied)
            (part_stands_still kept edit segments before part after are accepts (same_header kept.session edit step) split);
        settings = ap (λ (view : View). view.settings) copied ∙ segment_kernel_settings kept segments index part are found session;
      }
