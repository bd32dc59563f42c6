-- What segments tell of their session: its places, the part that is edited, and its tallies.
use Rattle.std.proofs.Common.{◌≡◌, ◌⊎◌, inl, inr, ⊎_elim, ℕ, zero, suc, ◌+◌, ◌-◌, ◌<◌, ◌≤◌, Bool, leb, List, [], ◌∷◌, ◌++◌, length, map, take, drop, None, Ok}
use Rattle.std.proofs.Common.{refl, sym, ap, ap₂, subst, ◌∙◌, arith, add-one, take-add}
use Rattle.std.specs.Prelude.{All, Some, fold, option_map, slice_get, if◌then◌else◌}
use Rattle.std.proofs.lemmas.Bool.Decides.{nat_tests}
use Rattle.std.proofs.lemmas.List.{append-nil, append_assoc, take_at, drop_at, take-append-le, length-append}
use Rattle.std.proofs.lemmas.Option.{same_Some, slice_get_within}
use Rattle.bench_types.specs.declared.edit.Edit.{Edit}
use Rattle.bench_types.specs.declared.header.Header.{Header}
use Rattle.bench_types.specs.declared.kernel_data.Settings.{Settings}
use Rattle.bench_types.specs.declared.step.Step.{Step}
use Rattle.bench_types.specs.Session.{Session, IsSession}
use Rattle.bench_types.specs.Step.{settings_of, IsCheckedStep}
use Rattle.list_orders.specs.Search.{numbers}
use Rattle.bench_model.specs.Control.{running}
use Rattle.bench_model.specs.Edits.{accepted, edited}
use Rattle.bench_model.specs.Equal.{StandsFor}
use Rattle.bench_model.specs.Lists.{View}
use Rattle.bench_model.specs.Meeting.{CheckpointedSession, place_of}
use Rattle.bench_model.specs.Seek.{after_switch}
use Rattle.bench_model.specs.Session.{step_of, state_after, state_at, reply_at, running_at}
use Rattle.bench_model.specs.Sound.{IsSound}
use Rattle.bench_model.specs.Start.{start, started, unstarted, first_stamps}
use Rattle.bench_model.specs.Table.{Table, stamp_queues}
use Rattle.bench_model.specs.Tallied.{part_tallies, added}
use Rattle.bench_model.specs.Tally.{tallies}
use Rattle.session_laws.proofs.Tallies.{parts_added, stepwise}
use Rattle.step_laws.proofs.Along.{sound_along, settings_along, start_settings}
use Rattle.step_laws.proofs.Starts.{start_sound}
use Rattle.meeting_laws.specs.RunLaws.{tallies_in_turn}
use Rattle.meeting_laws.proofs.Meetings.{before_is_untouched}
use Rattle.meeting_laws.proofs.Runs.{segments_add_up}
use Rattle.segment_laws.specs.EditedSegments.{IsSplitAt}
use Rattle.segment_laws.specs.SegmentLaws.{IsReadAt, IsFoundPart}
use Rattle.segment_laws.specs.Segments.{SegmentView, steps_of, all_steps, lengths, starts, Follow, AreSegments, IsIndexOf, reply_after, running_after}
use Rattle.segment_laws.proofs.Following.{split_at, take_with, take_found, All_front, All_back, all_more, all_split, state_append, follow_back}
use Rattle.segment_laws.proofs.Starts.{starts_at}

-- ---- lists

module _ {X : Type 0} where
  get_front : (own rest : List X) (k : ℕ) → k < length own → slice_get (own ++ rest) k ≡ slice_get own k
  get_front [] rest k early = absurd (omega arith)
  get_front (x ∷ own) rest zero early = refl
  get_front (x ∷ own) rest (suc k) early = get_front own rest k (omega arith)

  get_later : (front rest : List X) (k : ℕ) → slice_get (front ++ rest) (length front + k) ≡ slice_get rest k
  get_later [] rest k =
      let same : 0 + k ≡ k = omega arith in
      ap (slice_get rest) same
  get_later (x ∷ front) rest k =
      let same : suc (length front) + k ≡ suc (length front + k) = omega arith in
      ap (slice_get (x ∷ front ++ rest)) same ∙ get_later front rest k

  -- a place within the first of two lists, or the second is empty
  take_own : (own rest : List X) (k : ℕ) → (rest ≡ []) ⊎ (k < length own) → take k (own ++ rest) ≡ take k own
  take_own own rest k = ⊎_elim
      (λ none. ap (λ ys. take k (own ++ ys)) none ∙ ap (take k) (append-nil own))
      (λ early. take-append-le k own rest (omega arith))

  get_own : (own rest : List X) (k : ℕ) → (rest ≡ []) ⊎ (k < length own) → slice_get (own ++ rest) k ≡ slice_get own k
  get_own own rest k = ⊎_elim
      (λ none. ap (λ ys. slice_get (own ++ ys) k) none ∙ ap (λ ys. slice_get ys k) (append-nil own))
      (get_front own rest k)

-- ---- the state after the first steps

pub state_front : (header : Header) (steps front rest : List Step) → steps ≡ front ++ rest → state_at header steps (length front) ≡ state_after (start header)
    front
unfolding state_at
state_front header steps front rest whole =
    ap (state_after (start header)) (ap (take (length front)) whole ∙ take_at front rest (length front) refl)

-- the steps of a session in two parts: each is checked, and the state between them is sound
module _ (session : Session) (front rest : List Step) (is : IsSession session) (whole : session.steps ≡ front ++ rest) where
  all_checked : All (IsCheckedStep (settings_of session.header)) (front ++ rest)
  all_checked = subst (All (IsCheckedStep (settings_of session.header))) whole is.steps

  pub front_checked : All (IsCheckedStep (settings_of session.header)) front
  front_checked = All_front (IsCheckedStep (settings_of session.header)) front rest all_checked

  pub back_checked : All (IsCheckedStep (settings_of session.header)) rest
  back_checked = All_back (IsCheckedStep (settings_of session.header)) front rest all_checked

  from_start : All (IsCheckedStep (start session.header).settings) front
  from_start = subst (λ settings. All (IsCheckedStep settings) front) (sym (start_settings session.header)) front_checked

  pub front_sound : IsSound (state_after (start session.header) front)
  front_sound = sound_along front (start session.header) (start_sound session.header is.header.passes) from_start

  pub front_settings : (state_after (start session.header) front).settings ≡ settings_of session.header
  front_settings = settings_along front (start session.header) (start_sound session.header is.header.passes) from_start ∙ start_settings session.header

-- ---- a segment of a session

module _ (kept : CheckpointedSession) (segments before : List SegmentView) (part : SegmentView) (after : List SegmentView) (are : AreSegments kept segments)
    (whole : segments ≡ before ++ part ∷ after) where
  -- the steps of the session
  pub part_steps : kept.session.steps ≡ all_steps before ++ (part.steps ++ all_steps after)
  part_steps = sym are.steps ∙ ap all_steps whole ∙ all_more before (part ∷ after)

  part_kernel : StandsFor part.kernel (state_after (start kept.session.header) (all_steps before))
  part_kernel = (follow_back before (part ∷ after) (start kept.session.header) (subst (Follow (start kept.session.header)) whole are.follow)).0

  -- its kernel stands for the state at the place where it begins
  pub part_stands : StandsFor part.kernel (state_at kept.session.header kept.session.steps (length (all_steps before)))
  part_stands =
      subst (StandsFor part.kernel) (sym (state_front kept.session.header kept.session.steps (all_steps before) (part.steps ++ all_steps after) part_steps))
      part_kernel

  pub part_checked : IsSession kept.session → All (IsCheckedStep (settings_of kept.session.header)) part.steps
  part_checked is =
      All_front (IsCheckedStep (settings_of kept.session.header)) part.steps (all_steps after)
      (back_checked kept.session (all_steps before) (part.steps ++ all_steps after) is part_steps)

  -- the settings there, and those of its kernel, are the session's
  pub part_settings : IsSession kept.session → (state_at kept.session.header kept.session.steps (length (all_steps before))).settings ≡ settings_of
      kept.session.header
  part_settings is =
      ap (λ (table : Table). table.settings) (state_front kept.session.header kept.session.steps (all_steps before) (part.steps ++ all_steps after) part_steps)
      ∙ front_settings kept.session (all_steps before) (part.steps ++ all_steps after) is part_steps

  pub kernel_settings : IsSession kept.session → part.kernel.settings ≡ settings_of kept.session.header
  kernel_settings is = sym (ap (λ (view : View). view.settings) part_stands.shows) ∙ part_settings is

-- the same of the segment at an index
module _ (kept : CheckpointedSession) (segments : List SegmentView) (index : ℕ) (segment : SegmentView) (are : AreSegments kept segments)
    (found : slice_get segments index ≡ Some segment) where
  pub segment_stands : StandsFor segment.kernel (state_at kept.session.header kept.session.steps (length (all_steps (take index segments))))
  segment_stands = part_stands kept segments (take index segments) segment (drop (suc index) segments) are (split_at segments index segment found)

  pub segment_checked : IsSession kept.session → All (IsCheckedStep (settings_of kept.session.header)) segment.steps
  segment_checked = part_checked kept segments (take index segments) segment (drop (suc index) segments) are (split_at segments index segment found)

  pub segment_settings : IsSession kept.session → (state_at kept.session.header kept.session.steps (length (all_steps (take index segments)))).settings ≡
      settings_of kept.session.header
  segment_settings = part_settings kept segments (take index segments) segment (drop (suc index) segments) are (split_at segments index segment found)

  pub segment_kernel_settings : IsSession kept.session → segment.kernel.settings ≡ settings_of kept.session.header
  segment_kernel_settings = kernel_settings kept segments (take index segments) segment (drop (suc index) segments) are (split_at segments index segment found)

-- ---- where a segment begins and ends

-- the segment from the last checkpoint before a place
module _ (kept : CheckpointedSession) (segments : List SegmentView) (place index from : ℕ) (segment : SegmentView) (are : AreSegments kept segments)
    (is : IsIndexOf kept.checkpoints place index from) (found : slice_get segments index ≡ Some segment) where
  starts_kept : (i : ℕ) (one : SegmentView) → slice_get segments i ≡ Some one → slice_get kept.checkpoints i ≡ Some (0 + length (all_steps (take i segments)))
  starts_kept i one there = ap (λ places. slice_get places i) (sym are.places) ∙ starts_at segments 0 i (slice_get_within segments i one there)

  pub begins_at : length (all_steps (take index segments)) ≡ from
  begins_at =
      let same : 0 + length (all_steps (take index segments)) ≡ from = same_Some _ from (sym (starts_kept index segment found) ∙ is.there) in
      omega (arith, same)

  pub before_next : (next : SegmentView) (rest : List SegmentView) → drop (suc index) segments ≡ next ∷ rest → place < from + length segment.steps
  before_next next rest drops =
      let there : slice_get segments (suc index) ≡ Some next = take_found segments (suc index) ∙ ap (λ list. slice_get list 0) drops in
      let before = all_steps (take index segments) in
      let steps : all_steps (take (suc index) segments) ≡ before ++ (segment.steps ++ []) = ap all_steps (take_with segments index segment found) ∙ all_more
      (take index segments) (segment ∷ []) in
      let place : 0 + length (all_steps (take (suc index) segments)) ≡ from + length segment.steps = omega
      (arith, begins_at, ap length steps, length-append before (segment.steps ++ []), ap length (append-nil segment.steps)) in
      is.last (from + length segment.steps) (ap (slice_get kept.checkpoints) (add-one index) ∙ starts_kept (suc index) next there ∙ ap Some place)

  ends_at : (all_steps (drop (suc index) segments) ≡ []) ⊎ (place < from + length segment.steps)
  ends_at = at (drop (suc index) segments) refl
    where
      at : (after : List SegmentView) → drop (suc index) segments ≡ after → (all_steps (drop (suc index) segments) ≡ []) ⊎ (place < from + length segment.steps)
      at [] drops = inl (ap all_steps drops)
      at (next ∷ rest) drops = inr (before_next next rest drops)

-- ---- a place of steps in three parts: it lies in the second, or the third has none

module _ (header : Header) (steps front own rest : List Step) (place from : ℕ) (whole : steps ≡ front ++ (own ++ rest)) (at : length front ≡ from)
    (before : from ≤ place) (ends : (rest ≡ []) ⊎ (place < from + length own)) where
  there : place ≡ length front + (place - from)
  there = omega (arith, at, before)

  early : (rest ≡ []) ⊎ (place - from < length own)
  early = ⊎_elim (λ none. inl none) (λ below. inr (omega (arith, below, before))) ends

  taken : take place steps ≡ front ++ take (place - from) own
  taken =
      let k : ℕ = place - from in
      ap₂ take there whole
      ∙ take-add (length front) k (front ++ (own ++ rest))
      ∙ ap₂ (λ xs ys. xs ++ take k ys) (take_at front (own ++ rest) (length front) refl) (drop_at front (own ++ rest) (length front) refl)
      ∙ ap (λ ys. front ++ ys) (take_own own rest k early)

  state_from : state_at header steps from ≡ state_after (start header) front
  state_from = ap (state_at header steps) (sym at) ∙ state_front header steps front (own ++ rest) whole

  state_read : state_at header steps place ≡ state_after (state_at header steps from) (take (place - from) own)
  unfolding state_at
  state_read =
      ap (state_after (start header)) taken
      ∙ state_append (start header) front (take (place - from) own)
      ∙ ap (λ state. state_after state (take (place - from) own)) (sym state_from)

  step_read : slice_get steps place ≡ slice_get own (place - from)
  step_read =
      ap₂ (λ xs n. slice_get xs n) whole there
      ∙ get_later front (own ++ rest) (place - from)
      ∙ get_own own rest (place - from) early

  reply_read : reply_at header steps place ≡ reply_after (state_at header steps from) own (place - from)
  unfolding reply_at
  reply_read = ap₂ (λ state found. option_map (λ step. (step_of step state).0) found) state_read step_read

  all_lengths : length steps ≡ from + length own + length rest
  all_lengths = omega (arith, ap length whole, length-append front (own ++ rest), length-append own rest, at)

  read_within : place ≤ length steps → place - from ≤ length own
  read_within within = ⊎_elim
      (λ none. omega (arith, within, all_lengths, ap length none, before))
      (λ below. omega (arith, below, before))
      ends

  read_past : length steps < place → length own < place - from
  read_past past = ⊎_elim
      (λ none. omega (arith, past, all_lengths, ap length none))
      (λ below. absurd (omega (arith, past, all_lengths, below)))
      ends

  same_test : leb place (length steps) ≡ leb (place - from) (length own)
  same_test = ⊎_elim
      (λ none. let lengths : length steps ≡ from + length own = omega (arith, all_lengths, ap length none) in grind (arith, nat_tests, lengths, before))
      (λ below. grind (arith, nat_tests, all_lengths, below, before))
      ends

  row_read : running_at header steps place ≡ running_after (state_at header steps from) own (place - from)
  unfolding running_at
  row_read = ap₂ (λ (b : Bool) (table : Table). if b then Some (running table.control) else None) same_test state_read

pub places_are_read : (kept : CheckpointedSession) (segments : List SegmentView) (place index from : ℕ) (segment : SegmentView) → AreSegments kept segments →
    IsIndexOf kept.checkpoints place index from → slice_get segments index ≡ Some segment → IsReadAt kept.session place from segment
places_are_read kept segments place index from segment are is found =
    let header = kept.session.header in
    let steps = kept.session.steps in
    let front = all_steps (take index segments) in
    let own = segment.steps in
    let rest = all_steps (drop (suc index) segments) in
    let whole : steps ≡ front ++ (own ++ rest) = sym are.steps ∙ all_split segments index segment found in
    let at = begins_at kept segments place index from segment are is found in
    let ends = ends_at kept segments place index from segment are is found in
    record {
      stands = subst (λ place. StandsFor segment.kernel (state_at header steps place)) at (segment_stands kept segments index segment are found);
      state = state_read header steps front own rest place from whole at is.before ends;
      step = step_read header steps front own rest place from whole at is.before ends;
      reply = reply_read header steps front own rest place from whole at is.before ends;
      row = row_read header steps front own rest place from whole at is.before ends;
      within = read_within header steps front own rest place from whole at is.before ends;
      past = read_past header steps front own rest place from whole at is.before ends;
    }

-- ---- the part that is edited

pub parts_are_found : (kept : CheckpointedSession) (segments : List SegmentView) (edit : Edit) (index from : ℕ) (part : SegmentView) → AreSegments kept segments
    → IsIndexOf kept.checkpoints (place_of edit) index from → slice_get segments index ≡ Some part → IsFoundPart edit segments index from part
parts_are_found kept segments edit index from part are is found =
    let begins = begins_at kept segments (place_of edit) index from part are is found in
    let dropped : drop (suc index) segments ≡ drop (index + 1) segments = ap (λ n. drop n segments) (sym (add-one index)) in
    record {
      split = record {
        whole = split_at segments index part found ∙ ap (λ after. take index segments ++ part ∷ after) dropped;
        from = omega (arith, begins, is.before);
        within = λ next rest after. omega (arith, begins, before_next kept segments (place_of edit) index from part are is found next rest (dropped ∙ after));
      };
      begins = begins;
    }

pub part_stands_still : (kept : CheckpointedSession) (edit : Edit) (segments before : List SegmentView) (part : SegmentView) (after : List SegmentView) →
    AreSegments kept segments → accepted kept.session edit ≡ Ok tt → (edited edit kept.session).header ≡ kept.session.header → IsSplitAt edit segments before
    part after →
    StandsFor part.kernel (state_at (edited edit kept.session).header (edited edit kept.session).steps (length (all_steps before)))
part_stands_still kept edit segments before part after are accepts header split =
    let untouched = before_is_untouched kept.session edit (length (all_steps before)) accepts header split.from in
    subst (StandsFor part.kernel) (sym untouched.state) (part_stands kept segments before part after are split.whole)

-- ---- tallies

-- with one segment more
pub tallies_more : (settings : Settings) (table : Table) (segments : List SegmentView) (index : ℕ) (segment : SegmentView) → slice_get segments index ≡ Some
    segment →
    part_tallies settings table (all_steps (take (suc index) segments)) ≡ added (part_tallies settings table (all_steps (take index segments)))
    (part_tallies settings (state_after table (all_steps (take index segments))) segment.steps)
tallies_more settings table segments index segment found =
    let front = all_steps (take index segments) in
    let steps : all_steps (take (suc index) segments) ≡ front ++ segment.steps = ap all_steps (take_with segments index segment found) ∙ all_more
    (take index segments) (segment ∷ []) ∙ ap (λ own. front ++ own) (append-nil segment.steps) in
    ap (part_tallies settings table) steps ∙ parts_added settings table front segment.steps

steps_in_turn : (first : List Step) (segments : List SegmentView) → fold (λ steps segment. steps ++ segment) first (map steps_of segments) ≡ first ++ all_steps
    segments
steps_in_turn first [] = sym (append-nil first)
steps_in_turn first (segment ∷ segments) = steps_in_turn (first ++ segment.steps) segments ∙ append_assoc first segment.steps (all_steps segments)

-- those of the session are the first segment's, with each later one's added to them
pub segment_tallies : (kept : CheckpointedSession) (first : SegmentView) (segments : List SegmentView) → AreSegments kept (first ∷ segments) → let settings =
    settings_of kept.session.header in let table = start kept.session.header in
    tallies kept.session.header kept.session.steps ≡ fold added (part_tallies settings table first.steps)
    (tallies_in_turn settings (state_after table first.steps) (map steps_of segments))
segment_tallies kept first segments are =
    let settings = settings_of kept.session.header in
    let table = start kept.session.header in
    stepwise kept.session.header kept.session.steps
    ∙ ap (part_tallies settings table) (sym are.steps ∙ sym (steps_in_turn first.steps segments))
    ∙ segments_add_up settings table first.steps (map steps_of segments)
