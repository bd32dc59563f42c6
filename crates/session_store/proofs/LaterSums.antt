-- Sums of the tallies of a replay's last segments.
use Rattle.std.proofs.Common.{◌≡◌, ◌⊎◌, inl, inr, ⊎_elim, false, ◌||◌, ℕ, zero, suc, ◌+◌, ◌-◌, ◌*◌, ◌≤◌, ◌^◌, List, [], ◌∷◌, ◌++◌, length, take, drop, Some}
use Rattle.std.proofs.Common.{refl, sym, ap, subst, ◌∙◌, arith}
use Rattle.std.specs.Prelude.{All, reverse, slice_get}
use Rattle.std.proofs.lemmas.List.{append_assoc, append-nil, drop_all, drop-drop, length-append, length-drop, reverse-append, take_all, take-append-drop}
use Rattle.std.proofs.lemmas.Bool.{or_parts}
use Rattle.std.proofs.lemmas.List.Folds.{list_any-append}
use Rattle.std.proofs.lemmas.Option.{same_Some}
use Rattle.bench_types.specs.declared.header.Header.{Header}
use Rattle.bench_types.specs.declared.kernel_data.Settings.{Settings}
use Rattle.bench_types.specs.declared.step.Step.{Step}
use Rattle.bench_types.specs.Step.{settings_of, IsCheckedStep}
use Rattle.bench_model.specs.Equal.{StandsFor}
use Rattle.bench_model.specs.Lists.{View}
use Rattle.bench_model.specs.Session.{step_of, state_after}
use Rattle.bench_model.specs.Shifted.{delays_until, some_delays_until}
use Rattle.bench_model.specs.Sound.{IsSound}
use Rattle.bench_model.specs.Start.{start}
use Rattle.bench_model.specs.Table.{Table, stamp_queues}
use Rattle.bench_model.specs.Tallied.{added, added_tally, moment_of, part_tallies, run_at, shape, shape_of, tallied, tallied_after, tally_at, AllCountsBelow}
use Rattle.bench_model.specs.Tally.{TaskTally}
use Rattle.session_laws.proofs.Shapes.{tallied_shape}
use Rattle.session_laws.proofs.Tallies.{numbers_so, part_few, parts_added}
use Rattle.meeting_laws.specs.RunLaws.{MeetBy}
use Rattle.meeting_laws.proofs.Meets.{met_run_alike}
use Rattle.tallies.proofs.Additions.{run_lengths, same_length}
use Rattle.tallies.proofs.Rooms.{first_shape, wider_room}
use Rattle.segment_laws.specs.Segments.{SegmentView, all_steps, later_segments, AreSegments, Follow}
use Rattle.segment_laws.proofs.Following.{All_front, all_more, segments_split, follow_back, kernel_at, segment_follows, state_append, take_with}
use Rattle.segment_laws.proofs.LaterSegments.{later_steps}
use Rattle.segment_laws.proofs.Reading.{back_checked, front_settings, front_sound, segment_kernel_settings}
use Rattle.session_store.specs.Kept.{kept_of, session_of}
use Rattle.session_store.specs.Sums.{block, IsSumFrom}
use Rattle.session_store.specs.Trials.{AreTallied, AreTalliedFrom, AreTalliedLater, IsReplay}
use Rattle.session_store.proofs.LaterTallies.{later_append, later_found, later_one, one_shifted}
use Rattle.session_store.proofs.StoreTallies.{first_of, first_there, run_fits, run_goes, run_shapes, tallied_alike, Counts}

-- ---- lists

module _ {X : Type 0} where
  -- the items from one on
  drop_with : (xs : List X) (index : ℕ) (x : X) → slice_get xs index ≡ Some x → drop index xs ≡ x ∷ drop (suc index) xs
  drop_with [] index x found = absurd (cc found)
  drop_with (y ∷ ys) zero x found = ap (λ z. z ∷ ys) (same_Some y x found)
  drop_with (y ∷ ys) (suc index) x found = drop_with ys index x found

  -- the items from an index on are those up to a later one, and those from there on
  drop_cut : (xs : List X) (from next : ℕ) → from ≤ next → drop from xs ≡ take (next - from) (drop from xs) ++ drop next xs
  drop_cut xs from next order =
      let same : from + (next - from) ≡ next = omega (arith, order) in
      sym (take-append-drop (next - from) (drop from xs)) ∙ ap (λ ys. take (next - from) (drop from xs) ++ ys)
      (drop-drop (next - from) from xs ∙ ap (λ n. drop n xs) same)

  reverse_pushed : (xs : List X) (x : X) → reverse (xs ++ x ∷ []) ≡ x ∷ reverse xs
  reverse_pushed xs x = reverse-append xs (x ∷ [])

-- ---- the order in which two parts are added

same_tally : {run run' : List ℕ} {a a' b b' c c' d d' e e' f f' : ℕ} → run ≡ run' → a ≡ a' → b ≡ b' → c ≡ c' → d ≡ d' → e ≡ e' → f ≡ f' →
    let tally : TaskTally = record { run = run; counts = record { wait = a; inverted = b; switched = c; displaced = d; timeouts = e; top = f } } in
    let tally' : TaskTally = record { run = run'; counts = record { wait = a'; inverted = b'; switched = c'; displaced = d'; timeouts = e'; top = f' } } in
    tally ≡ tally'
same_tally run a b c d e f = cc

tally_swaps : (a b : TaskTally) → length a.run ≡ length b.run → added_tally a b ≡ added_tally b a
unfolding added_tally
tally_swaps a b same =
    same_tally (numbers_so (λ core. run_at a core + run_at b core) (λ core. run_at b core + run_at a core) (length a.run) (length b.run) same
    (λ core below. omega arith))
    (omega arith) (omega arith) (omega arith) (omega arith) (omega arith) (omega arith)

added_swaps : (a b : List TaskTally) → shape a ≡ shape b → added a b ≡ added b a
unfolding added
added_swaps a b same =
    numbers_so (λ task. added_tally (tally_at a task) (tally_at b task)) (λ task. added_tally (tally_at b task) (tally_at a task)) (length a) (length b)
    (same_length a b same)
    (λ task below. tally_swaps (tally_at a task) (tally_at b task) (run_lengths a b task same (omega (arith, below, same_length a b same))))

-- ---- the shape of a part's tallies

after_shape : (steps : List Step) (table : Table) (tallies : List TaskTally) → shape (tallied_after table steps tallies) ≡ shape tallies
after_shape [] table tallies = refl
after_shape (step ∷ steps) table tallies =
    after_shape steps (step_of step table).1 (tallied stamp_queues (moment_of table step) tallies) ∙ tallied_shape stamp_queues (moment_of table step) tallies

pub part_shape : (settings : Settings) (table : Table) (steps : List Step) → shape (part_tallies settings table steps) ≡ shape_of settings
part_shape settings table steps = after_shape steps table _ ∙ first_shape settings table.control

-- ---- one segment more, before those that were counted

module _ (header : Header) (segments : List SegmentView) (replay : IsReplay header segments) (index : ℕ) (segment : SegmentView)
    (found : slice_get segments index ≡ Some segment) (part : List TaskTally)
    (shown : (table : Table) → StandsFor segment.kernel table → part ≡ part_tallies segment.kernel.settings table segment.steps)
    (sized : shape part ≡ shape_of segment.kernel.settings) where
  are : AreSegments (kept_of header 0 segments) segments
  are = record { steps = refl; places = refl; follow = replay.follow }

  abbrev cut : Table
  cut = state_after (start header) (all_steps (take index segments))

  abbrev rest : List Step
  rest = all_steps (drop (suc index) segments)

  settings : segment.kernel.settings ≡ settings_of header
  settings = segment_kernel_settings (kept_of header 0 segments) segments index segment are found replay.session

  part_is : part ≡ part_tallies (settings_of header) cut segment.steps
  part_is = shown cut (segment_follows (start header) segments index segment replay.follow found) ∙ ap (λ (s : Settings). part_tallies s cut segment.steps)
      settings

  part_sizes : shape part ≡ shape_of (settings_of header)
  part_sizes = sized ∙ ap shape_of settings

  steps_from : all_steps (drop index segments) ≡ segment.steps ++ rest
  steps_from = ap all_steps (drop_with segments index segment found)

  -- the last segment
  pub last_tallied : length segments ≤ suc index → AreTalliedFrom header (take index segments) (drop index segments) part
  last_tallied all =
      let none : rest ≡ [] = ap all_steps (drop_all (suc index) segments all) in
      record {
        counts = part_is ∙ ap (part_tallies (settings_of header) cut) (sym (steps_from ∙ ap (λ xs. segment.steps ++ xs) none ∙ append-nil segment.steps));
        sizes = part_sizes;
      }

  module _ (total : List TaskTally) (so_far : AreTalliedFrom header (take (suc index) segments) (drop (suc index) segments) total) where
    next_cut : state_after (start header) (all_steps (take (suc index) segments)) ≡ state_after cut segment.steps
    next_cut =
        ap (λ (xs : List SegmentView). state_after (start header) (all_steps xs)) (take_with segments index segment found)
        ∙ ap (state_after (start header)) (all_more (take index segments) (segment ∷ []) ∙ ap (λ xs. all_steps (take index segments) ++ xs)
        (append-nil segment.steps))
        ∙ state_append (start header) (all_steps (take index segments)) segment.steps

    pub earlier_shapes : shape total ≡ shape part
    earlier_shapes = so_far.sizes ∙ sym part_sizes

    sum : added total part ≡ part_tallies (settings_of header) cut (all_steps (drop index segments))
    sum =
        added_swaps total part earlier_shapes ∙ ap (λ (a : List TaskTally). added a total) part_is
        ∙ ap (added (part_tallies (settings_of header) cut segment.steps))
        (so_far.counts ∙ ap (λ (table : Table). part_tallies (settings_of header) table rest) next_cut)
        ∙ sym (parts_added (settings_of header) cut segment.steps rest)
        ∙ ap (part_tallies (settings_of header) cut) (sym steps_from)

    few : suc (length (all_steps (drop index segments))) ≤ 2 ^ 32
    few =
        let all = ap (λ (xs : List Step). length xs) (segments_split index segments) in
        omega (arith, replay.few_steps, all, length-append (all_steps (take index segments)) (all_steps (drop index segments)))

    pub earlier_fits : AllCountsBelow (2 ^ 32) (added total part)
    earlier_fits =
        let steps = all_steps (drop index segments) in
        subst (AllCountsBelow (2 ^ 32)) (sym sum) (wider_room (part_tallies (settings_of header) cut steps) few (part_few (settings_of header) cut steps))

    pub earlier_goes : (next : List TaskTally) → next ≡ added total part → shape next ≡ shape total → AreTalliedFrom header (take index segments)
        (drop index segments) next
    earlier_goes next is kept = record {
      counts = is ∙ sum;
      sizes = kept ∙ so_far.sizes;
    }

-- ---- the loop that makes the sums

-- what a list of sums says, the last of which is of this block
abbrev pub AreFrom : Header → List SegmentView → ℕ → List (List TaskTally) → Type 0
AreFrom header segments first sums =
    (k j : ℕ) (sum : List TaskTally) → slice_get (reverse sums) j ≡ Some sum → k ≡ j + first → AreTalliedFrom header (take (k * block) segments)
    (drop (k * block) segments) sum

-- the sum of the segments so far is pushed at each block's begin
pub sum_pushed : (header : Header) (segments : List SegmentView) (index first : ℕ) (sums pushed : List (List TaskTally)) (sum : List TaskTally) → pushed ≡ sums
    ++ sum ∷ [] → index ≡ first * block → AreTalliedFrom header (take index segments) (drop index segments) sum
    → AreFrom header segments (suc first) sums → AreFrom header segments first pushed
sum_pushed header segments index first sums pushed sum is here tallied each k zero one found place =
    let same : sum ≡ one = same_Some sum one (ap (λ (xs : List (List TaskTally)). slice_get xs 0)
    (sym (ap (λ (xs : List (List TaskTally)). reverse xs) is ∙ reverse_pushed sums sum)) ∙ found) in
    let there : index ≡ k * block = omega (arith, here, place) in
    subst (λ (n : ℕ). AreTalliedFrom header (take n segments) (drop n segments) one) there
    (subst (AreTalliedFrom header (take index segments) (drop index segments)) same tallied)
sum_pushed header segments index first sums pushed sum is here tallied each k (suc j) one found place =
    each k j one (ap (λ (xs : List (List TaskTally)). slice_get xs (suc j)) (sym (ap (λ (xs : List (List TaskTally)). reverse xs) is ∙ reverse_pushed sums sum))
    ∙ found) (omega (arith, place))

-- ---- segments that two replays have in common

module _ (header : Header) (segments : List SegmentView) (replay : IsReplay header segments) (front later rest : List SegmentView)
    (whole : segments ≡ front ++ later ++ rest) (first : SegmentView) (found : slice_get later 0 ≡ Some first) where
  abbrev begin : Table
  begin = state_after (start header) (all_steps front)

  split : segments ≡ front ++ (later ++ rest)
  split = whole ∙ append_assoc front later rest

  split_steps : all_steps segments ≡ all_steps front ++ all_steps (later ++ rest)
  split_steps = ap all_steps split ∙ all_more front (later ++ rest)

  begin_sound : IsSound begin
  begin_sound = front_sound (session_of header segments) (all_steps front) (all_steps (later ++ rest)) replay.session split_steps

  begin_settings : begin.settings ≡ settings_of header
  begin_settings = front_settings (session_of header segments) (all_steps front) (all_steps (later ++ rest)) replay.session split_steps

  begin_stands : StandsFor first.kernel begin
  begin_stands =
      kernel_at (later ++ rest) begin first (follow_back front (later ++ rest) (start header) (subst (Follow (start header)) split replay.follow))
      (first_there later rest first found)

  begin_checked : All (IsCheckedStep begin.settings) (all_steps later)
  begin_checked =
      subst (λ (s : Settings). All (IsCheckedStep s) (all_steps later)) (sym begin_settings)
      (All_front (IsCheckedStep (settings_of header)) (all_steps later) (all_steps rest)
      (subst (All (IsCheckedStep (settings_of header))) (all_more later rest)
      (back_checked (session_of header segments) (all_steps front) (all_steps (later ++ rest)) replay.session split_steps)))

-- a sum of them in one is that in the other, where they are so many ticks later
module _ (header : Header) (segments : List SegmentView) (replay : IsReplay header segments) (front later rest : List SegmentView)
    (whole : segments ≡ front ++ later ++ rest)
    (by : ℕ) (unread : (by ≡ 0) ⊎ (some_delays_until (all_steps later) ≡ false))
    (other : Header) (others : List SegmentView) (replayed : IsReplay other others) (before more : List SegmentView)
    (parts : others ≡ before ++ later_segments by later ++ more) (first : SegmentView) (found : slice_get later 0 ≡ Some first) where
  later_alike : (total : List TaskTally) → AreTalliedFrom header front later total → AreTalliedFrom other before (later_segments by later) total
  later_alike total tallied =
      let a = state_after (start header) (all_steps front) in
      let b = state_after (start other) (all_steps before) in
      let moved = later_segments by later in
      let steps = all_steps later in
      let there = later_found by later 0 first found in
      let one = begin_stands header segments replay front later rest whole first found in
      let two = begin_stands other others replayed before moved more parts (later_one by first) there in
      let meet : MeetBy by a b steps = record { later = one_shifted by first a b one two; unread = unread } in
      let own = begin_settings header segments replay front later rest whole first found in
      let settings : a.settings ≡ settings_of other = sym (ap (λ (view : View). view.settings) meet.later) ∙ begin_settings other others replayed before moved
      more parts (later_one by first) there in
      let run =
      met_run_alike by a b steps (begin_sound header segments replay front later rest whole first found)
      (begin_sound other others replayed before moved more parts (later_one by first) there) meet
      (begin_checked header segments replay front later rest whole first found) in
      record {
        counts =
            tallied.counts ∙ ap (λ (s : Settings). part_tallies s a steps) (sym own) ∙ run.tallies ∙ ap (λ (s : Settings). part_tallies s b steps) settings
            ∙ ap (part_tallies (settings_of other) b) (sym (later_steps by later));
        sizes = tallied.sizes ∙ ap shape_of (sym own ∙ settings);
      }

-- ---- the last segments, as a slice lends them

pub all_lent : (segments : List SegmentView) (from : ℕ) (total next : List TaskTally) → Counts total (take (length segments - from) (drop from segments)) next →
    Counts total (drop from segments) next
all_lent segments from total next = subst (λ (xs : List SegmentView). Counts total xs next)
    (take_all (length segments - from) (drop from segments) (omega (arith, length-drop from segments)))

-- ---- the last segments, up to a checkpoint and from there on

module _ (segments : List SegmentView) (from next : ℕ) (total sum : List TaskTally) (found : IsSumFrom segments from sum next)
    (known : AreTalliedLater total (drop from segments)) where
  abbrev pub near : List SegmentView
  near = take (next - from) (drop from segments)

  abbrev pub far : List SegmentView
  far = drop next segments

  cut_there : drop from segments ≡ near ++ far
  cut_there = drop_cut segments from next found.order

  pub unread_parts : (known.by ≡ 0) ⊎ ((some_delays_until (all_steps near) ≡ false) × (some_delays_until (all_steps far) ≡ false))
  unread_parts = ⊎_elim
      (λ none. inl none)
      (λ unread.
      let parts : (some_delays_until (all_steps near) || some_delays_until (all_steps far)) ≡ false =
      sym (ap some_delays_until (ap all_steps cut_there ∙ all_more near far) ∙ list_any-append delays_until (all_steps near) (all_steps far)) ∙ unread in
      inr (or_parts (some_delays_until (all_steps near)) (some_delays_until (all_steps far)) parts))
      known.unread

  abbrev moved_near : List SegmentView
  moved_near = later_segments known.by near

  abbrev moved_far : List SegmentView
  moved_far = later_segments known.by far

  pub near_whole : known.before.earlier ++ later_segments known.by (drop from segments) ++ known.before.later ≡ known.before.earlier ++ moved_near ++ moved_far
      ++ known.before.later
  near_whole =
      ap (λ xs. known.before.earlier ++ xs ++ known.before.later) (ap (later_segments known.by) cut_there ∙ later_append known.by near far)
      ∙ ap (λ xs. xs ++ known.before.later) (sym (append_assoc known.before.earlier moved_near moved_far))

  abbrev pub before_near : AreTalliedLater total near
  before_near = record {
    by = known.by;
    unread = ⊎_elim (λ none. inl none) (λ (both : (some_delays_until (all_steps near) ≡ false) × (some_delays_until (all_steps far) ≡ false)). inr both.0)
        unread_parts;
    before = record {
      header = known.before.header;
      earlier = known.before.earlier;
      later = moved_far ++ known.before.later;
      replay = subst (IsReplay known.before.header) (near_whole ∙ append_assoc (known.before.earlier ++ moved_near) moved_far known.before.later)
          known.before.replay;
      tallied = known.before.tallied;
    };
  }

  module _ (total_1 : List TaskTally) (counted : Counts total near total_1) where
    abbrev all : List SegmentView
    all = known.before.earlier ++ later_segments known.by (drop from segments) ++ known.before.later

    near_tallied : AreTallied known.before.header (known.before.earlier ++ moved_near) total_1
    near_tallied =
        tallied_alike known.before.header (known.before.earlier ++ near) (known.before.earlier ++ moved_near) total_1
        (all_more known.before.earlier near ∙ ap (λ xs. all_steps known.before.earlier ++ xs) (sym (later_steps known.by near)) ∙ sym
        (all_more known.before.earlier moved_near))
        (counted before_near)

    far_tallied : AreTalliedFrom known.before.header (known.before.earlier ++ moved_near) moved_far sum
    far_tallied =
        let first = first_of far (omega (arith, found.within, length-drop next segments)) in
        let split : segments ≡ take next segments ++ far ++ [] = sym (append-nil (take next segments ++ far) ∙ take-append-drop next segments) in
        later_alike found.header segments found.replay (take next segments) far [] split known.by
        (⊎_elim (λ none. inl none) (λ (both : (some_delays_until (all_steps near) ≡ false) × (some_delays_until (all_steps far) ≡ false)). inr both.1)
        unread_parts)
        known.before.header all known.before.replay (known.before.earlier ++ moved_near) known.before.later near_whole
        first.0 first.1 sum found.tallied

    pub far_shapes : shape total_1 ≡ shape sum
    far_shapes = run_shapes known.before.header all known.before.replay (known.before.earlier ++ moved_near) moved_far known.before.later near_whole sum total_1
        far_tallied.counts near_tallied far_tallied.sizes

    pub far_fits : AllCountsBelow (2 ^ 32) (added total_1 sum)
    far_fits = run_fits known.before.header all known.before.replay (known.before.earlier ++ moved_near) moved_far known.before.later near_whole sum total_1
        far_tallied.counts near_tallied

    pub far_added : (total_2 : List TaskTally) → total_2 ≡ added total_1 sum → shape total_2 ≡ shape total_1 → AreTallied known.before.header
        (known.before.earlier ++ drop from segments) total_2
    far_added total_2 is kept =
        tallied_alike known.before.header (known.before.earlier ++ moved_near ++ moved_far) (known.before.earlier ++ drop from segments) total_2 steps_there
        (run_goes known.before.header all known.before.replay (known.before.earlier ++ moved_near) moved_far known.before.later near_whole sum total_1
        far_tallied.counts near_tallied total_2 is kept)
      where
        steps_there : all_steps (known.before.earlier ++ moved_near ++ moved_far) ≡ all_steps (known.before.earlier ++ drop from segments)
        steps_there =
            ap all_steps (append_assoc known.before.earlier moved_near moved_far ∙ ap (λ xs. known.before.earlier ++ xs)
            (sym (ap (later_segments known.by) cut_there ∙ later_append known.by near far)))
            ∙ all_more known.before.earlier (later_segments known.by (drop from segments))
            ∙ ap (λ xs. all_steps known.before.earlier ++ xs) (later_steps known.by (drop from segments))
            ∙ sym (all_more known.before.earlier (drop from segments))
