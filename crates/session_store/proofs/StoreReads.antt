-- What a store reads of the segment that a place is in.
use Rattle.std.proofs.Common.{◌≡◌, ℕ, ◌+◌, ◌-◌, ◌<◌, ◌≤◌, List, [], ◌∷◌, ◌++◌, length, take, drop, get_or, Option, Some, None, refl, sym, ap, subst, ◌∙◌, arith}
use Rattle.std.proofs.Common.{length-append}
use Rattle.std.specs.Prelude.{All, slice_get, option_and_then, Bool, true, false, nat_le, if◌then◌else◌}
use Rattle.std.proofs.lemmas.Bool.Decides.{nat_tests}
use Rattle.std.proofs.lemmas.List.{length-map}
use Rattle.std.proofs.lemmas.List.Elements.{All-take}
use Rattle.std.proofs.lemmas.Option.{slice_get-get_or, same_Some}
use Rattle.bench_types.specs.declared.edit.Edit.TheVariants.{Remove}
use Rattle.bench_types.specs.declared.header.Header.{Header}
use Rattle.bench_types.specs.declared.kernel_data.CoreLook.{CoreLook}
use Rattle.bench_types.specs.declared.kernel_data.Settings.{Settings}
use Rattle.bench_types.specs.declared.reply.Reply.{Reply}
use Rattle.bench_types.specs.declared.step.Step.{Step}
use Rattle.bench_types.specs.Limits.{max_steps}
use Rattle.bench_types.specs.Step.{IsCheckedStep}
use Rattle.bench_model.specs.Control.{running}
use Rattle.bench_model.specs.Equal.{StandsFor}
use Rattle.bench_model.specs.Lists.{View}
use Rattle.bench_model.specs.Session.{state_after, state_at, reply_at, running_at}
use Rattle.bench_model.specs.Table.{Table}
use Rattle.step_laws.proofs.Along.{sound_along, settings_along}
use Rattle.segment_laws.specs.SegmentLaws.{IsReadAt, IsFoundPart}
use Rattle.segment_laws.specs.Segments.{SegmentView, all_steps, lengths, starts, AreSegments, IsIndexOf, reply_after, running_after}
use Rattle.segment_laws.proofs.Following.{all_more}
use Rattle.segment_laws.proofs.Reading.{places_are_read, parts_are_found}
use Rattle.session_store.specs.Kept.{session_of, kept_of, IsKept}

-- the segment at an index, as a slice tells it
pub lent_at : (segments lent : List SegmentView) (index : ℕ) (segment : SegmentView) → lent ≡ segments → index < length segments → segment ≡ get_or lent index
    segment → slice_get segments index ≡ Some segment
lent_at segments lent index segment are early is =
    let there : get_or segments index segment ≡ segment = ap (λ (xs : List SegmentView). get_or xs index segment) (sym are) ∙ sym is in
    slice_get-get_or segments index segment early ∙ ap (λ (one : SegmentView). Some one) there

-- the steps of a session in parts
split_steps : (segments before : List SegmentView) (part : SegmentView) (after : List SegmentView) → segments ≡ before ++ part ∷ after → length
    (all_steps segments) ≡ length (all_steps before) + length part.steps + length (all_steps after)
split_steps segments before part after whole =
    ap (λ (xs : List SegmentView). length (all_steps xs)) whole ∙ omega (
      arith,
      ap (λ (steps : List Step). length steps) (all_more before (part ∷ after)),
      length-append (all_steps before) (part.steps ++ all_steps after),
      length-append part.steps (all_steps after),
    )

-- there is no row past the last place
pub no_row : (header : Header) (steps : List Step) (place : ℕ) → length steps < place → running_at header steps place ≡ None
unfolding running_at
no_row header steps place past =
    let beyond : nat_le place (length steps) ≡ false = grind (arith, nat_tests, past) in
    ap (λ b. if b then Some (running (state_at header steps place).control) else None) beyond

module _ (header : Header) (span : ℕ) (segments : List SegmentView) (kept : IsKept header span segments) where
  pub are_segments : AreSegments (kept_of header span segments) segments
  are_segments = record { steps = refl; places = refl; follow = kept.follow }

  -- the segment that a place is in
  module _ (place index from : ℕ) (segment : SegmentView) (is : IsIndexOf (starts 0 (lengths segments)) place index from)
      (found : slice_get segments index ≡ Some segment) where
    pub read_at : IsReadAt (session_of header segments) place from segment
    read_at = places_are_read (kept_of header span segments) segments place index from segment are_segments is found

    pub step_read : (shown : Option Step) → shown ≡ slice_get segment.steps (place - from) → shown ≡ slice_get (all_steps segments) place
    step_read shown so = so ∙ sym read_at.step

    pub reply_read : (shown : Option Reply) → ((table : Table) → StandsFor segment.kernel table → shown ≡ reply_after table segment.steps (place - from)) →
        shown ≡ reply_at header (all_steps segments) place
    reply_read shown so = so (state_at header (all_steps segments) from) read_at.stands ∙ sym read_at.reply

    pub running_read : (shown : Option ℕ) (core : ℕ) → ((table : Table) → StandsFor segment.kernel table → shown ≡ option_and_then (λ row. slice_get row core)
        (running_after table segment.steps (place - from)))
        → shown ≡ option_and_then (λ row. slice_get row core) (running_at header (all_steps segments) place)
    running_read shown core so =
        so (state_at header (all_steps segments) from) read_at.stands ∙ ap (option_and_then (λ (row : List ℕ). slice_get row core)) (sym read_at.row)

    pub row_read : (shown : Option (List ℕ)) → ((table : Table) → StandsFor segment.kernel table → shown ≡ running_after table segment.steps (place - from)) →
        shown ≡ running_at header (all_steps segments) place
    row_read shown so = so (state_at header (all_steps segments) from) read_at.stands ∙ sym read_at.row

    pub part_at : IsFoundPart (Remove place) segments index from segment
    part_at = parts_are_found (kept_of header span segments) segments (Remove place) index from segment are_segments is found

    -- the segment of the greatest place is the last
    pub steps_end : max_steps ≤ place → length (all_steps segments) ≡ from + length segment.steps
    steps_end late = at (drop (index + 1) segments) refl
      where
        at : (after : List SegmentView) → drop (index + 1) segments ≡ after → length (all_steps segments) ≡ from + length segment.steps
        at [] drops =
            let none : length (all_steps (drop (index + 1) segments)) ≡ 0 = ap (λ (xs : List SegmentView). length (all_steps xs)) drops in
            omega (arith, split_steps segments (take index segments) segment (drop (index + 1) segments) part_at.split.whole, part_at.begins, none)
        at (next ∷ rest) drops =
            let early = part_at.split.within next rest drops in
            absurd (omega (
              arith,
              split_steps segments (take index segments) segment (drop (index + 1) segments) part_at.split.whole,
              early,
              late,
              kept.few_steps,
            ))

-- after so many of its steps a task runs on each core of a segment's kernel
module _ (kernel : View) (steps : List Step) (cores : ℕ) (sized : cores ≡ kernel.settings.cores) (table : Table) (stands : StandsFor kernel table) where
  same_settings : table.settings ≡ kernel.settings
  same_settings = ap (λ (view : View). view.settings) stands.shows

  pub some_cores : 0 < cores
  some_cores = omega (arith, stands.sound.consistent.sized.some_core, ap (λ (s : Settings). s.cores) same_settings, sized)

  row_after : All (IsCheckedStep kernel.settings) steps → (count : ℕ) → length (running (state_after table (take count steps)).control) ≡ cores
  row_after checked count =
      let own = subst (λ settings. All (IsCheckedStep settings) steps) (sym same_settings) checked in
      let front = All-take (IsCheckedStep table.settings) count steps own in
      let after = state_after table (take count steps) in
      length-map after.control.cores (λ (core : CoreLook). core.current)
      ∙ (sound_along (take count steps) table stands.sound front).consistent.sized.cores
      ∙ ap (λ (s : Settings). s.cores) (settings_along (take count steps) table stands.sound front ∙ same_settings)
      ∙ sym sized

  pub row_length : All (IsCheckedStep kernel.settings) steps → (count : ℕ) (row : List ℕ) → running_after table steps count ≡ Some row → length row ≡ cores
  row_length checked count row shown = at (nat_le count (length steps)) shown
    where
      at : (b : Bool) → (if b then Some (running (state_after table (take count steps)).control) else None) ≡ Some row → length row ≡ cores
      at true is = ap (λ (xs : List ℕ). length xs) (sym (same_Some (running (state_after table (take count steps)).control) row is)) ∙ row_after checked count
      at false is = absurd (cc is)
