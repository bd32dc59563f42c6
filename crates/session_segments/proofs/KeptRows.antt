-- What is read of the fields of a segment.
use Rattle.std.proofs.Common.{◌≡◌, ◌≢◌, ℕ, suc, ◌+◌, ◌<◌, ◌≤◌, List, length, take, get_or, add-one, Some, None, refl, sym, ap, subst, ◌∙◌, arith}
use Rattle.std.specs.Prelude.{All, slice_get, slice_set, option_and_then, Bool, true, false, nat_le, if◌then◌else◌}
use Rattle.std.proofs.lemmas.List.{length-map}
use Rattle.std.proofs.lemmas.List.Elements.{All-take}
use Rattle.std.proofs.lemmas.Option.{slice_get-get_or, slice_get_past}
use Rattle.bench_types.specs.declared.kernel_data.CoreLook.{CoreLook}
use Rattle.bench_types.specs.declared.kernel_data.Settings.{Settings}
use Rattle.bench_types.specs.declared.reply.Reply.{Reply}
use Rattle.bench_types.specs.declared.step.Step.{Step}
use Rattle.bench_types.specs.declared.step.Step.TheVariants.{Tick}
use Rattle.bench_types.specs.Step.{core_of, IsCheckedStep}
use Rattle.bench_model.specs.Control.{current, running}
use Rattle.bench_model.specs.Equal.{StandsFor}
use Rattle.bench_model.specs.Lists.{View}
use Rattle.bench_model.specs.Session.{state_after}
use Rattle.bench_model.specs.Table.{Table}
use Rattle.bench_model.specs.Tally.{TaskTally}
use Rattle.segment_laws.specs.Segments.{reply_after, running_after, AreResults}
use Rattle.session_segments.specs.Kept.{MayBeReplayed}
use Rattle.session_segments.proofs.Replays.{runs, cores_stand}
use Rattle.session_segments.proofs.Rows.{current_stays, current_shown, currents_length, first_shown, in_row, own_core, reply_shown, row_moves, row_sized}
use Rattle.session_segments.proofs.Rows.{row_within}
use Rattle.step_laws.proofs.Along.{settings_along, sound_along}

same_some : {a b : List ℕ} → Some a ≡ Some b → a ≡ b
same_some same = cc (same)

none_of : (within : Bool) (row : List ℕ) (core : ℕ) → length row ≤ core → None ≡ option_and_then (λ row. slice_get row core) (if within then Some row else None)
none_of true row core past = sym (slice_get_past row core past)
none_of false row core past = refl

module _ (kernel : View) (steps : List Step) (replies : List Reply) (currents : List ℕ) (tallies : List TaskTally) (replayable : MayBeReplayed kernel steps)
    (shown : AreResults kernel steps replies currents tallies) where
  table_settings : (table : Table) → StandsFor kernel table → table.settings ≡ kernel.settings
  table_settings table stands = ap (λ (v : View). v.settings) stands.shows

  pub table_checked : (table : Table) → StandsFor kernel table → All (IsCheckedStep table.settings) steps
  table_checked table stands = subst (λ settings. All (IsCheckedStep settings) steps) (sym (table_settings table stands)) replayable.checked

  table_cores : (table : Table) → StandsFor kernel table → table.settings.cores ≡ kernel.settings.cores
  table_cores table stands = ap (λ (s : Settings). s.cores) (table_settings table stands)

  pub kept_reply : (table : Table) (index : ℕ) → StandsFor kernel table → slice_get replies index ≡ reply_after table steps index
  kept_reply table index stands = ap (λ (rs : List Reply). slice_get rs index) ((shown.outcomes table stands).replies_are) ∙ reply_shown steps table index

  pub kept_length : length currents ≡ length steps
  kept_length = let table = replayable.stands.0 in ap length ((shown.outcomes table replayable.stands.1).currents_are) ∙ currents_length steps table

  -- the step at an index, and what it left its core with
  pub core_within : (index : ℕ) → index < length steps → core_of (get_or steps index Tick) < kernel.settings.cores
  core_within index early =
      let sized = replayable.stands.1.sound.consistent.sized in
      own_core kernel.settings (get_or steps index Tick) (omega (arith, sized.some_core, table_cores replayable.stands.0 replayable.stands.1))
      (replayable.checked index Tick early)

  pub current_here : (table : Table) (index : ℕ) → StandsFor kernel table → index < length steps
      → get_or currents index 0 ≡ current (state_after table (take (index + 1) steps)).control (core_of (get_or steps index Tick))
  current_here table index stands early = ap (λ (ts : List ℕ). get_or ts index 0) ((shown.outcomes table stands).currents_are) ∙ current_shown steps table index
      early

  pub current_elsewhere : (table : Table) (index core : ℕ) → StandsFor kernel table → index < length steps → core ≢ core_of (get_or steps index Tick)
      → current (state_after table (take (index + 1) steps)).control core ≡ current (state_after table (take index steps)).control core
  current_elsewhere table index core stands early away = current_stays steps table index core stands.sound (table_checked table stands) early away

  -- a row is taken over a step
  pub row_taken : (table : Table) (index : ℕ) (row next : List ℕ) → StandsFor kernel table → index < length steps
      → next ≡ slice_set row (core_of (get_or steps index Tick)) (get_or currents index 0)
      → running_after table steps index ≡ Some row → running_after table steps (suc index) ≡ Some next
  row_taken table index row next stands early moved before =
      let step = get_or steps index Tick in
      let here : row ≡ running (state_after table (take index steps)).control = same_some (sym before ∙ row_within table steps index (omega (arith, early))) in
      let left = ap (λ (ts : List ℕ). get_or ts index 0) ((shown.outcomes table stands).currents_are) in
      let goes = row_moves steps table index stands.sound (table_checked table stands) early in
      let made : next ≡ running (state_after table (take (index + 1) steps)).control = moved ∙ ap (λ r. slice_set r (core_of step) (get_or currents index 0))
      here
      ∙ ap (slice_set (running (state_after table (take index steps)).control) (core_of step)) left ∙ sym goes in
      ap (running_after table steps) (sym (add-one index)) ∙ row_within table steps (index + 1) (omega (arith, early)) ∙ ap (λ r. Some r) (sym made)

  -- there is no task of a core that there is not
  pub core_past : (table : Table) (count core : ℕ) → StandsFor kernel table → kernel.settings.cores ≤ core → None ≡ option_and_then (λ row. slice_get row core)
      (running_after table steps count)
  core_past table count core stands past =
      let checked = All-take (IsCheckedStep table.settings) count steps (table_checked table stands) in
      let after = state_after table (take count steps) in
      let cores : after.settings.cores ≡ kernel.settings.cores = ap (λ (s : Settings). s.cores) (settings_along (take count steps) table stands.sound checked) ∙
      table_cores table stands in
      let sized = row_sized after (sound_along (take count steps) table stands.sound checked) in
      none_of (nat_le count (length steps)) (running after.control) core (omega (arith, past, cores, sized))

  -- the current task of a core, as it is read of a row
  pub current_read : (table : Table) (count core task : ℕ) → StandsFor kernel table → core < kernel.settings.cores → count ≤ length steps → task ≡ current
      (state_after table (take count steps)).control core
      → Some task ≡ option_and_then (λ row. slice_get row core) (running_after table steps count)
  current_read table count core task stands early within is =
      let checked = All-take (IsCheckedStep table.settings) count steps (table_checked table stands) in
      let after = state_after table (take count steps) in
      let cores : after.settings.cores ≡ kernel.settings.cores = ap (λ (s : Settings). s.cores) (settings_along (take count steps) table stands.sound checked) ∙
      table_cores table stands in
      let few : core < length (running after.control) = omega (arith, early, cores, row_sized after (sound_along (take count steps) table stands.sound checked))
      in
      ap (λ t. Some t) (is ∙ sym (in_row after.control core)) ∙ sym (slice_get-get_or (running after.control) core 0 few)
      ∙ ap (option_and_then (λ (r : List ℕ). slice_get r core)) (sym (row_within table steps count within))

  pub first_row_shown : (table : Table) (row : List ℕ) → StandsFor kernel table → row ≡ running kernel.control → running_after table steps 0 ≡ Some row
  first_row_shown table row stands is = first_shown table steps ∙ ap (λ r. Some r) (sym (is ∙ runs kernel table stands))

pub first_sized : (kernel : View) (table : Table) (row : List ℕ) → StandsFor kernel table → row ≡ running kernel.control → length row ≡ kernel.settings.cores
first_sized kernel table row stands is = ap length is ∙ length-map kernel.control.cores (λ (look : CoreLook). look.current) ∙ cores_stand kernel table stands
