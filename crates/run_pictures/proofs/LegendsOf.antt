-- The legend of a run, and of two runs.
use Rattle.std.proofs.Common.{◌≡◌, ◌<◌, List, length, Bool, true, false, Some, inl, inr, refl, sym, ap, ◌∙◌, arith}
use Rattle.std.specs.Prelude.{◌⊎◌, ◌||◌, All, Contains}
use Rattle.bench_types.specs.declared.header.Header.{Header}
use Rattle.bench_types.specs.declared.kernel_data.Hold.{Hold}
use Rattle.bench_types.specs.declared.kernel_data.Settings.{Settings}
use Rattle.bench_types.specs.declared.step.Step.{Step}
use Rattle.bench_types.specs.Header.{IsCheckedHeader}
use Rattle.bench_types.specs.Step.{settings_of, IsCheckedStep}
use Rattle.bench_model.specs.Session.{state_at}
use Rattle.bench_model.specs.Sound.{IsHeldWell}
use Rattle.bench_model.specs.Table.{Table}
use Rattle.run_views.specs.declared.look.Look.{Look}
use Rattle.run_views.specs.declared.places.Places.{Places}
use Rattle.run_views.specs.Looks.{look_of}
use Rattle.run_pictures.specs.declared.signs.Sign.{Sign}
use Rattle.run_pictures.specs.declared.signs.Sign.TheVariants.{Running, Idle, Ready, Blocked, Suspended, Due, Held, Inherited, PreemptionOff, Taken, Messages, Interrupt, Refused, Unknown}
use Rattle.run_pictures.specs.LegendLaws.{LegendIsOfRun, LegendIsOfRuns}
use Rattle.run_pictures.specs.Picture.{shown_alone, shown_at}
use Rattle.run_pictures.specs.RunLooks.{looks_of, run_looks, shown_places}
use Rattle.run_pictures.specs.Signs.{all_signs, is_used}
use Rattle.run_pictures.proofs.Legends.{drawn_used, used_drawn}
use Rattle.run_pictures.proofs.Members.{filter_from, filter_to, map_from, or_true}
use Rattle.run_pictures.proofs.Seen.{cores_seen, hold_seen, kept_settings, sound_state}

all_has : (sign : Sign) → Contains all_signs sign
all_has Running = (0, omega arith, refl)
all_has Ready = (1, omega arith, refl)
all_has Blocked = (2, omega arith, refl)
all_has Suspended = (3, omega arith, refl)
all_has Idle = (4, omega arith, refl)
all_has Due = (5, omega arith, refl)
all_has Held = (6, omega arith, refl)
all_has Inherited = (7, omega arith, refl)
all_has PreemptionOff = (8, omega arith, refl)
all_has Taken = (9, omega arith, refl)
all_has Messages = (10, omega arith, refl)
all_has Interrupt = (11, omega arith, refl)
all_has Refused = (12, omega arith, refl)
all_has Unknown = (13, omega arith, refl)

-- of a checked session
module _ (places : Places) (header : Header) (steps : List Step) (is : IsCheckedHeader header) (checked : All (IsCheckedStep (settings_of header)) steps) where
  wide : (look : Look) → Contains (looks_of places header steps) look → length look.cores ≡ header.config.cores
  unfolding looks_of
  wide look has =
      let found = map_from (λ place. look_of (state_at header steps place)) (shown_places places steps) look has in
      ap (λ (l : Look). length l.cores) (sym found.2)
      ∙ cores_seen (state_at header steps found.0)
      ∙ ap (λ (settings : Settings). settings.cores) (kept_settings header steps found.0 is checked)

  held : (look : Look) (hold : Hold) → Contains (looks_of places header steps) look → look.hold ≡ Some hold → hold.core < header.config.cores
  unfolding looks_of
  held look hold has holds =
      let found = map_from (λ place. look_of (state_at header steps place)) (shown_places places steps) look has in
      let table : Table = state_at header steps found.0 in
      let so : table.hold ≡ Some hold = sym (hold_seen table) ∙ ap (λ (l : Look). l.hold) found.2 ∙ holds in
      let well : IsHeldWell table hold = (sound_state header steps found.0 is checked).held hold so in
      let cores : table.settings.cores ≡ header.config.cores =
      ap (λ (settings : Settings). settings.cores) (kept_settings header steps found.0 is checked) in
      omega (arith, well.core_below, cores)

pub legend_of_run : LegendIsOfRun
unfolding run_looks
legend_of_run places axis run top sign drawable =
    let shown = shown_alone places axis run in
    let wide_run = wide places run.header run.steps drawable.header drawable.steps in
    let held_run = held places run.header run.steps drawable.header drawable.steps in (
      λ has. used_drawn shown top wide_run held_run sign (filter_from (is_used shown) all_signs sign has).1,
      λ drawn. filter_to (is_used shown) all_signs sign (all_has sign) (drawn_used shown top wide_run held_run sign drawn),
    )

one_true : (a b : Bool) → (a || b) ≡ true → (a ≡ true) ⊎ (b ≡ true)
one_true true b is = inl refl
one_true false b is = inr is

pub legend_of_runs : LegendIsOfRuns
unfolding run_looks
legend_of_runs places axis scale left before after top below sign drawable other =
    let upper = shown_at places axis scale left before in
    let lower = shown_at places axis scale left after in
    let wide_upper = wide places before.header before.steps drawable.header drawable.steps in
    let held_upper = held places before.header before.steps drawable.header drawable.steps in
    let wide_lower = wide places after.header after.steps other.header other.steps in
    let held_lower = held places after.header after.steps other.header other.steps in
    let either : Sign → Bool = λ s. is_used upper s || is_used lower s in (
      λ has. elim (one_true (is_used upper sign) (is_used lower sign) (filter_from either all_signs sign has).1) [
        | inl used ↦ inl (used_drawn upper top wide_upper held_upper sign used)
        | inr used ↦ inr (used_drawn lower below wide_lower held_lower sign used)
      ],
      λ drawn. filter_to either all_signs sign (all_has sign) (elim drawn [
        | inl one ↦ ap (λ b. b || is_used lower sign) (drawn_used upper top wide_upper held_upper sign one)
        | inr one ↦ or_true (is_used upper sign) (is_used lower sign) (drawn_used lower below wide_lower held_lower sign one)
      ]),
    )
