-- The depth of a hold, from entry to entry.
use Rattle.std.proofs.Common.{◌≡◌, ℕ, suc, ◌+◌, ◌-◌, ◌≤◌, Bool, true, false, cond, eqb, List, [], ◌∷◌, ◌++◌, length, drop, Option, Some, None, refl, sym, ap}
use Rattle.std.proofs.Common.{subst, ◌∙◌, arith, append_assoc}
use Rattle.std.specs.Prelude.{◌≢◌}
use Rattle.std.specs.Option.{option_map_or}
use Rattle.std.proofs.lemmas.Bool.Decides.{nat_tests}
use Rattle.std.proofs.lemmas.List.{append-nil, length_push}
use Rattle.bench_types.specs.declared.core_action.CoreAction.{CoreAction}
use Rattle.bench_types.specs.declared.core_action.CoreAction.TheVariants as core_actions
use Rattle.bench_types.specs.declared.entry.Entry.{Entry}
use Rattle.bench_types.specs.declared.header.Header.{Header}
use Rattle.bench_types.specs.declared.kernel_data.Hold.{Hold}
use Rattle.bench_types.specs.declared.reply.Refusal.{Refusal}
use Rattle.bench_types.specs.declared.reply.Reply.{Reply}
use Rattle.bench_types.specs.declared.reply.Reply.TheVariants.{Refused}
use Rattle.bench_types.specs.declared.step.Call.TheVariants.{HoldOpen, HoldClose}
use Rattle.bench_types.specs.declared.step.Step.{Step}
use Rattle.bench_types.specs.declared.step.Step.TheVariants as steps
use Rattle.bench_types.specs.Step.{settings_of}
use Rattle.bench_model.specs.History.{end_of, StartsWith}
use Rattle.bench_model.specs.Holds.{is_held_elsewhere, depth_of, depth_by, hold_opened, hold_closed}
use Rattle.bench_model.specs.Refusals.{refusal}
use Rattle.bench_model.specs.Session.{step_of}
use Rattle.bench_model.specs.Sound.{IsSound}
use Rattle.bench_model.specs.Start.{start}
use Rattle.bench_model.specs.Steps.{performed, called, after}
use Rattle.bench_model.specs.Table.{Table, stamp_queues}
use Rattle.step_laws.proofs.Along.{settings_after, start_settings}
use Rattle.step_laws.proofs.Holds.{accepted}
use Rattle.history_laws.specs.SoundHistories.{IsSoundHistory}
use Rattle.history_laws.proofs.Legal.{end_empty, end-push}
use Rattle.history_laws.proofs.OwnHolds.{kept_hold}
use Rattle.history_laws.proofs.Parts.{begins_with_first, split_at}
use Rattle.recordings.specs.RecordingView.{RecordingView, act_on, hold_of, table_of}
use Rattle.core_scripts.specs.Scripts.{opens_hold}

-- what a core holds after it closed its hold once
abbrev closed_once : ℕ → ℕ → Option Hold
closed_once core left = cond (eqb left 0) None (Some (record { core = core; depth = left }))

depth_left : (core left : ℕ) → depth_of (closed_once core left) ≡ left
depth_left core left = at (eqb left 0) refl
  where
    at : (b : Bool) → eqb left 0 ≡ b → depth_of (cond b None (Some (record { core = core; depth = left }))) ≡ left
    at true none = grind (arith, nat_tests, none)
    at false some = refl

abbrev heard : Option Refusal → Step → Table → Reply × Table
heard why step table = option_map_or (λ why. (Refused why, table)) why (performed stamp_queues step table)

-- a step lessens the depth by one at the most
falls_once : (step : Step) (table : Table) → IsSound table → depth_of table.hold ≤ suc (depth_of (step_of step table).1.hold)
unfolding after performed called hold_opened hold_closed
falls_once (steps.Call core task HoldOpen) table sound = at (refusal stamp_queues (steps.Call core task HoldOpen) table)
  where
    at : (why : Option Refusal) → depth_of table.hold ≤ suc (depth_of (heard why (steps.Call core task HoldOpen) table).1.hold)
    at None = omega arith
    at (Some why) = omega arith
falls_once (steps.Call core task HoldClose) table sound = at (refusal stamp_queues (steps.Call core task HoldClose) table)
  where
    at : (why : Option Refusal) → depth_of table.hold ≤ suc (depth_of (heard why (steps.Call core task HoldClose) table).1.hold)
    at None = omega (arith, depth_left core (depth_of table.hold - 1))
    at (Some why) = omega arith
falls_once step table sound = omega (arith, ap depth_of (kept_hold table step sound refl))

-- so a beginning is no longer, with its depth, than the history with that of its end
falls_along : (header : Header) (rest front : List Entry) → IsSoundHistory header (front ++ rest) → length front + depth_of (end_of header front).hold ≤ length
    (front ++ rest) + depth_of (end_of header (front ++ rest)).hold
falls_along header [] front sound = omega (arith, ap length (append-nil front), ap (λ es. depth_of (end_of header es).hold) (append-nil front))
falls_along header (entry ∷ rest) front sound =
    let whole : (front ++ entry ∷ []) ++ rest ≡ front ++ entry ∷ rest = append_assoc front (entry ∷ []) rest in
    let later = falls_along header rest (front ++ entry ∷ []) (subst (IsSoundHistory header) (sym whole) sound) in
    let step = falls_once entry.step (end_of header front) (sound front (begins_with_first front (entry ∷ rest))) in
    let pushed = ap (λ (table : Table). depth_of table.hold) (end-push header front entry) in
    omega (arith, later, step, pushed, length_push front entry, ap length whole, ap (λ es. depth_of (end_of header es).hold) whole)

pub long_enough : (header : Header) (entries first : List Entry) → IsSoundHistory header entries → (end_of header entries).hold ≡ None → StartsWith entries
    first → length first + depth_of (end_of header first).hold ≤ length entries
long_enough header entries first sound unheld begins =
    let rest = drop (length first) entries in
    let whole : entries ≡ first ++ rest = split_at entries first begins in
    let all = falls_along header rest first (subst (IsSoundHistory header) whole sound) in
    omega (arith, all, ap length whole, ap (λ es. depth_of (end_of header es).hold) whole, ap depth_of unheld)

-- the settings stay
settings_along : (header : Header) (rest front : List Entry) → IsSoundHistory header (front ++ rest) → (end_of header (front ++ rest)).settings ≡
    (end_of header front).settings
settings_along header [] front sound = ap (λ es. (end_of header es).settings) (append-nil front)
settings_along header (entry ∷ rest) front sound =
    let whole : (front ++ entry ∷ []) ++ rest ≡ front ++ entry ∷ rest = append_assoc front (entry ∷ []) rest in
    let its = sound front (begins_with_first front (entry ∷ rest)) in
    ap (λ es. (end_of header es).settings) (sym whole)
    ∙ settings_along header rest (front ++ entry ∷ []) (subst (IsSoundHistory header) (sym whole) sound)
    ∙ ap (λ (table : Table). table.settings) (end-push header front entry)
    ∙ settings_after (end_of header front) entry.step its

pub its_settings : (header : Header) (entries : List Entry) → IsSoundHistory header entries → (end_of header entries).settings ≡ settings_of header
its_settings header entries sound = settings_along header entries [] sound ∙ ap (λ (table : Table). table.settings) (end_empty header) ∙ start_settings header

-- to close a hold opens none
close_opens_none : (core task : ℕ) (table : Table) → depth_by core (step_of (steps.Call core task HoldClose) table).1.hold ≢ 0 → depth_by core table.hold ≢ 0
unfolding after performed called hold_closed
close_opens_none core task table some = at (refusal stamp_queues (steps.Call core task HoldClose) table) refl some
  where
    by_hold : (hold : Option Hold) → is_held_elsewhere core hold ≡ false → depth_by core (closed_once core (depth_of hold - 1)) ≢ 0 → depth_by core hold ≢ 0
    by_hold None free some = absurd (some refl)
    by_hold (Some hold) free some = λ none.
        let own : eqb hold.core core ≡ true = grind (arith, nat_tests, free) in
        let zero : hold.depth ≡ 0 = ap (λ b. cond {A = ℕ} b hold.depth 0) (sym own) ∙ none in
        some (ap (λ depth. depth_by core (closed_once core (depth - 1))) zero)

    at : (why : Option Refusal) → refusal stamp_queues (steps.Call core task HoldClose) table ≡ why → depth_by core
        (heard why (steps.Call core task HoldClose) table).1.hold ≢ 0 → depth_by core table.hold ≢ 0
    at None none some = by_hold table.hold (accepted stamp_queues core task HoldClose table none).free some
    at (Some why) is some = some

-- a core holds the kernel after an action that opens no hold only where it did before
pub opens_none : (core : ℕ) (core_action : CoreAction) (view : RecordingView) → IsSound (table_of view) → opens_hold core_action ≡ false → depth_by core
    (step_of (act_on core core_action view) (table_of view)).1.hold ≢ 0 → depth_by core (hold_of view) ≢ 0
opens_none core (core_actions.Call HoldOpen) view sound none some = absurd (cc none)
opens_none core (core_actions.Call HoldClose) view sound none some = close_opens_none core _ (table_of view) some
opens_none core core_action view sound none some = λ zero. some (ap (depth_by core) (kept_hold (table_of view) (act_on core core_action view) sound refl) ∙
    zero)
