-- The scripts of cores, and what entries have of them.
use Rattle.std.specs.Prelude.{◌≡◌, ◌⊎◌, ℕ, length, filter, get_or, not, Bool, true, false, List, [], ◌∷◌, All, EachIndex, Ok, Option, Some, None}
use Rattle.std.specs.List.{filter_map, list_any}
use Rattle.bench_types.specs.CoreAction.{core_action_check}
use Rattle.bench_types.specs.declared.core_action.CoreAction.{CoreAction}
use Rattle.bench_types.specs.declared.core_action.CoreAction.TheVariants as core_actions
use Rattle.bench_types.specs.declared.entry.Entry.{Entry}
use Rattle.bench_types.specs.declared.header.Header.{Header}
use Rattle.bench_types.specs.declared.kernel_data.Settings.{Settings}
use Rattle.bench_types.specs.declared.reply.Reply.TheVariants.{Done}
use Rattle.bench_types.specs.declared.step.Call.TheVariants.{HoldOpen, HoldClose}
use Rattle.bench_types.specs.declared.step.Step.{Step}
use Rattle.bench_types.specs.declared.step.Step.TheVariants as steps
use Rattle.bench_types.specs.Step.{settings_of}
use Rattle.core_rig.specs.Stretches.{is_by_task}

-- the core may make each action of the script
abbrev pub IsScriptOf : Settings → ℕ → List CoreAction → Type 0
IsScriptOf settings core script =
    All (λ core_action. core_action_check settings core core_action ≡ Ok tt) script

-- there is one script per core, of actions that it may make
pub record AreScripts (header : Header) (scripts : List (List CoreAction)) : Type 0 where
  pub one_per_core : length scripts ≡ header.config.cores
  pub core_actions :
      EachIndex scripts
      (λ core. IsScriptOf (settings_of header) core (get_or scripts core []))

-- the action that a step is, without its core and its task; a pass is none, for no core makes it
abbrev pub core_action_of : Step → Option CoreAction
core_action_of steps.Tick = Some core_actions.Tick
core_action_of (steps.Switch core) = Some core_actions.Switch
core_action_of (steps.Call core task call) = Some (core_actions.Call call)
core_action_of (steps.Interrupt core note) = Some (core_actions.Interrupt note)
core_action_of (steps.QueueInterrupt core queue direction) =
    Some (core_actions.QueueInterrupt queue direction)
core_action_of (steps.ResumeInterrupt core task) = Some (core_actions.ResumeInterrupt task)
core_action_of (steps.Pass units) = None

-- the actions among the entries
abbrev pub core_actions_of : List Entry → List CoreAction
core_actions_of entries = filter_map (λ entry. core_action_of entry.step) entries

-- the part is the whole, in its order, with some items passed over
abbrev pub IsPartOf : {X : Type 0} → List X → List X → Type 0
IsPartOf [] part = part ≡ []
IsPartOf {X} (x ∷ whole) part =
    IsPartOf whole part ⊎ ((rest : List X) × (part ≡ x ∷ rest) × IsPartOf whole rest)

-- the ticks and interrupts among the actions
abbrev pub interrupts_of : List CoreAction → List CoreAction
interrupts_of script = filter (λ core_action. not (is_by_task core_action)) script

abbrev pub is_switch : CoreAction → Bool
is_switch core_actions.Switch = true
is_switch core_action = false

abbrev pub opens_hold : CoreAction → Bool
opens_hold (core_actions.Call HoldOpen) = true
opens_hold core_action = false

-- there is a switch in the script, and a call that opens a hold
abbrev pub SwitchesAndHolds : List CoreAction → Type 0
SwitchesAndHolds script =
    (list_any is_switch script ≡ true) × (list_any opens_hold script ≡ true)

-- a call that closed the caller's hold
abbrev pub IsClose : Entry → Type 0
IsClose entry =
    (core_action_of entry.step ≡ Some (core_actions.Call HoldClose)) × (entry.reply ≡ Done)
