-- Which acts a core of a header may make.
use Rattle.std.specs.Prelude.{◌≡◌, ℕ, ◌==◌, Result, Ok, Err, if◌then◌else◌, ⊤}
use Rattle.bench_types.specs.declared.core_action.CoreAction.{CoreAction}
use Rattle.bench_types.specs.declared.core_action.CoreAction.TheVariants as core_actions
use Rattle.bench_types.specs.declared.fault.Fault.{Fault}
use Rattle.bench_types.specs.declared.fault.Fault.TheVariants.{BadCore}
use Rattle.bench_types.specs.declared.kernel_data.Settings.{Settings}
use Rattle.bench_types.specs.Step.{call_check, note_check, queue_check, resume_check, IsNotifyActionOfWord, IsOfWords}

-- the fault of what the core would do: F2 for a tick of another core than 0
abbrev pub core_action_check : Settings → ℕ → CoreAction → Result ⊤ Fault
core_action_check settings core (core_actions.Call call) = call_check settings call
core_action_check settings core (core_actions.Interrupt note) = note_check settings note
core_action_check settings core (core_actions.QueueInterrupt queue direction) =
    queue_check settings queue
core_action_check settings core (core_actions.ResumeInterrupt task) = resume_check settings task
core_action_check settings core core_actions.Tick = if core == 0 then Ok tt else Err BadCore
core_action_check settings core core_actions.Switch = Ok tt

-- every number of an action is one of 32 bits
abbrev pub IsCoreActionOfWords : CoreAction → Type 0
IsCoreActionOfWords (core_actions.Call call) = IsOfWords call
IsCoreActionOfWords (core_actions.Interrupt note) = IsNotifyActionOfWord note.action
IsCoreActionOfWords (core_actions.QueueInterrupt queue direction) = ⊤
IsCoreActionOfWords (core_actions.ResumeInterrupt task) = ⊤
IsCoreActionOfWords core_actions.Tick = ⊤
IsCoreActionOfWords core_actions.Switch = ⊤

-- an action that was checked against the settings, for the core
pub record IsCheckedCoreAction (settings : Settings) (core : ℕ) (core_action : CoreAction)
    : Type 0 where
  pub passes : core_action_check settings core core_action ≡ Ok tt
  pub words : IsCoreActionOfWords core_action
