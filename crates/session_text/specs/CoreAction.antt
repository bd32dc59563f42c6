-- An action of a script: a step that doesn't say on which core, nor by which task.
use Rattle.std.specs.Prelude.{ℕ, List, codes, Result, Ok}
use Rattle.serde_json.specs.Data.{Data}
use Rattle.bench_types.specs.declared.core_action.CoreAction.{CoreAction}
use Rattle.bench_types.specs.declared.core_action.CoreAction.TheVariants as core_action
use Rattle.session_text.specs.declared.fault.TextFault.{TextFault}
use Rattle.session_text.specs.declared.format.Format.{Format}
use Rattle.session_text.specs.declared.step.Kind.{Kind}
use Rattle.session_text.specs.declared.step.Kind.TheVariants as kind
use Rattle.session_text.specs.Array.{each_at}
use Rattle.session_text.specs.Member.{object_at, items_at, number_at, only_at}
use Rattle.session_text.specs.Names.{TaskNames}
use Rattle.session_text.specs.ReadingRules.{◌>>=◌}
use Rattle.session_text.specs.Step.{call_at, kind_at, members_of_core_action, note_at, task_named_at}

unfoldable pub core_action_of_kind_at :
    Format → TaskNames → Kind → List ℕ → Data → Result CoreAction TextFault
core_action_of_kind_at format names kind.Tick at d = Ok core_action.Tick
core_action_of_kind_at format names kind.Switch at d = Ok core_action.Switch
core_action_of_kind_at format names (kind.Call which) at d = do
  made ← call_at format names which at d
  Ok (core_action.Call made)
core_action_of_kind_at format names kind.Interrupt at d = do
  note ← note_at format names at d
  Ok (core_action.Interrupt note)
core_action_of_kind_at format names (kind.QueueInterrupt direction) at d = do
  queue ← number_at at (codes "queue") d
  Ok (core_action.QueueInterrupt queue direction)
core_action_of_kind_at format names kind.ResumeInterrupt at d = do
  task ← task_named_at names at (codes "to") d
  Ok (core_action.ResumeInterrupt task)

unfoldable pub core_action_at : Format → TaskNames → List ℕ → Data → Result CoreAction TextFault
core_action_at format names at d = do
  members ← object_at at d
  which ← kind_at format at d
  made ← core_action_of_kind_at format names which at d
  only ← only_at at (members_of_core_action format made) members
  Ok made

-- the actions of one core
unfoldable pub script_at : Format → TaskNames → List ℕ → Data → Result (List CoreAction) TextFault
script_at format names at d = do
  items ← items_at at d
  each_at (core_action_at format names) at 0 items
