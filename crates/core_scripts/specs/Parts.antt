-- What one core's thread knows of its part, before the end of the rig.
use Rattle.std.specs.Prelude.{◌≡◌, ◌≢◌, ◌⊎◌, ◌<◌, ℕ, List, ◌++◌, length, All, true, Result}
use Rattle.std.specs.List.{list_any}
use Rattle.bench_types.specs.declared.core_action.CoreAction.{CoreAction}
use Rattle.bench_types.specs.declared.core_action.CoreAction.TheVariants.{Switch}
use Rattle.bench_types.specs.declared.entry.Entry.{Entry}
use Rattle.bench_types.specs.declared.header.Header.{Header}
use Rattle.bench_model.specs.Control.{current}
use Rattle.bench_model.specs.History.{end_of, StartsWith}
use Rattle.recordings.specs.declared.recording.Answer.{Answer}
use Rattle.recordings.specs.RecordingView.{room_of}
use Rattle.core_rig.specs.CoreActions.{HasActed}
use Rattle.core_rig.specs.declared.fault.RigRefusal.{RigRefusal}
use Rattle.core_rig.specs.Seats.{CoreView, IsSameSeat, depth_at, recording_of}
use Rattle.core_scripts.specs.Scripts.{IsClose, IsPartOf, SwitchesAndHolds, core_actions_of, interrupts_of, opens_hold}

-- the core acts, but makes no switch while it holds the kernel
abbrev pub DoesAct : CoreAction → CoreView → CoreView → Result Answer RigRefusal → Type 0
DoesAct core_action old new result =
    HasActed core_action old new result
    ⊎ ((core_action ≡ Switch) × (depth_at old ≢ 0) × (new ≡ old))

-- an idle task is on the core at some place of the history
abbrev pub HasIdleOn : Header → ℕ → List Entry → Type 0
HasIdleOn header core history =
    (first : List Entry) × StartsWith history first
    × (current (end_of header first).control core < header.config.cores)

-- at some place of what the core has seen there is less room
abbrev pub HasLessRoom : ℕ → CoreView → Type 0
HasLessRoom places seat =
    (first : List Entry) × StartsWith seat.seen first
    × (room_of (recording_of seat.terms first) < places)

-- Each kept entry is an action, and they are those of the script, some passed over: a tick or an
-- interrupt only where there was no room for one entry, and nothing else but where there was no
-- room for two, an idle task was on the core, or the script both switches and holds.
pub record IsKept (script : List CoreAction) (kept : List Entry) (seat : CoreView) : Type 0 where
  pub actions : length (core_actions_of kept) ≡ length kept
  pub part : IsPartOf script (core_actions_of kept)
  pub interrupts :
      (interrupts_of (core_actions_of kept) ≡ interrupts_of script) ⊎ HasLessRoom 1 seat
  pub all :
      (core_actions_of kept ≡ script) ⊎ HasIdleOn seat.terms.header seat.core seat.seen
      ⊎ HasLessRoom 2 seat ⊎ SwitchesAndHolds script

-- the core made these actions of its script, and holds the kernel only by one of them
pub record IsUnderWay (script : List CoreAction) (seat : CoreView) : Type 0 where
  pub kept : IsKept script seat.made seat
  pub holds : depth_at seat ≢ 0 → list_any opens_hold script ≡ true

-- since then the core made calls that closed its hold, and nothing else
pub record HasClosed (old new : CoreView) : Type 0 where
  pub same : IsSameSeat old new
  pub closes : List Entry
  pub made : new.made ≡ old.made ++ closes
  pub are_closes : All IsClose closes
  pub begins : StartsWith new.seen old.seen

-- the core has done its part: what it kept of its script, and then closes of its hold
pub record HasEnded (script : List CoreAction) (seat : CoreView) : Type 0 where
  pub kept : List Entry
  pub closes : List Entry
  pub made : seat.made ≡ kept ++ closes
  pub are_closes : All IsClose closes
  pub is_kept : IsKept script kept seat
  pub rests : depth_at seat ≡ 0
