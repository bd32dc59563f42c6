-- What a core's call does to its seat.
use Rattle.std.specs.Prelude.{◌≡◌, ◌⊎◌, List, [], ◌∷◌, ◌++◌, Result, Ok, Err, OnOk, OnErr, MatchResult}
use Rattle.bench_types.specs.CoreAction.{core_action_check}
use Rattle.bench_types.specs.Step.{settings_of}
use Rattle.bench_types.specs.declared.core_action.CoreAction.{CoreAction}
use Rattle.bench_types.specs.declared.entry.Entry.{Entry}
use Rattle.bench_model.specs.Holds.{depth_by}
use Rattle.bench_model.specs.History.{made_by, IsLegal, StartsWith}
use Rattle.history_laws.specs.SoundHistories.{IsSoundHistory}
use Rattle.port_locks.specs.Holds.{hold_after}
use Rattle.recordings.specs.declared.recording.Answer.{Answer}
use Rattle.recordings.specs.declared.recording.RecordRefusal.{RecordRefusal}
use Rattle.recordings.specs.declared.recording.RecordRefusal.TheVariants as recorded
use Rattle.recordings.specs.RecordingView.{act_on, answer_to_core_action, entry_of}
use Rattle.core_rig.specs.declared.fault.RigRefusal.{RigRefusal}
use Rattle.core_rig.specs.declared.fault.RigRefusal.TheVariants.{Fault, IdleHere, Full, Busy}
use Rattle.core_rig.specs.Seats.{CoreView, depth_at, recording_of}

-- G1 and G2
abbrev pub refusal_of : RecordRefusal → RigRefusal
refusal_of recorded.IdleHere = IdleHere
refusal_of recorded.Full = Full

-- the answer of a rig, where the recording answers so
abbrev pub answered : Result Answer RecordRefusal → Result Answer RigRefusal
answered (Ok answer) = Ok answer
answered (Err why) = Err (refusal_of why)

-- What a core finds: a legal history that begins with all that the core has seen. Of the core's own
-- entries it has just those that the core made, and the core's hold is as the core left it.
pub record Finds (seat : CoreView) (history : List Entry) : Type 0 where
  pub legal : IsLegal seat.terms.header history
  pub begins : StartsWith history seat.seen
  pub own : made_by seat.core history ≡ seat.made
  pub depth : depth_by seat.core (hold_after seat.terms.header history) ≡ depth_at seat

-- the entry that the core's action is after a history
abbrev pub entry_after : CoreView → CoreAction → List Entry → Entry
entry_after seat core_action history =
    let view = recording_of seat.terms history in entry_of (act_on seat.core core_action view) view

-- The core acts on the history that it finds, and is answered as a recording of that history
-- answers. Its entry then comes last, and is one more that it made. Refused, it has seen the
-- history.
pub record HasActed (core_action : CoreAction) (old new : CoreView)
    (result : Result Answer RigRefusal)
    : Type 0 where
  pub found : List Entry
  pub finds : Finds old found
  pub answer :
      result ≡ answered (answer_to_core_action old.core core_action (recording_of old.terms found))
  pub made :
      OnOk result
      (new
      ≡ record old {
        seen = found ++ entry_after old core_action found ∷ [];
        made = old.made ++ entry_after old core_action found ∷ [];
      })
  pub refused : OnErr result (new ≡ record old { seen = found })
  pub legal : IsLegal new.terms.header new.seen
  pub sound : IsSoundHistory new.terms.header new.seen
  pub own : made_by new.core new.seen ≡ new.made

-- the refusal changed nothing
abbrev pub IsRefused : RigRefusal → CoreView → CoreView → Result Answer RigRefusal → Type 0
IsRefused why old new result = (result ≡ Err why) × (new ≡ old)

-- F2 to F5 where the action is at fault, else the core acts
abbrev pub IsAnswered : CoreAction → CoreView → CoreView → Result Answer RigRefusal → Type 0
IsAnswered core_action old new result =
    MatchResult (core_action_check (settings_of old.terms.header) old.core core_action)
    (λ _. HasActed core_action old new result) (λ fault. IsRefused (Fault fault) old new result)

-- the same of a core that does not wait: where it did not act, G3
abbrev pub IsAnsweredAtOnce : CoreAction → CoreView → CoreView → Result Answer RigRefusal → Type 0
IsAnsweredAtOnce core_action old new result =
    MatchResult (core_action_check (settings_of old.terms.header) old.core core_action)
    (λ _. IsRefused Busy old new result ⊎ HasActed core_action old new result)
    (λ fault. IsRefused (Fault fault) old new result)
