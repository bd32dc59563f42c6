-- The members that a step has in the first format are some of those that it has in any.
use Rattle.std.proofs.Common.{◌≡◌, ℕ, List, ◌∷◌, codes, Option, Some, None, true, refl}
use Rattle.serde_json.specs.Data.{Members}
use Rattle.json_data.specs.Reading.{are_known}
use Rattle.json_data.proofs.Members.{known_more}
use Rattle.bench_types.specs.declared.step.Call.{Call}
use Rattle.bench_types.specs.declared.step.Call.TheVariants as call
use Rattle.bench_types.specs.declared.step.Step.{Step}
use Rattle.bench_types.specs.declared.step.Step.TheVariants as step
use Rattle.session_text.specs.declared.format.Format.{Format}
use Rattle.session_text.specs.declared.format.Format.TheVariants.{One, Two, Three}
use Rattle.session_text.specs.NotifyAction.{action_number}
use Rattle.session_text.specs.Format.{index_member}
use Rattle.session_text.specs.Step.{members_of, members_of_call, note_members}

abbrev Known : List (List ℕ) → Members → Type 0
Known names ms = are_known names ms ≡ true

of_notify : (format : Format) (number : Option ℕ) (ms : Members)
    → Known (codes "core" ∷ codes "by" ∷ codes "do" ∷ note_members One number) ms
    → Known (codes "core" ∷ codes "by" ∷ codes "do" ∷ note_members format number) ms
of_notify format None ms known =
    known_more (codes "core" ∷ codes "by" ∷ codes "do" ∷ note_members One None)
    (index_member format) ms known
of_notify format (Some value) ms known =
    known_more (codes "core" ∷ codes "by" ∷ codes "do" ∷ note_members One (Some value))
    (index_member format) ms known

of_interrupt : (format : Format) (number : Option ℕ) (ms : Members)
    → Known (codes "core" ∷ codes "do" ∷ note_members One number) ms
    → Known (codes "core" ∷ codes "do" ∷ note_members format number) ms
of_interrupt format None ms known =
    known_more (codes "core" ∷ codes "do" ∷ note_members One None) (index_member format) ms known
of_interrupt format (Some value) ms known =
    known_more (codes "core" ∷ codes "do" ∷ note_members One (Some value)) (index_member format)
    ms known

of_call : (format : Format) (made : Call) (ms : Members) → Known (members_of_call One made) ms
    → Known (members_of_call format made) ms
of_call format call.Yield ms known = known
of_call format (call.Delay ticks) ms known = known
of_call format (call.DelayUntil prev inc) ms known = known
of_call format (call.PrioritySet task priority) ms known = known
of_call format (call.AffinitySet task mask) ms known = known
of_call format (call.PreemptOff task) ms known = known
of_call format (call.PreemptOn task) ms known = known
of_call format (call.Notify note) ms known = of_notify format (action_number note.action) ms known
of_call format (call.NotifyWait entry exit ticks index) ms known =
    known_more (members_of_call One (call.NotifyWait entry exit ticks index)) (index_member format)
    ms known
of_call format (call.NotifyTake clear ticks index) ms known =
    known_more (members_of_call One (call.NotifyTake clear ticks index)) (index_member format)
    ms known
of_call format (call.StateClear task index) ms known =
    known_more (members_of_call One (call.StateClear task index)) (index_member format) ms known
of_call format (call.ValueClear task bits index) ms known =
    known_more (members_of_call One (call.ValueClear task bits index)) (index_member format)
    ms known
of_call format (call.MutexTake mutex ticks) ms known = known
of_call format (call.MutexGive mutex) ms known = known
of_call format (call.QueueSend queue ticks) ms known = known
of_call format (call.QueueReceive queue ticks) ms known = known
of_call format (call.Suspend task) ms known = known
of_call format (call.Resume task) ms known = known
of_call format call.Finish ms known = known
of_call format call.HoldOpen ms known = known
of_call format call.HoldClose ms known = known

pub known_in : (format : Format) (made : Step) (ms : Members) → Known (members_of One made) ms
    → Known (members_of format made) ms
known_in format step.Tick ms known = known
known_in format (step.Switch core) ms known = known
known_in format (step.Call core task made) ms known = of_call format made ms known
known_in format (step.Interrupt core note) ms known =
    of_interrupt format (action_number note.action) ms known
known_in format (step.QueueInterrupt core queue direction) ms known = known
known_in format (step.ResumeInterrupt core task) ms known = known
known_in format (step.Pass units) ms known = known

same_of_call : (made : Call) → members_of_call Three made ≡ members_of_call Two made
same_of_call call.Yield = refl
same_of_call (call.Delay ticks) = refl
same_of_call (call.DelayUntil prev inc) = refl
same_of_call (call.PrioritySet task priority) = refl
same_of_call (call.AffinitySet task mask) = refl
same_of_call (call.PreemptOff task) = refl
same_of_call (call.PreemptOn task) = refl
same_of_call (call.Notify note) = refl
same_of_call (call.NotifyWait entry exit ticks index) = refl
same_of_call (call.NotifyTake clear ticks index) = refl
same_of_call (call.StateClear task index) = refl
same_of_call (call.ValueClear task bits index) = refl
same_of_call (call.MutexTake mutex ticks) = refl
same_of_call (call.MutexGive mutex) = refl
same_of_call (call.QueueSend queue ticks) = refl
same_of_call (call.QueueReceive queue ticks) = refl
same_of_call (call.Suspend task) = refl
same_of_call (call.Resume task) = refl
same_of_call call.Finish = refl
same_of_call call.HoldOpen = refl
same_of_call call.HoldClose = refl

-- a step has the same members in the third format as in the second
pub same_in_three : (made : Step) → members_of Three made ≡ members_of Two made
same_in_three step.Tick = refl
same_in_three (step.Switch core) = refl
same_in_three (step.Call core task made) = same_of_call made
same_in_three (step.Interrupt core note) = refl
same_in_three (step.QueueInterrupt core queue direction) = refl
same_in_three (step.ResumeInterrupt core task) = refl
same_in_three (step.Pass units) = refl
