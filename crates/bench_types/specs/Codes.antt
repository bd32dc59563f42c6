-- The codes by which texts name what is wrong.
use Rattle.std.specs.Prelude.{ℕ, List, codes}
use Rattle.bench_types.specs.declared.edit.EditFault.{EditFault}
use Rattle.bench_types.specs.declared.edit.EditFault.TheVariants.{Bench, NoPlace, TooLong}
use Rattle.bench_types.specs.declared.fault.Fault.{Fault}
use Rattle.bench_types.specs.declared.fault.Fault.TheVariants.{BadHeader, BadCore, BadTask, BadMutex, BadArgument}
use Rattle.bench_types.specs.declared.reply.Refusal.{Refusal}
use Rattle.bench_types.specs.declared.reply.Refusal.TheVariants.{Held, Displaced, SwitchDue, InCall, NotInCall, HoldBlock, NoHold, HoldDeep, NotHolder, NotDue}

-- why a step is not made
abbrev pub refusal_code : Refusal → List ℕ
refusal_code Held = codes "E1"
refusal_code Displaced = codes "E2"
refusal_code SwitchDue = codes "E3"
refusal_code InCall = codes "E4"
refusal_code NotInCall = codes "E5"
refusal_code HoldBlock = codes "E6"
refusal_code NoHold = codes "E7"
refusal_code HoldDeep = codes "E8"
refusal_code NotHolder = codes "E9"
refusal_code NotDue = codes "E10"

-- why a header, a step or an edit is not accepted
abbrev pub fault_code : Fault → List ℕ
fault_code BadHeader = codes "F1"
fault_code BadCore = codes "F2"
fault_code BadTask = codes "F3"
fault_code BadMutex = codes "F4"
fault_code BadArgument = codes "F5"

-- why an edit of a session is not made
abbrev pub edit_fault_code : EditFault → List ℕ
edit_fault_code (Bench fault) = fault_code fault
edit_fault_code NoPlace = codes "J1"
edit_fault_code TooLong = codes "J2"
