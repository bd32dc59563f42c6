-- The search for the first flaw, one step on.
use Rattle.std.proofs.Common.{◌≡◌, ℕ, ◌+◌, ◌<◌, ◌==◌, Bool, true, false, not, cond, List, length, drop, get_or, Option, Some, None, refl, ap, sym, ◌∙◌, arith, option_map}
use Rattle.std.specs.Prelude.{nat_le}
use Rattle.std.specs.Option.{option_or}
use Rattle.std.proofs.lemmas.Bool.Decides.{nat_tests}
use Rattle.std.proofs.lemmas.List.{at_drop_more}
use Rattle.bench_types.specs.declared.kernel_data.Settings.{Settings}
use Rattle.task_programs.specs.declared.around.Block.{Block}
use Rattle.task_programs.specs.declared.flaw.InstructionFlaw.{InstructionFlaw}
use Rattle.task_programs.specs.declared.flaw.InstructionFlaw.TheVariants.{Nesting}
use Rattle.task_programs.specs.declared.flaw.WorkloadFlaw.TheVariants as workloads
use Rattle.task_programs.specs.declared.instruction.Instruction.{Instruction}
use Rattle.task_programs.specs.declared.instruction.Instruction.TheVariants.{Work, Call as Calls, Join, Enter, Again, Break}
use Rattle.task_programs.specs.declared.workload.Interrupt.{Interrupt}
use Rattle.task_programs.specs.Limits.{max_nesting}
use Rattle.task_programs.specs.Programs.{around_next, body_flaw, flaw_from, instruction_flaw, nesting_flaw, opens, own_flaw, place_flaw, program_call_flaw, program_flaw, reach_flaw, rounds_flaw}
use Rattle.task_programs.specs.Workloads.{interrupt_flaw, interrupts_flaw, programs_flaw}

-- neither is there, where the first of them is none
pub none_of : {A : Type 0} (a b : Option A) → option_or a b ≡ None → (a ≡ None) × (b ≡ None)
none_of None b is = (refl, is)
none_of (Some x) b is = absurd (cc is)

-- a test of a flaw that is not there fails
pub passes : (b : Bool) (flaw : InstructionFlaw) → cond b (Some flaw) None ≡ None → b ≡ false
passes true flaw is = absurd (cc is)
passes false flaw is = refl

unless : (b : Bool) (flaw : Option InstructionFlaw) → not b ≡ true → cond b None flaw ≡ None → flaw ≡ None
unless true flaw opens is = absurd (cc opens)
unless false flaw opens is = is

few : (around : List Block) → nesting_flaw around ≡ None → length around < max_nesting
few around is = let test : nat_le max_nesting (length around) ≡ false = passes (nat_le max_nesting (length around)) Nesting is in grind (arith, nat_tests, test)

-- where something begins and there is no flaw, no more stand around than may
pub room_for : (settings : Settings) (program : List Instruction) (around : List Block) (index : ℕ) (instruction : Instruction)
    → instruction_flaw settings program around index instruction ≡ None → opens index instruction ≡ true → length around < max_nesting
unfolding instruction_flaw
room_for s p a i (Work units end) is opens = absurd (cc opens)
room_for s p a i (Calls made otherwise end) is opens =
    let own = none_of (option_or (reach_flaw p i (Calls made otherwise end)) (own_flaw s p a i (Calls made otherwise end)))
    (place_flaw p a i (Calls made otherwise end)) is in
    let parts = none_of (reach_flaw p i (Calls made otherwise end)) (own_flaw s p a i (Calls made otherwise end)) own.0 in
    let nested = none_of (program_call_flaw s made) (cond (end == i + 1) None (nesting_flaw a)) parts.1 in
    few a (unless (end == i + 1) (nesting_flaw a) opens nested.1)
room_for s p a i (Join end) is opens = absurd (cc opens)
room_for s p a i (Enter rounds end) is opens =
    let own = none_of (option_or (reach_flaw p i (Enter rounds end)) (own_flaw s p a i (Enter rounds end))) (place_flaw p a i (Enter rounds end)) is in
    let parts = none_of (reach_flaw p i (Enter rounds end)) (own_flaw s p a i (Enter rounds end)) own.0 in
    let nested = none_of (option_or (nesting_flaw a) (rounds_flaw rounds)) (body_flaw p (i + 1)) parts.1 in
    few a (none_of (nesting_flaw a) (rounds_flaw rounds) nested.0).0
room_for s p a i (Again body) is opens = absurd (cc opens)
room_for s p a i (Break end) is opens = absurd (cc opens)

-- an instruction without a flaw is passed over
pub flaw_on : (settings : Settings) (program : List Instruction) (around : List Block) (index : ℕ) (instruction : Instruction) → index < length program
    → instruction_flaw settings program around index (get_or program index instruction) ≡ None
    → flaw_from settings program around index (drop index program)
    ≡ flaw_from settings program (around_next index (get_or program index instruction) around) (index + 1) (drop (index + 1) program)
flaw_on s p a i d within none =
    let x = get_or p i d in
    let rest = flaw_from s p (around_next i x a) (i + 1) (drop (i + 1) p) in
    at_drop_more (flaw_from s p a i) p i d within ∙ ap (λ flaw. option_or (option_map (λ (flaw : InstructionFlaw). (i, flaw)) flaw) rest) none

-- so is a program
pub program_on : (settings : Settings) (programs : List (List Instruction)) (task : ℕ) (program : List Instruction) → task < length programs
    → program ≡ get_or programs task program → program_flaw settings program ≡ None
    → programs_flaw settings task (drop task programs) ≡ programs_flaw settings (task + 1) (drop (task + 1) programs)
program_on s ps task p within is none =
    let rest = programs_flaw s (task + 1) (drop (task + 1) ps) in
    let same : program_flaw s (get_or ps task p) ≡ None = ap (program_flaw s) (sym is) ∙ none in
    at_drop_more (programs_flaw s task) ps task p within
    ∙ ap (λ flaw. option_or (option_map (λ (found : ℕ × InstructionFlaw). workloads.Instruction task found.0 found.1) flaw) rest) same

-- and an interrupt
pub interrupt_on : (settings : Settings) (interrupts : List Interrupt) (index : ℕ) (interrupt : Interrupt) → index < length interrupts
    → interrupt_flaw settings (get_or interrupts index interrupt) ≡ None
    → interrupts_flaw settings index (drop index interrupts) ≡ interrupts_flaw settings (index + 1) (drop (index + 1) interrupts)
interrupt_on s is index d within none =
    let rest = interrupts_flaw s (index + 1) (drop (index + 1) is) in
    at_drop_more (interrupts_flaw s index) is index d within ∙ ap (λ flaw. option_or (option_map (workloads.Interrupt index) flaw) rest) none
