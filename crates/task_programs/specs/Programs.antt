-- For what a program is not accepted: its first flaw, instruction after instruction.
use Rattle.std.specs.Prelude.{ℕ, zero, suc, ◌+◌, ◌^◌, ◌<◌, ◌==◌, Bool, true, false, not, ◌&&◌, ◌||◌, nat_lt, nat_le, List, [], ◌∷◌, length, drop, find, slice_get, count_by, Option, Some, None, is_none, option_map, if◌then◌else◌, ⊤}
use Rattle.std.specs.List.{list_any}
use Rattle.std.specs.Option.{option_or}
use Rattle.bench_types.specs.declared.kernel_data.Settings.{Settings}
use Rattle.bench_types.specs.declared.step.Call.TheVariants as call
use Rattle.bench_types.specs.Step.{IsOfWords}
use Rattle.bench_types.specs.StepFlaw.{call_flaw, increment_flaw}
use Rattle.task_programs.specs.declared.around.Block.{Block}
use Rattle.task_programs.specs.declared.around.Block.TheVariants.{Branch, Body}
use Rattle.task_programs.specs.declared.flaw.InstructionFlaw.{InstructionFlaw}
use Rattle.task_programs.specs.declared.flaw.InstructionFlaw.TheVariants.{Unreached, NoWork, Step, Finish, NoRounds, NoBody, NoLoop, Nesting, Misplaced}
use Rattle.task_programs.specs.declared.instruction.Instruction.{Instruction}
use Rattle.task_programs.specs.declared.instruction.Instruction.TheVariants.{Work, Call as Calls, Join, Enter, Again, Break}
use Rattle.task_programs.specs.declared.instruction.ProgramCall.{ProgramCall}
use Rattle.task_programs.specs.declared.instruction.ProgramCall.TheVariants.{Made, DelayUntilNext}
use Rattle.task_programs.specs.Limits.{max_nesting}

-- an item of the document begins here, or one of its works; the ends of branches and of rounds are
-- none
abbrev pub is_item : Instruction → Bool
is_item (Work units end) = true
is_item (Calls made otherwise end) = true
is_item (Join end) = false
is_item (Enter rounds end) = true
is_item (Again body) = false
is_item (Break end) = true

abbrev pub item_count : List Instruction → ℕ
item_count program = count_by is_item program

-- the index behind the item that begins at an index, or behind one end
abbrev pub item_end : ℕ → Instruction → ℕ
item_end index (Work units end) = end
item_end index (Calls made otherwise end) = end
item_end index (Join end) = index + 1
item_end index (Enter rounds end) = end
item_end index (Again body) = index + 1
item_end index (Break end) = index + 1

-- the instruction before an index
abbrev pub before : List Instruction → ℕ → Option Instruction
before program zero = None
before program (suc index) = slice_get program index

-- What stands around an instruction: the branches and bodies that have begun before it and not
-- ended, the innermost first.

abbrev pub is_body : Block → Bool
is_body (Branch until end) = false
is_body (Body body end) = true

abbrev pub innermost : List Block → Option Block
innermost around = slice_get around 0

-- `else` begins where `then` ends, if there is one
abbrev pub next_branch : Option Block → List Block → List Block
next_branch (Some (Branch until end)) outer =
    if until == end then outer else Branch end end ∷ outer
next_branch (Some (Body body end)) outer = outer
next_branch None outer = outer

-- something begins to stand around those behind it
abbrev pub opens : ℕ → Instruction → Bool
opens index (Work units end) = false
opens index (Calls made otherwise end) = not (end == index + 1)
opens index (Join end) = false
opens index (Enter rounds end) = true
opens index (Again body) = false
opens index (Break end) = false

-- what stands around the instruction behind one at an index
abbrev pub around_next : ℕ → Instruction → List Block → List Block
around_next index (Work units end) around = around
around_next index (Calls made otherwise end) around =
    if end == index + 1 then around else Branch otherwise end ∷ around
around_next index (Join end) around = next_branch (innermost around) (drop 1 around)
around_next index (Enter rounds end) around = Body (index + 1) end ∷ around
around_next index (Again body) around = drop 1 around
around_next index (Break end) around = around

abbrev pub around_behind : ℕ → Option Instruction → List Block → List Block
around_behind index None around = around
around_behind index (Some instruction) around = around_next index instruction around

-- what stands around the instruction at an index
abbrev pub around_at : List Instruction → ℕ → List Block
around_at program zero = []
around_at program (suc index) =
    around_behind index (slice_get program index) (around_at program index)

-- Which instructions lead where the item says that they belong to.

-- the works of one item stand one behind another
abbrev pub is_work_of : ℕ → Option Instruction → Bool
is_work_of end (Some (Work units next)) = next == end
is_work_of end other = false

-- the branch ends right before the index, and leads to the end of its call
abbrev pub is_branch_to : ℕ → ℕ → Option Block → Bool
is_branch_to index end (Some (Branch until last)) = (until == index) && (last == end)
is_branch_to index end other = false

-- the body is that of the loop that ends at the index
abbrev pub is_body_of : ℕ → ℕ → Option Block → Bool
is_body_of body end (Some (Body first last)) = (first == body) && (last == end)
is_body_of body end other = false

-- the loop ends there
abbrev pub ends_at : ℕ → Option Block → Bool
ends_at end (Some (Body body last)) = last == end
ends_at end other = false

-- each end lies behind the instruction that leads to it
abbrev pub is_placed : List Instruction → List Block → ℕ → Instruction → Bool
is_placed program around index (Work units end) =
    (end == index + 1) || is_work_of end (slice_get program (index + 1))
is_placed program around index (Calls made otherwise end) =
    nat_lt index otherwise && nat_le otherwise end
is_placed program around index (Join end) =
    nat_lt index end && is_branch_to (index + 1) end (innermost around)
is_placed program around index (Enter rounds end) = nat_lt index end
is_placed program around index (Again body) = is_body_of body (index + 1) (innermost around)
is_placed program around index (Break end) =
    nat_lt index end && ends_at end (find is_body around)

-- Which instructions no walk comes to.

abbrev pub leads_out : ℕ → Instruction → Bool
leads_out end (Break to) = to == end
leads_out end other = false

abbrev pub is_for_ever : Option Instruction → Bool
is_for_ever (Some (Enter None end)) = true
is_for_ever other = false

-- a loop for ever that no `break` leaves
abbrev pub is_endless : List Instruction → ℕ → ℕ → Bool
is_endless program body end =
    is_for_ever (before program body) && not (list_any (leads_out end) (drop body program))

-- no walk goes on behind the instruction that stands before an index
abbrev pub stops : List Instruction → ℕ → Option Instruction → Bool
stops program index (Some (Break end)) = true
stops program index (Some (Again body)) = is_endless program body index
stops program index other = false

-- The flaws of an instruction, in the order in which they are tried.

abbrev pub flaw_where : Bool → InstructionFlaw → Option InstructionFlaw
flaw_where holds flaw = if holds then Some flaw else None

abbrev pub program_call_flaw : Settings → ProgramCall → Option InstructionFlaw
program_call_flaw settings (Made call.Finish) = Some Finish
program_call_flaw settings (Made made) = option_map Step (call_flaw settings made)
program_call_flaw settings (DelayUntilNext inc) = option_map Step (increment_flaw inc)

-- no more may stand around what is in an item
abbrev pub nesting_flaw : List Block → Option InstructionFlaw
nesting_flaw around = flaw_where (nat_le max_nesting (length around)) Nesting

abbrev pub rounds_flaw : Option ℕ → Option InstructionFlaw
rounds_flaw None = None
rounds_flaw (Some rounds) = flaw_where (rounds == 0) NoRounds

-- a body begins with a work, a call or a loop
abbrev pub begins_body : Option Instruction → Bool
begins_body (Some (Work units end)) = true
begins_body (Some (Calls made otherwise end)) = true
begins_body (Some (Enter rounds end)) = true
begins_body other = false

abbrev pub body_flaw : List Instruction → ℕ → Option InstructionFlaw
body_flaw program body = flaw_where (not (begins_body (slice_get program body))) NoBody

abbrev pub loop_flaw : List Block → Option InstructionFlaw
loop_flaw around = flaw_where (is_none (find is_body around)) NoLoop

-- the flaw of what an instruction says
abbrev pub own_flaw :
    Settings → List Instruction → List Block → ℕ → Instruction → Option InstructionFlaw
own_flaw settings program around index (Work units end) = flaw_where (units == 0) NoWork
own_flaw settings program around index (Calls made otherwise end) =
    option_or (program_call_flaw settings made)
    (if end == index + 1 then None else nesting_flaw around)
own_flaw settings program around index (Join end) = None
own_flaw settings program around index (Enter rounds end) =
    option_or (option_or (nesting_flaw around) (rounds_flaw rounds)) (body_flaw program (index + 1))
own_flaw settings program around index (Again body) = None
own_flaw settings program around index (Break end) = loop_flaw around

abbrev pub reach_flaw : List Instruction → ℕ → Instruction → Option InstructionFlaw
reach_flaw program index instruction =
    flaw_where (is_item instruction && stops program index (before program index)) Unreached

abbrev pub place_flaw :
    List Instruction → List Block → ℕ → Instruction → Option InstructionFlaw
place_flaw program around index instruction =
    flaw_where (not (is_placed program around index instruction)) Misplaced

unfoldable pub instruction_flaw :
    Settings → List Instruction → List Block → ℕ → Instruction → Option InstructionFlaw
instruction_flaw settings program around index instruction =
    option_or
    (option_or (reach_flaw program index instruction)
    (own_flaw settings program around index instruction))
    (place_flaw program around index instruction)

-- the first flaw of the instructions from an index on, where this stands around the first of them;
-- behind the last one nothing may
abbrev pub flaw_from :
    Settings → List Instruction → List Block → ℕ → List Instruction
    → Option (ℕ × InstructionFlaw)
flaw_from settings program around index [] =
    if length around == 0 then None else Some (index, Misplaced)
flaw_from settings program around index (instruction ∷ rest) =
    option_or
    (option_map (λ flaw. (index, flaw))
    (instruction_flaw settings program around index instruction))
    (flaw_from settings program (around_next index instruction around) (index + 1) rest)

-- the first flaw of a program, with its index
unfoldable pub program_flaw : Settings → List Instruction → Option (ℕ × InstructionFlaw)
program_flaw settings program = flaw_from settings program [] 0 program

-- each number of an instruction is one of 32 bits
abbrev pub IsProgramCallOfWords : ProgramCall → Type 0
IsProgramCallOfWords (Made made) = IsOfWords made
IsProgramCallOfWords (DelayUntilNext inc) = inc < 2 ^ 32

abbrev pub AreRoundsOfWord : Option ℕ → Type 0
AreRoundsOfWord None = ⊤
AreRoundsOfWord (Some rounds) = rounds < 2 ^ 32

abbrev pub IsInstructionOfWords : Instruction → Type 0
IsInstructionOfWords (Work units end) = units < 2 ^ 32
IsInstructionOfWords (Calls made otherwise end) = IsProgramCallOfWords made
IsInstructionOfWords (Join end) = ⊤
IsInstructionOfWords (Enter rounds end) = AreRoundsOfWord rounds
IsInstructionOfWords (Again body) = ⊤
IsInstructionOfWords (Break end) = ⊤
