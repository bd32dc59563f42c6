-- The walk of a program, from one work or call to the next.
use Rattle.std.specs.Prelude.{◌≡◌, ℕ, zero, suc, ◌+◌, ◌-◌, ◌*◌, nat_lt, List, [], ◌∷◌, drop, length, slice_get, Option, Some, None, option_and_then, is_none, true, if◌then◌else◌}
use Rattle.std.specs.Option.{option_map_or}
use Rattle.bench_types.specs.declared.kernel_data.Settings.{Settings}
use Rattle.task_programs.specs.declared.instruction.Instruction.{Instruction}
use Rattle.task_programs.specs.declared.instruction.Instruction.TheVariants.{Work, Call as Calls, Join, Enter, Again, Break}
use Rattle.task_programs.specs.Programs.{program_flaw}

pub record Walk : Type 0 where
  -- the index of the next instruction
  pub index : ℕ
  -- the rounds of each loop around it, with the one that goes on, the innermost first; none where
  -- they are for ever
  pub rounds : List (Option ℕ)

-- behind a round: the next one where one is left, else on behind the loop
abbrev pub next_round : ℕ → ℕ → List (Option ℕ) → Walk
next_round body end [] = record { index = end; rounds = [] }
next_round body end (None ∷ outer) = record { index = body; rounds = None ∷ outer }
next_round body end (Some rounds ∷ outer) =
    if nat_lt 1 rounds then record { index = body; rounds = Some (rounds - 1) ∷ outer }
    else record { index = end; rounds = outer }

-- where an instruction leads; a work and a call lead nowhere by themselves
abbrev pub led_by : Walk → Instruction → Option Walk
led_by walk (Work units end) = None
led_by walk (Calls made otherwise end) = None
led_by walk (Join end) = Some (record { index = end; rounds = walk.rounds })
led_by walk (Enter rounds end) =
    Some (record { index = walk.index + 1; rounds = rounds ∷ walk.rounds })
led_by walk (Again body) = Some (next_round body (walk.index + 1) walk.rounds)
led_by walk (Break end) = Some (record { index = end; rounds = drop 1 walk.rounds })

-- one move; none at a work, at a call, and behind the last instruction
abbrev pub next_walk : List Instruction → Walk → Option Walk
next_walk program walk = option_and_then (led_by walk) (slice_get program walk.index)

-- where so many moves lead at most
abbrev pub walk_after : List Instruction → ℕ → Walk → Walk
walk_after program zero walk = walk
walk_after program (suc moves) walk =
    option_map_or (walk_after program moves) (next_walk program walk) walk

-- a walk of a program without a flaw comes to a work, to a call or to the end by at most twice as
-- many moves as there are instructions
abbrev pub WalksCome : Type 0
WalksCome =
    (settings : Settings) (program : List Instruction) (walk : Walk)
    → program_flaw settings program ≡ None
    → is_none (next_walk program (walk_after program (2 * length program) walk)) ≡ true
