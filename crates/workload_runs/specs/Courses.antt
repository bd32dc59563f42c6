-- How far a task has come in its program.
use Rattle.std.specs.Prelude.{ℕ, suc, ◌+◌, ◌-◌, ◌*◌, ◌==◌, Bool, true, false, not, ◌&&◌, nat_lt, List, [], length, replicate, slice_get, slice_index_or, slice_set, Option, Some, None, if◌then◌else◌}
use Rattle.bench_types.specs.declared.reply.Reply.{Reply}
use Rattle.bench_types.specs.declared.reply.Reply.TheVariants.{Done, Blocked, Flag, Value, Waited, Until, Isr, Refused}
use Rattle.bench_types.specs.declared.step.Call.{Call}
use Rattle.bench_types.specs.declared.step.Call.TheVariants.{DelayUntil, Suspend}
use Rattle.bench_model.specs.Until.{next_wake}
use Rattle.settled_runs.specs.Settled.{is_finish}
use Rattle.task_programs.specs.declared.instruction.Instruction.{Instruction}
use Rattle.task_programs.specs.declared.instruction.Instruction.TheVariants.{Work, Call as Calls}
use Rattle.task_programs.specs.declared.instruction.ProgramCall.{ProgramCall}
use Rattle.task_programs.specs.declared.instruction.ProgramCall.TheVariants.{Made, DelayUntilNext}
use Rattle.task_programs.specs.Walks.{Walk, walk_after}

pub record Course : Type 0 where
  -- where the walk of the task has come: to a work, to a call, or behind the last instruction
  pub walk : Walk
  -- the units that are left of the work; 0 where the walk has come to none
  pub left : ℕ
  -- of the works of one item, by the index of the first of them, which comes next
  pub turns : List ℕ
  -- the tick count of the wake of the last `delay_until`, at first that of the start
  pub wake : ℕ
  -- the call was made, and its answer is still to come
  pub awaits : Bool

-- ---- where a walk comes to

abbrev pub units_of : Option Instruction → ℕ
units_of (Some (Work units end)) = units
units_of other = 0

abbrev pub turn_at : List ℕ → ℕ → ℕ
turn_at turns index = slice_index_or turns index 0

-- the units of the work whose turn it is, of the item that begins at the index
abbrev pub units_next : List Instruction → List ℕ → ℕ → ℕ
units_next program turns index = units_of (slice_get program (index + turn_at turns index))

-- the walk goes on to the next work or call
abbrev pub come : List Instruction → Walk → Walk
come program walk = walk_after program (2 * length program) walk

-- the walk of the task goes on from there
unfoldable pub gone_on : List Instruction → Walk → Course → Course
gone_on program walk course = let there = come program walk in record course {
  walk = there;
  left = units_next program course.turns there.index;
}

-- before the first instruction
abbrev pub first_walk : Walk
first_walk = record { index = 0; rounds = [] }

-- the start of a task, where the kernel starts at that tick count
unfoldable pub first_course : ℕ → List Instruction → Course
first_course tick program =
    gone_on program first_walk (record {
      walk = first_walk;
      left = 0;
      turns = replicate (length program) 0;
      wake = tick;
      awaits = false;
    })

-- ---- work

-- the index behind the item of a work
abbrev pub behind_work : Option Instruction → ℕ
behind_work (Some (Work units end)) = end
behind_work other = 0

-- after the last of so many works comes the first one again
abbrev pub next_turn : ℕ → ℕ → ℕ
next_turn works turn = if nat_lt (suc turn) works then suc turn else 0

-- the work is done
unfoldable pub work_done : List Instruction → Course → Course
work_done program course =
    let index = course.walk.index in
    let end = behind_work (slice_get program index) in
    gone_on program (record course.walk { index = end })
    (record course {
      turns =
          slice_set course.turns index (next_turn (end - index) (turn_at course.turns index));
    })

-- the task worked for so many units
unfoldable pub worked : List Instruction → ℕ → Course → Course
worked program units course =
    if course.left == 0 then course
    else (if nat_lt units course.left then record course { left = course.left - units }
    else work_done program course)

-- ---- calls

-- the call as a session has it
abbrev pub call_made : ℕ → ProgramCall → Call
call_made wake (Made call) = call
call_made wake (DelayUntilNext inc) = DelayUntil wake inc

-- the call that comes next; behind its program the task suspends itself, again and again
abbrev pub call_of : ℕ → ℕ → Option Instruction → Option Call
call_of task wake None = Some (Suspend task)
call_of task wake (Some (Calls call otherwise end)) = Some (call_made wake call)
call_of task wake (Some other) = None

-- the call that the task makes next, none where it has work to do before
unfoldable pub next_call : List Instruction → ℕ → Course → Option Call
next_call program task course =
    if course.left == 0 then call_of task course.wake (slice_get program course.walk.index)
    else None

-- the answer takes the walk to `then`
abbrev pub is_affirmative : Reply → Bool
is_affirmative Done = true
is_affirmative Blocked = true
is_affirmative (Flag flag) = flag
is_affirmative (Value value) = not (value == 0)
is_affirmative (Waited ok value) = ok
is_affirmative (Until delayed wake) = delayed
is_affirmative (Isr pass pend) = pass
is_affirmative (Refused why) = false

-- where the walk goes on behind a call
abbrev pub index_behind : Bool → ℕ → Option Instruction → ℕ
index_behind affirmative index (Some (Calls call otherwise end)) =
    if affirmative then suc index else otherwise
index_behind affirmative index other = index

-- the call has its answer
unfoldable pub returned : List Instruction → Reply → Course → Course
returned program reply course =
    let index = course.walk.index in
    let next = index_behind (is_affirmative reply) index (slice_get program index) in
    gone_on program (record course.walk { index = next }) (record course { awaits = false })

-- the wake of the last `delay_until`; one that is refused has none
abbrev pub wake_after : Call → Reply → ℕ → ℕ
wake_after (DelayUntil prev inc) (Refused why) last = last
wake_after (DelayUntil prev inc) reply last = next_wake prev inc
wake_after call reply last = last

abbrev pub is_blocked : Reply → Bool
is_blocked Blocked = true
is_blocked reply = false

-- A call of the task was answered. One that waits has its answer by a `finish`, but a
-- `delay_until`, whose answer says that it waits.
unfoldable pub answered : List Instruction → Call → Reply → Course → Course
answered program call reply course =
    let noted = record course { wake = wake_after call reply course.wake } in
    if is_blocked reply then record noted { awaits = true }
    else (if is_finish call && not course.awaits then noted else returned program reply noted)
