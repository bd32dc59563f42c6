-- What is kept of the courses of tasks: how many there are, and that their wakes are of 32 bits.
use Rattle.std.proofs.Common.{◌≡◌, ℕ, ◌+◌, ◌-◌, ◌^◌, ◌<◌, Bool, true, false, cond, not, eqb, ltb, ◌&&◌, List, [], length, arith, ◌∙◌, length-set}
use Rattle.std.specs.Prelude.{All}
use Rattle.std.proofs.lemmas.List.{length-map}
use Rattle.std.proofs.lemmas.List.Elements.{All-map, All-set, All-from_recursion}
use Rattle.std.proofs.lemmas.List.FromFn.{length-range_with_len}
use Rattle.list_orders.proofs.Filters.{All_each}
use Rattle.list_orders.specs.Search.{numbers}
use Rattle.bench_types.specs.declared.reply.Reply.{Reply}
use Rattle.bench_types.specs.declared.reply.Reply.TheVariants.{Refused}
use Rattle.bench_types.specs.declared.step.Step.{Step}
use Rattle.bench_types.specs.declared.step.Step.TheVariants.{Tick, Switch, Interrupt, QueueInterrupt, ResumeInterrupt, Pass}
use Rattle.bench_types.specs.declared.step.Step.TheVariants as steps
use Rattle.bench_types.specs.declared.step.Call.{Call}
use Rattle.bench_types.specs.declared.step.Call.TheVariants.{DelayUntil}
use Rattle.settled_runs.specs.Settled.{is_finish}
use Rattle.step_times.specs.Times.{time_of}
use Rattle.task_programs.specs.declared.instruction.Instruction.{Instruction}
use Rattle.task_programs.specs.declared.workload.Workload.{Workload}
use Rattle.workload_runs.specs.Courses.{Course, answered, first_course, gone_on, is_blocked, returned, wake_after, work_done, worked}
use Rattle.workload_runs.specs.Situations.{Situation, course_after, course_at, courses_after, courses_in_time, is_working, program_at, units_in}
use Rattle.workload_runs.proofs.Workloads.{at_any}

abbrev pub HasWake : Course → Type 0
HasWake course = course.wake < 2 ^ 32

-- ---- one course

pub first_wake : (tick : ℕ) (program : List Instruction) → tick < 2 ^ 32 → HasWake (first_course tick program)
unfolding first_course gone_on
first_wake tick program fits = fits

wake_fits : (call : Call) (reply : Reply) (last : ℕ) → last < 2 ^ 32 → wake_after call reply last < 2 ^ 32
wake_fits (DelayUntil prev inc) (Refused why) last fits = fits
wake_fits (DelayUntil prev inc) reply last fits = omega arith
wake_fits call reply last fits = fits

either : (P : Course → Type 0) (b : Bool) (one other : Course) → P one → P other → P (cond b one other)
either P true one other first second = first
either P false one other first second = second

worked_wake : (program : List Instruction) (units : ℕ) (course : Course) → HasWake course → HasWake (worked program units course)
unfolding worked work_done gone_on
worked_wake program units course fits =
    either HasWake (eqb course.left 0) course _ fits (either HasWake (ltb units course.left) (record course { left = course.left - units }) _ fits fits)

answered_wake : (program : List Instruction) (call : Call) (reply : Reply) (course : Course) → HasWake course → HasWake (answered program call reply course)
unfolding answered returned gone_on
answered_wake program call reply course fits =
    let noted : Course = record course { wake = wake_after call reply course.wake } in
    let kept = wake_fits call reply course.wake fits in
    either HasWake (is_blocked reply) (record noted { awaits = true }) _ kept (either HasWake (is_finish call && not course.awaits) noted _ kept kept)

-- ---- all courses

-- there are as many, and their wakes are of 32 bits
pub record AreGoing (count : ℕ) (courses : List Course) : Type 0 where
  pub many : length courses ≡ count
  pub wakes : All HasWake courses

pub wake_at : (courses : List Course) (user : ℕ) → All HasWake courses → HasWake (course_at courses user)
wake_at courses user wakes = at_any HasWake courses user (first_course 0 []) wakes (first_wake 0 [] (omega arith))

module _ (workload : Workload) (count : ℕ) (now : Situation) (going : AreGoing count now.courses) where
  in_time : (units : ℕ) → AreGoing count (courses_in_time workload units now)
  in_time units =
      let users = numbers (length now.courses) in
      let later = course_after workload units now in
      record {
        many = length-map users later ∙ length-range_with_len 0 (length now.courses) ∙ going.many;
        wakes = All-map HasWake later users
            (All-from_recursion (λ user. HasWake (later user)) users (All_each (λ user. HasWake (later user)) kept users));
      }
    where
      kept : (user : ℕ) → HasWake (course_after workload units now user)
      kept user =
          let course = course_at now.courses user in
          let fits = wake_at now.courses user going.wakes in
          either HasWake (is_working now.table (now.table.settings.cores + user)) (worked (program_at workload user) units course) course
          (worked_wake (program_at workload user) units course fits) fits

  some_time : (units : ℕ) → AreGoing count (cond (eqb units 0) now.courses (courses_in_time workload units now))
  some_time units = at (eqb units 0)
    where
      at : (b : Bool) → AreGoing count (cond b now.courses (courses_in_time workload units now))
      at true = going
      at false = in_time units

  pub going_after : (step : Step) (reply : Reply) → AreGoing count (courses_after workload step reply now)
  unfolding courses_after
  going_after Tick reply = some_time (time_of (units_in workload) Tick)
  going_after (Switch core) reply = going
  going_after (Interrupt core note) reply = going
  going_after (QueueInterrupt core queue direction) reply = going
  going_after (ResumeInterrupt core task) reply = going
  going_after (Pass units) reply = some_time (time_of (units_in workload) (Pass units))
  going_after (steps.Call core task call) reply =
      let user = task - now.table.settings.cores in
      let course = course_at now.courses user in
      let later = answered (program_at workload user) call reply course in
      record {
        many = length-set now.courses user later ∙ going.many;
        wakes = All-set HasWake now.courses user later (answered_wake (program_at workload user) call reply course (wake_at now.courses user going.wakes))
            going.wakes;
      }
