-- The call that a core's task makes next: which it is, and that a session may have it.
use Rattle.std.proofs.Common.{◌≡◌, ◌≢◌, ℕ, ◌+◌, ◌-◌, ◌^◌, ◌<◌, ◌≤◌, Bool, true, false, cond, eqb, ltb, leb, ◌&&◌, List, Option, Some, None, is_some, Result, Ok, Err, refl, sym, ap, subst, arith, ◌∙◌}
use Rattle.std.specs.Prelude.{All, option_map, slice_get}
use Rattle.std.proofs.lemmas.Bool.Decides.{nat_tests}
use Rattle.std.proofs.lemmas.List.Elements.{All-get_or}
use Rattle.std.proofs.lemmas.Option.{get_or_from_slice_get, same_Some, slice_get_within}
use Rattle.bench_types.specs.declared.fault.Fault.{Fault}
use Rattle.bench_types.specs.declared.fault.Fault.TheVariants.{BadArgument, BadCore, BadTask}
use Rattle.bench_types.specs.declared.kernel_data.Settings.{Settings}
use Rattle.bench_types.specs.declared.step.Step.{Step}
use Rattle.bench_types.specs.declared.step.Step.TheVariants as steps
use Rattle.bench_types.specs.declared.step.Call.{Call}
use Rattle.bench_types.specs.declared.step.Call.TheVariants.{Finish, Suspend}
use Rattle.bench_types.specs.Step.{core_check, increment_check, suspending_check, task_check, ◌>>◌, IsCheckedCall}
use Rattle.bench_model.specs.Control.{current}
use Rattle.settled_runs.specs.Settled.{is_finish, is_timely, runs_user_task}
use Rattle.task_programs.specs.declared.instruction.Instruction.{Instruction}
use Rattle.task_programs.specs.declared.instruction.Instruction.TheVariants.{Work, Call as Calls, Join, Enter, Again, Break}
use Rattle.task_programs.specs.declared.instruction.ProgramCall.{ProgramCall}
use Rattle.task_programs.specs.declared.instruction.ProgramCall.TheVariants.{Made, DelayUntilNext}
use Rattle.task_programs.specs.declared.workload.Workload.{Workload}
use Rattle.task_programs.specs.Programs.{program_flaw, IsInstructionOfWords}
use Rattle.task_programs.proofs.Sound.{calls_are_checked, wakes_go_on}
use Rattle.workload_runs.specs.Courses.{Course, call_made, call_of, next_call}
use Rattle.workload_runs.specs.Properties.{HasNoCall}
use Rattle.workload_runs.specs.Rule.{call_of_user, call_on, program_call}
use Rattle.workload_runs.specs.Situations.{Situation, course_at, program_at}
use Rattle.workload_runs.proofs.Searches.{first_found, none_comes, IsFirst}

-- ---- the call on a core

-- the core's task is the user task of the number, and makes the call
pub record CallOn (workload : Workload) (now : Situation) (core : ℕ) (step : Step) : Type 0 where
  pub user : ℕ
  pub call : Call
  pub runs : now.table.settings.cores + user ≡ current now.table.control core
  pub is : step ≡ steps.Call core (now.table.settings.cores + user) call
  pub next : next_call (program_at workload user) (now.table.settings.cores + user) (course_at now.courses user) ≡ Some call

pub on_core : (workload : Workload) (now : Situation) (core : ℕ) (step : Step) → call_on workload now core ≡ Some step → CallOn workload now core step
on_core workload now core step made = at (runs_user_task now.table core) refl made
  where
    user : ℕ
    user = current now.table.control core - now.table.settings.cores

    task : ℕ
    task = now.table.settings.cores + user

    calls : now.table.settings.cores ≤ current now.table.control core → (o : Option Call)
        → next_call (program_at workload user) task (course_at now.courses user) ≡ o → option_map (λ call. steps.Call core task call) o ≡ Some step
        → CallOn workload now core step
    calls runs None next made = absurd (cc made)
    calls runs (Some call) next made = record {
      user = user;
      call = call;
      runs = omega (arith, runs);
      is = sym (same_Some (steps.Call core task call) step made);
      next = next;
    }

    at : (b : Bool) → runs_user_task now.table core ≡ b → cond b (call_of_user workload now core user) None ≡ Some step → CallOn workload now core step
    at true runs made =
        calls (grind (arith, nat_tests, runs)) (next_call (program_at workload user) task (course_at now.courses user)) refl made
    at false idle made = absurd (cc made)

-- the call of a program that comes next is that on the least core that can make one
pub first_call : (workload : Workload) (now : Situation) (step : Step) → program_call workload now ≡ Some step
    → IsFirst (call_on workload now) (is_timely now.table) now.table.settings.cores step
unfolding program_call
first_call workload now step made = first_found (call_on workload now) (is_timely now.table) now.table.settings.cores step made

pub no_call : (workload : Workload) (now : Situation) → program_call workload now ≡ None → (core : ℕ) → core < now.table.settings.cores
    → HasNoCall workload now core
unfolding program_call
no_call workload now none core below step comes = none_comes (call_on workload now) (is_timely now.table) now.table.settings.cores none core below step comes

-- ---- a checked call

begins : (call : Call) → call ≢ Finish → is_finish call ≡ false
begins Finish other = absurd (other refl)
begins call other = refl

pub pass_both : (one other : Result (Unit {0}) Fault) → one ≡ Ok tt → other ≡ Ok tt → (one >> other) ≡ Ok tt
pass_both one other first second = ap (λ one. one >> other) first ∙ second

pub pass_core : (settings : Settings) (core : ℕ) → core < settings.cores → core_check settings core ≡ Ok tt
pass_core settings core below =
    let is : ltb core settings.cores ≡ true = grind (arith, nat_tests, below) in ap (λ b. cond {A = Result (Unit {0}) Fault} b (Ok tt) (Err BadCore)) is

pub pass_task : (settings : Settings) (task : ℕ) → settings.cores ≤ task → task < settings.tasks → task_check settings task ≡ Ok tt
pass_task settings task user below =
    let is : (leb settings.cores task && ltb task settings.tasks) ≡ true = grind (arith, nat_tests, user, below) in
    ap (λ b. cond {A = Result (Unit {0}) Fault} b (Ok tt) (Err BadTask)) is

pass_increment : (inc : ℕ) → 0 < inc → increment_check inc ≡ Ok tt
pass_increment inc some =
    let is : eqb inc 0 ≡ false = grind (arith, nat_tests, some) in ap (λ b. cond {A = Result (Unit {0}) Fault} b (Err BadArgument) (Ok tt)) is

module _ (settings : Settings) (program : List Instruction) (flawless : program_flaw settings program ≡ None) (words : All IsInstructionOfWords program)
    (task wake : ℕ) (user : settings.cores ≤ task) (below : task < settings.tasks) (suspends : is_some settings.queues ≡ true) (fits : wake < 2 ^ 32) where
  abbrev MayCall : Call → Type 0
  MayCall call = IsCheckedCall settings call × (is_finish call ≡ false)

  made_checked : (index : ℕ) (made : ProgramCall) (otherwise end : ℕ) → slice_get program index ≡ Some (Calls made otherwise end)
      → MayCall (call_made wake made)
  made_checked index (Made call) otherwise end stands =
      let both = calls_are_checked settings program flawless words index call otherwise end stands in (both.0, begins call both.1)
  made_checked index (DelayUntilNext inc) otherwise end stands =
      let some = wakes_go_on settings program flawless index inc otherwise end stands in
      let here = Calls (DelayUntilNext inc) otherwise end in
      let word : inc < 2 ^ 32 = subst IsInstructionOfWords (get_or_from_slice_get program index here here stands)
      (All-get_or IsInstructionOfWords program index here (slice_get_within program index here stands) words) in
      (record { passes = pass_increment inc some; words = (fits, word) }, refl)

  suspend_checked : MayCall (Suspend task)
  suspend_checked = (
    record {
      passes = pass_both (task_check settings task) (suspending_check settings) (pass_task settings task user below)
          (ap (λ b. cond {A = Result (Unit {0}) Fault} b (Ok tt) (Err BadArgument)) suspends);
      words = tt;
    },
    refl,
  )

  call_of_checked : (index : ℕ) (o : Option Instruction) → slice_get program index ≡ o → (call : Call) → call_of task wake o ≡ Some call → MayCall call
  call_of_checked index None stands call made = subst MayCall (same_Some (Suspend task) call made) suspend_checked
  call_of_checked index (Some (Calls it otherwise end)) stands call made =
      subst MayCall (same_Some (call_made wake it) call made) (made_checked index it otherwise end stands)
  call_of_checked index (Some (Work units end)) stands call made = absurd (cc made)
  call_of_checked index (Some (Join end)) stands call made = absurd (cc made)
  call_of_checked index (Some (Enter rounds end)) stands call made = absurd (cc made)
  call_of_checked index (Some (Again body)) stands call made = absurd (cc made)
  call_of_checked index (Some (Break end)) stands call made = absurd (cc made)

pub next_call_checked :
    (settings : Settings) (program : List Instruction) (task : ℕ) (course : Course) (call : Call) → program_flaw settings program ≡ None
    → All IsInstructionOfWords program → settings.cores ≤ task → task < settings.tasks → is_some settings.queues ≡ true → course.wake < 2 ^ 32
    → next_call program task course ≡ Some call → IsCheckedCall settings call × (is_finish call ≡ false)
unfolding next_call
next_call_checked settings program task course call flawless words user below suspends fits made =
    at (eqb course.left 0) made
  where
    index : ℕ
    index = course.walk.index

    at : (b : Bool) → cond b (call_of task course.wake (slice_get program index)) None ≡ Some call → IsCheckedCall settings call × (is_finish call ≡ false)
    at true made =
        call_of_checked settings program flawless words task course.wake user below suspends fits index (slice_get program index) refl call made
    at false made = absurd (cc made)
