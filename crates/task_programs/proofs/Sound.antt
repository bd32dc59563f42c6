-- What a checked workload and its programs are.
use Rattle.std.proofs.Common.{◌≡◌, ◌≢◌, ℕ, zero, suc, ◌+◌, ◌<◌, ◌≤◌, ◌==◌, Bool, true, false, cond, List, [], ◌∷◌, length, drop, get_or, Option, Some, None, is_some, option_map, refl, ap, sym, subst, ◌∙◌, arith, add-one, drop-cons}
use Rattle.std.specs.Prelude.{All, nat_lt, slice_get}
use Rattle.std.specs.List.{sum_by}
use Rattle.std.specs.Option.{option_or}
use Rattle.std.proofs.lemmas.Bool.Decides.{nat_tests}
use Rattle.std.proofs.lemmas.List.Elements.{All-cons, All-get_or, All-head, All-nil, All-tail}
use Rattle.std.proofs.lemmas.Option.{slice_get_within, slice_get-get_or, get_or_from_slice_get}
use Rattle.bench_types.specs.declared.kernel_data.Settings.{Settings}
use Rattle.bench_types.specs.declared.step.Call.{Call}
use Rattle.bench_types.specs.declared.step.Call.TheVariants as call
use Rattle.bench_types.specs.declared.step.Step.{Step}
use Rattle.bench_types.specs.declared.step_flaw.StepFlaw.TheVariants.{Increment}
use Rattle.bench_types.specs.Flaw.{header_flaw as flaw_of_header}
use Rattle.bench_types.specs.Step.{settings_of}
use Rattle.bench_types.specs.StepFlaw.{call_flaw, check_of, increment_flaw, step_flaw}
use Rattle.bench_types.proofs.StepFlaws.{call_check_of, step_check_of}
use Rattle.task_programs.specs.declared.around.Block.{Block}
use Rattle.task_programs.specs.declared.flaw.InstructionFlaw.{InstructionFlaw}
use Rattle.task_programs.specs.declared.flaw.InstructionFlaw.TheVariants.{Step as StepOf}
use Rattle.task_programs.specs.declared.flaw.InterruptFlaw.TheVariants as interrupts
use Rattle.task_programs.specs.declared.flaw.WorkloadFlaw.{WorkloadFlaw}
use Rattle.task_programs.specs.declared.flaw.WorkloadFlaw.TheVariants as workloads
use Rattle.task_programs.specs.declared.instruction.Instruction.{Instruction}
use Rattle.task_programs.specs.declared.instruction.Instruction.TheVariants.{Call as Calls, Join}
use Rattle.task_programs.specs.declared.instruction.ProgramCall.{ProgramCall}
use Rattle.task_programs.specs.declared.instruction.ProgramCall.TheVariants.{Made, DelayUntilNext}
use Rattle.task_programs.specs.declared.workload.Interrupt.{Interrupt}
use Rattle.task_programs.specs.declared.workload.Workload.{Workload}
use Rattle.task_programs.specs.Laws.{CallsAreChecked, CheckedIsSound, IsSoundInterrupt, IsSpaced, NoneHasAFlaw, WakesGoOn}
use Rattle.task_programs.specs.Limits.{max_items, max_ticks}
use Rattle.task_programs.specs.Programs.{around_at, around_behind, around_next, flaw_from, instruction_flaw, item_count, nesting_flaw, own_flaw, place_flaw, program_call_flaw, program_flaw, reach_flaw, IsInstructionOfWords}
use Rattle.task_programs.specs.Workloads.{contents_flaw, count_flaw, handler_flaw, header_flaw, interrupt_flaw, interrupts_flaw, is_interrupt, items_flaw, period_flaw, programs_flaw, ticks_flaw, workload_flaw, IsInterruptOfWords}
use Rattle.task_programs.proofs.Flaws.{none_of}

-- what is none is none before it is told
pub unmapped : {A B : Type 0} (f : A → B) (x : Option A) → option_map f x ≡ None → x ≡ None
unmapped f None is = refl
unmapped f (Some x) is = absurd (cc is)

module _ (s : Settings) (p : List Instruction) where
  abbrev told : ℕ → Option InstructionFlaw → Option (ℕ × InstructionFlaw)
  told i flaw = option_map (λ (flaw : InstructionFlaw). (i, flaw)) flaw

  -- the search goes on from an instruction
  abbrev IsSought : ℕ → Type 0
  IsSought i = flaw_from s p (around_at p i) i (drop i p) ≡ None

  opened : (i : ℕ) (x : Instruction) → slice_get p i ≡ Some x → IsSought i → (instruction_flaw s p (around_at p i) i x ≡ None) × IsSought (suc i)
  opened i x found sought =
      let a = around_at p i in
      let front : drop i p ≡ get_or p i x ∷ drop (suc i) p = drop-cons p i x (slice_get_within p i x found) in
      let first : drop i p ≡ x ∷ drop (suc i) p = front ∙ ap (λ y. y ∷ drop (suc i) p) (get_or_from_slice_get p i x x found) in
      let here : flaw_from s p a i (x ∷ drop (suc i) p) ≡ None = ap (flaw_from s p a i) (sym first) ∙ sought in
      let parts = none_of (told i (instruction_flaw s p a i x)) (flaw_from s p (around_next i x a) (i + 1) (drop (suc i) p)) here in
      let behind : around_at p (suc i) ≡ around_next i x a = ap (λ found. around_behind i found a) found in (
        unmapped (λ (flaw : InstructionFlaw). (i, flaw)) (instruction_flaw s p a i x) parts.0,
        ap (λ around. flaw_from s p around (suc i) (drop (suc i) p)) behind
            ∙ ap (λ j. flaw_from s p (around_next i x a) j (drop (suc i) p)) (sym (add-one i)) ∙ parts.1,
      )

  sought_to : program_flaw s p ≡ None → (i : ℕ) → i ≤ length p → IsSought i
  unfolding program_flaw
  sought_to is zero within = is
  sought_to is (suc i) within =
      let inside : i < length p = omega (arith, within) in
      (opened i (get_or p i (Join 0)) (slice_get-get_or p i (Join 0) inside) (sought_to is i (omega (arith, within)))).1

pub none_has_a_flaw : NoneHasAFlaw
none_has_a_flaw s p is i x found =
    let inside = slice_get_within p i x found in
    (opened s p i x found (sought_to s p is i (omega (arith, inside)))).0

-- a call of a program has no flaw
call_has_none : (s : Settings) (p : List Instruction) (a : List Block) (i : ℕ) (made : ProgramCall) (otherwise end : ℕ)
    → instruction_flaw s p a i (Calls made otherwise end) ≡ None → program_call_flaw s made ≡ None
unfolding instruction_flaw
call_has_none s p a i made otherwise end is =
    let x = Calls made otherwise end in
    let own = (none_of (reach_flaw p i x) (own_flaw s p a i x) (none_of (option_or (reach_flaw p i x) (own_flaw s p a i x)) (place_flaw p a i x) is).0).1 in
    (none_of (program_call_flaw s made) (cond (end == i + 1) None (nesting_flaw a)) own).0

made_has_none : (s : Settings) (made : Call) → program_call_flaw s (Made made) ≡ None → (call_flaw s made ≡ None) × (made ≢ call.Finish)
made_has_none s call.Finish is = absurd (cc is)
made_has_none s made is = (unmapped StepOf (call_flaw s made) is, λ same. cc)

pub calls_are_checked : CallsAreChecked
calls_are_checked s p is words i made otherwise end found =
    let x = Calls (Made made) otherwise end in
    let none = made_has_none s made (call_has_none s p (around_at p i) i (Made made) otherwise end (none_has_a_flaw s p is i x found)) in
    let inside = slice_get_within p i x found in
    let word = subst IsInstructionOfWords (get_or_from_slice_get p i x x found) (All-get_or IsInstructionOfWords p i x inside words) in
    (record { passes = call_check_of s made ∙ ap check_of none.0; words = word }, none.1)

some_ticks : (inc : ℕ) → option_map StepOf (increment_flaw inc) ≡ None → 0 < inc
some_ticks inc is =
    let test : (inc == 0) ≡ false = failed (inc == 0) (unmapped StepOf (increment_flaw inc) is) in
    grind (arith, nat_tests, test)
  where
    failed : (b : Bool) → cond b (Some Increment) None ≡ None → b ≡ false
    failed true is = absurd (cc is)
    failed false is = refl

pub wakes_go_on : WakesGoOn
wakes_go_on s p is i inc otherwise end found =
    let x = Calls (DelayUntilNext inc) otherwise end in
    some_ticks inc (call_has_none s p (around_at p i) i (DelayUntilNext inc) otherwise end (none_has_a_flaw s p is i x found))

-- an interrupt without a flaw
handled : (s : Settings) (what : Step) → handler_flaw s what ≡ None → (step_flaw s what ≡ None) × (is_interrupt what ≡ true)
handled s what is = by_kind (is_interrupt what) is
  where
    by_kind : (b : Bool) → cond b (option_map interrupts.Step (step_flaw s what)) (Some interrupts.NoInterrupt) ≡ None → (step_flaw s what ≡ None) × (b ≡ true)
    by_kind true is = (unmapped interrupts.Step (step_flaw s what) is, refl)
    by_kind false is = absurd (cc is)

spaced : (every : Option ℕ) → period_flaw every ≡ None → IsSpaced every
spaced None is = tt
spaced (Some units) is = let test : (units == 0) ≡ false = failed (units == 0) is in grind (arith, nat_tests, test)
  where
    failed : (b : Bool) → cond b (Some interrupts.NoPeriod) None ≡ None → b ≡ false
    failed true is = absurd (cc is)
    failed false is = refl

interrupt_sound : (s : Settings) (interrupt : Interrupt) → interrupt_flaw s interrupt ≡ None → IsInterruptOfWords interrupt → IsSoundInterrupt s interrupt
interrupt_sound s interrupt is words =
    let parts = none_of (period_flaw interrupt.every) (handler_flaw s interrupt.what) is in
    let handles = handled s interrupt.what parts.1 in
    record {
      checked = record { passes = step_check_of s interrupt.what ∙ ap check_of handles.0; words = words.what };
      kind = handles.1;
      spaced = spaced interrupt.every parts.0;
    }

-- of each, where the first flaw is none
each_interrupt : (s : Settings) (index : ℕ) (all : List Interrupt) → interrupts_flaw s index all ≡ None → All IsInterruptOfWords all → All (IsSoundInterrupt s) all
each_interrupt s index [] is words = All-nil (IsSoundInterrupt s)
each_interrupt s index (interrupt ∷ rest) is words =
    let parts = none_of (option_map (workloads.Interrupt index) (interrupt_flaw s interrupt)) (interrupts_flaw s (index + 1) rest) is in
    let none = unmapped (workloads.Interrupt index) (interrupt_flaw s interrupt) parts.0 in
    All-cons (IsSoundInterrupt s) interrupt rest (interrupt_sound s interrupt none (All-head IsInterruptOfWords interrupt rest words))
    (each_interrupt s (index + 1) rest parts.1 (All-tail IsInterruptOfWords interrupt rest words))

abbrev told_of : ℕ → ℕ × InstructionFlaw → WorkloadFlaw
told_of task found = workloads.Instruction task found.0 found.1

each_program : (s : Settings) (task : ℕ) (all : List (List Instruction)) → programs_flaw s task all ≡ None → All (λ program. program_flaw s program ≡ None) all
each_program s task [] is = All-nil (λ (program : List Instruction). program_flaw s program ≡ None)
each_program s task (program ∷ rest) is =
    let parts = none_of (option_map (told_of task) (program_flaw s program)) (programs_flaw s (task + 1) rest) is in
    All-cons (λ (program : List Instruction). program_flaw s program ≡ None) program rest (unmapped (told_of task) (program_flaw s program) parts.0)
    (each_program s (task + 1) rest parts.1)

-- a flaw that is not there
absent : (b : Bool) (flaw : WorkloadFlaw) → cond b (Some flaw) None ≡ None → b ≡ false
absent true flaw is = absurd (cc is)
absent false flaw is = refl

present : (b : Bool) (flaw : WorkloadFlaw) → cond b None (Some flaw) ≡ None → b ≡ true
present true flaw is = refl
present false flaw is = absurd (cc is)

same_count : (m n : ℕ) → (m == n) ≡ true → m ≡ n
same_count m n test = grind (arith, nat_tests, test)

at_most : (most n : ℕ) → nat_lt most n ≡ false → n ≤ most
at_most most n test = grind (arith, nat_tests, test)

-- the flaws of a workload that has none
pub record AreNone (w : Workload) : Type 0 where
  pub header : header_flaw w.header ≡ None
  pub count : count_flaw w.header w.programs ≡ None
  pub items : items_flaw w.programs ≡ None
  pub programs : programs_flaw (settings_of w.header) 0 w.programs ≡ None
  pub interrupts : interrupts_flaw (settings_of w.header) 0 w.interrupts ≡ None
  pub ticks : ticks_flaw w.ticks ≡ None

are_none : (w : Workload) → workload_flaw w ≡ None → AreNone w
unfolding workload_flaw contents_flaw
are_none w is =
    let s = settings_of w.header in
    let counts = option_or (count_flaw w.header w.programs) (items_flaw w.programs) in
    let programs = option_or counts (programs_flaw s 0 w.programs) in
    let comes = option_or programs (interrupts_flaw s 0 w.interrupts) in
    let whole = none_of (header_flaw w.header) (option_or comes (ticks_flaw w.ticks)) is in
    let last = none_of comes (ticks_flaw w.ticks) whole.1 in
    let third = none_of programs (interrupts_flaw s 0 w.interrupts) last.0 in
    let second = none_of counts (programs_flaw s 0 w.programs) third.0 in
    let first = none_of (count_flaw w.header w.programs) (items_flaw w.programs) second.0 in
    record { header = whole.0; count = first.0; items = first.1; programs = second.1; interrupts = third.1; ticks = last.1 }

pub checked_is_sound : CheckedIsSound
checked_is_sound w checked =
    let none = are_none w checked.passes in
    let header = none_of (option_map workloads.Header (flaw_of_header w.header)) (cond (is_some w.header.queues) None (Some workloads.NoQueues)) none.header in
    record {
      queues = present (is_some w.header.queues) workloads.NoQueues header.1;
      one_each = same_count (length w.programs) (length w.header.tasks)
          (present (length w.programs == length w.header.tasks) (workloads.Programs (length w.programs)) none.count);
      few = at_most max_items (sum_by item_count w.programs) (absent (nat_lt max_items (sum_by item_count w.programs)) workloads.Items none.items);
      programs = each_program (settings_of w.header) 0 w.programs none.programs;
      interrupts = each_interrupt (settings_of w.header) 0 w.interrupts none.interrupts checked.interrupts;
      ticks = at_most max_ticks w.ticks (absent (nat_lt max_ticks w.ticks) (workloads.Ticks w.ticks) none.ticks);
    }
