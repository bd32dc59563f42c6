-- A step that does not concern a task, and after which it looks as before, changes none of its counters.
use Rattle.std.proofs.Common.{◌≡◌, ◌≢◌, ℕ, ◌+◌, ◌<◌, ◌≤◌, max, Bool, true, false, not, ◌&&◌, ◌==◌, List, Option, Some, None, refl, sym, ap, subst, ◌∙◌, arith}
use Rattle.std.specs.Prelude.{is_some}
use Rattle.std.specs.Option.{option_map_or, ForSome}
use Rattle.std.proofs.lemmas.Bool.Decides.{nat_tests}
use Rattle.bench_types.specs.declared.reply.Reply.{Reply}
use Rattle.bench_types.specs.declared.step.Step.{Step}
use Rattle.bench_types.specs.declared.step.Step.TheVariants.{Tick, Switch, Interrupt, QueueInterrupt, ResumeInterrupt, Pass}
use Rattle.bench_types.specs.declared.step.Step.TheVariants as steps
use Rattle.bench_types.specs.declared.step.Call.{Call}
use Rattle.bench_types.specs.declared.step.Call.TheVariants as calls
use Rattle.bench_model.specs.Control.{current, task_at}
use Rattle.bench_model.specs.Lists.{View, list_queues}
use Rattle.bench_model.specs.Tallied.{one_if}
use Rattle.bench_model.specs.Tally.{is_call_of, is_current, is_finish_of, says_run_out}
use Rattle.run_numbers.specs.declared.counter.Counter.{Counter}
use Rattle.run_numbers.specs.declared.counter.Since.{Since}
use Rattle.run_numbers.specs.declared.look.Look.{Look}
use Rattle.run_numbers.specs.declared.subject.Cause.{Cause}
use Rattle.run_numbers.specs.declared.subject.Condition.{Condition}
use Rattle.run_numbers.specs.declared.subject.Condition.TheVariants.{Running, RunningOn, WantsCore, Inverted, Blocked, HeldUp, Suspended, InCall, Raised, PreemptionOff, Busy, Idle, Due, Holding, Held, Empty, Full}
use Rattle.run_numbers.specs.declared.subject.Event.{Event}
use Rattle.run_numbers.specs.declared.subject.Event.TheVariants.{SwitchedIn, Inherits, TimesOut, Refused, Late, Called, SwitchedOn, PutOff, Loses, Interrupted, NotTaken, Awaited, QueueAwaited}
use Rattle.run_numbers.specs.declared.subject.Reading.{Reading}
use Rattle.run_numbers.specs.declared.subject.Subject.{Subject}
use Rattle.run_numbers.specs.declared.subject.Subject.TheVariants.{Time, Steps, TopPriority, MostMessages, NotMade, Job, Migrations, RanOut, Unfinished, MutexWait, Run}
use Rattle.run_numbers.specs.AfterStep.{happens_after, has_left, inherited, is_it, is_left_ready, known_before, left_by, overrun_by, risen, switched_in}
use Rattle.run_numbers.specs.Conditions.{holds, is_cause}
use Rattle.run_numbers.specs.Counted.{holds_of}
use Rattle.run_numbers.specs.Counters.{seen, took, with_total}
use Rattle.run_numbers.specs.Events.{is_call_for, is_refusal, is_refused, may_wait_for, note_of, says_late}
use Rattle.run_numbers.specs.Looks.{look_of, IsApart, IsRow}
use Rattle.run_numbers.specs.Past.{Past}
use Rattle.run_numbers.specs.Readings.{IsConditionOf, IsSubjectOf}
use Rattle.run_numbers.specs.Tasks.{task_at as task_by, task_in, task_of}

-- what is seen as it was changes nothing
seen_same : (h : Bool) (so_far : Past) (reading : Reading) (since : Option Since) → is_some since ≡ h
    → seen h so_far (record { reading = reading; since = since }) ≡ record { reading = reading; since = since }
seen_same true so_far reading None is = absurd (cc is)
seen_same true so_far reading (Some since) is = refl
seen_same false so_far reading None is = refl
seen_same false so_far reading (Some since) is = absurd (cc is)

both_fail : (b c : Bool) → b ≡ c → (b && not c) ≡ false
both_fail true c same = subst (λ c. (true && not c) ≡ false) same refl
both_fail false c same = refl

pub fails_first : (b c : Bool) → b ≡ false → (b && c) ≡ false
fails_first true c is = absurd (cc is)
fails_first false c is = refl

-- one whose total stays
total_same : (counter : Counter) (n : ℕ) → n ≡ counter.reading.total → with_total n counter ≡ counter
total_same counter n same = ap (λ n. with_total n counter) same

module _ (before after : View) (row : List ℕ) (step : Step) (reply : Reply) (task : ℕ) (settings : after.settings ≡ before.settings)
    (cores : IsRow row before) (apart : IsApart row (known_before before step) step after task) where
  -- the core has the task just where it had it
  pub seat_kept : (core : ℕ) → core < before.settings.cores → (current before.control core == task) ≡ (current after.control core == task)
  seat_kept core low =
      let within : core < after.settings.cores = omega (arith, low, ap (λ settings. settings.cores) settings) in
      ap (λ runs. runs == task) (sym (cores.each core low)) ∙ apart.seats core within

  module _ (same : look_of after task ≡ look_of before task) where
    -- a condition of the task holds just where it held
    holds_kept : (condition : Condition) → task_in condition ≡ Some task → IsConditionOf before.settings condition
        → holds list_queues condition after ≡ holds list_queues condition before
    holds_kept (Running other) is low =
        let own : task ≡ other = cc is in
        subst (λ other. is_current after.control other ≡ is_current before.control other) own (ap (λ (look : Look). look.current) same)
    holds_kept (RunningOn other core) is low =
        let own : task ≡ other = cc is in
        subst (λ other. (current after.control core == other) ≡ (current before.control core == other)) own (sym (seat_kept core low))
    holds_kept (WantsCore other) is low =
        let own : task ≡ other = cc is in
        subst (λ other. holds list_queues (WantsCore other) after ≡ holds list_queues (WantsCore other) before) own
        (ap (λ (look : Look). look.ready && not look.current) same)
    holds_kept (Inverted other) is low =
        let own : task ≡ other = cc is in
        subst (λ other. holds list_queues (Inverted other) after ≡ holds list_queues (Inverted other) before) own
        (ap (λ (look : Look). look.inverted) same)
    holds_kept (Blocked other cause) is low =
        let own : task ≡ other = cc is in
        subst (λ other. holds list_queues (Blocked other cause) after ≡ holds list_queues (Blocked other cause) before) own
        (ap (λ (look : Look). not look.ready && not look.suspended && option_map_or (is_cause cause) look.cause false) same)
    holds_kept (HeldUp other) is low =
        let own : task ≡ other = cc is in
        subst (λ other. holds list_queues (HeldUp other) after ≡ holds list_queues (HeldUp other) before) own
        (ap (λ (look : Look). look.held_up) same)
    holds_kept (Suspended other) is low =
        let own : task ≡ other = cc is in
        subst (λ other. holds list_queues (Suspended other) after ≡ holds list_queues (Suspended other) before) own
        (ap (λ (look : Look). look.suspended) same)
    holds_kept (InCall other cause) is low =
        let own : task ≡ other = cc is in
        subst (λ other. holds list_queues (InCall other cause) after ≡ holds list_queues (InCall other cause) before) own
        (ap (λ (look : Look). option_map_or (is_cause cause) look.cause false) same)
    holds_kept (Raised other) is low =
        let own : task ≡ other = cc is in
        subst (λ other. holds list_queues (Raised other) after ≡ holds list_queues (Raised other) before) own
        (ap (λ (look : Look). look.raised) same)
    holds_kept (PreemptionOff other) is low =
        let own : task ≡ other = cc is in
        subst (λ other. holds list_queues (PreemptionOff other) after ≡ holds list_queues (PreemptionOff other) before) own
        (ap (λ (look : Look). not look.preempt) same)
    holds_kept (Holding core) is low = absurd (cc is)
    holds_kept (Busy core) is low = absurd (cc is)
    holds_kept (Idle core) is low = absurd (cc is)
    holds_kept (Due core) is low = absurd (cc is)
    holds_kept (Held mutex) is low = absurd (cc is)
    holds_kept (Empty queue) is low = absurd (cc is)
    holds_kept (Full queue) is low = absurd (cc is)

  -- it is not switched in
  not_switched : (step : Step) → ForSome (left_by before.control step) (λ left. left.0 < before.settings.cores)
      → switched_in (left_by before.control step) after.control task ≡ false
  not_switched Tick low = refl
  not_switched (Switch core) low =
      both_fail (current after.control core == task) (current before.control core == task)
      (sym (seat_kept core (low (core, current before.control core) refl)))
  not_switched (Interrupt core note) low = refl
  not_switched (QueueInterrupt core queue direction) low = refl
  not_switched (ResumeInterrupt core other) low = refl
  not_switched (Pass units) low = refl
  not_switched (steps.Call core caller call) low = refl

  -- it is not taken from a core
  not_left : (step : Step) → ForSome (left_by before.control step) (λ left. left.0 < before.settings.cores)
      → has_left (left_by before.control step) after.control task ≡ false
  not_left Tick low = refl
  not_left (Switch core) low =
      both_fail (current before.control core == task) (current after.control core == task)
      (seat_kept core (low (core, current before.control core) refl))
  not_left (Interrupt core note) low = refl
  not_left (QueueInterrupt core queue direction) low = refl
  not_left (ResumeInterrupt core other) low = refl
  not_left (Pass units) low = refl
  not_left (steps.Call core caller call) low = refl

  not_overrun : (overrun : Option ℕ) → ForSome overrun (λ overrun. overrun ≢ task) → is_it overrun task ≡ false
  not_overrun None away = refl
  not_overrun (Some other) away = let not_it : other ≢ task = away other refl in grind (arith, nat_tests, not_it)

  not_raised : (raised : Option (ℕ × ℕ)) → ForSome raised (λ raised. raised.0 ≢ task) → inherited raised after.control task ≡ false
  not_raised None away = refl
  not_raised (Some other) away =
      let not_it : other.0 ≢ task = away other refl in
      fails_first (other.0 == task) (risen after.control task other.1) (grind (arith, nat_tests, not_it))

  pub not_finish : (step : Step) → is_call_of task step ≡ false → is_finish_of task step ≡ false
  not_finish Tick is = refl
  not_finish (Switch core) is = refl
  not_finish (Interrupt core note) is = refl
  not_finish (QueueInterrupt core queue direction) is = refl
  not_finish (ResumeInterrupt core other) is = refl
  not_finish (Pass units) is = refl
  not_finish (steps.Call core caller call) is = by call
    where
      by : (call : Call) → is_finish_of task (steps.Call core caller call) ≡ false
      by calls.Finish = is
      by calls.Yield = refl
      by (calls.Delay ticks) = refl
      by (calls.DelayUntil prev inc) = refl
      by (calls.PrioritySet other priority) = refl
      by (calls.AffinitySet other mask) = refl
      by (calls.PreemptOff other) = refl
      by (calls.PreemptOn other) = refl
      by (calls.Notify note) = refl
      by (calls.NotifyWait entry exit ticks index) = refl
      by (calls.NotifyTake clear ticks index) = refl
      by (calls.StateClear other index) = refl
      by (calls.ValueClear other index bits) = refl
      by (calls.MutexTake mutex ticks) = refl
      by (calls.MutexGive mutex) = refl
      by (calls.QueueSend queue ticks) = refl
      by (calls.QueueReceive queue ticks) = refl
      by (calls.Suspend other) = refl
      by (calls.Resume other) = refl
      by calls.HoldOpen = refl
      by calls.HoldClose = refl

  not_called : (cause : Cause) (step : Step) → is_call_of task step ≡ false → is_call_for task cause step ≡ false
  not_called cause Tick is = refl
  not_called cause (Switch core) is = refl
  not_called cause (Interrupt core note) is = refl
  not_called cause (QueueInterrupt core queue direction) is = refl
  not_called cause (ResumeInterrupt core other) is = refl
  not_called cause (Pass units) is = refl
  not_called cause (steps.Call core caller call) is = fails_first (caller == task) (may_wait_for cause call) is

  -- no event of the task happens
  nothing_happens : (event : Event) → task_by event ≡ Some task → ForSome (left_by before.control step) (λ left. left.0 < before.settings.cores)
      → happens_after event (known_before before step) step reply after.control ≡ false
  nothing_happens (SwitchedIn other) is low =
      let own : task ≡ other = cc is in
      subst (λ other. switched_in (left_by before.control step) after.control other ≡ false) own (not_switched step low)
  nothing_happens (Inherits other) is low =
      let own : task ≡ other = cc is in
      subst (λ other. inherited (known_before before step).raised after.control other ≡ false) own
      (not_raised (known_before before step).raised apart.raised)
  nothing_happens (TimesOut other) is low =
      let own : task ≡ other = cc is in
      subst (λ other. (is_finish_of other step && says_run_out reply) ≡ false) own
      (fails_first (is_finish_of task step) (says_run_out reply) (not_finish step apart.caller))
  nothing_happens (Refused other why) is low =
      let own : task ≡ other = cc is in
      subst (λ other. (is_call_of other step && is_refusal why reply) ≡ false) own
      (fails_first (is_call_of task step) (is_refusal why reply) apart.caller)
  nothing_happens (Late other) is low =
      let own : task ≡ other = cc is in
      subst (λ other. (is_call_of other step && says_late reply) ≡ false) own
      (fails_first (is_call_of task step) (says_late reply) apart.caller)
  nothing_happens (Called other cause) is low =
      let own : task ≡ other = cc is in
      subst (λ other. (is_call_for other cause step && not (is_refused reply)) ≡ false) own
      (fails_first (is_call_for task cause step) (not (is_refused reply)) (not_called cause step apart.caller))
  nothing_happens (SwitchedOn core) is low = absurd (cc is)
  nothing_happens (PutOff other) is low =
      let own : task ≡ other = cc is in
      subst (λ other. (has_left (left_by before.control step) after.control other && is_left_ready (left_by before.control step) before) ≡ false) own
      (fails_first (has_left (left_by before.control step) after.control task) (is_left_ready (left_by before.control step) before) (not_left step low))
  nothing_happens (Loses other) is low =
      let own : task ≡ other = cc is in
      let overrun = overrun_by (note_of step) before in
      subst (λ other. (is_it (overrun_by (note_of step) before) other && not (is_refused reply)) ≡ false) own
      (fails_first (is_it overrun task) (not (is_refused reply)) (not_overrun overrun apart.overrun))
  nothing_happens (Interrupted core) is low = absurd (cc is)
  nothing_happens (NotTaken mutex) is low = absurd (cc is)
  nothing_happens (Awaited mutex) is low = absurd (cc is)
  nothing_happens (QueueAwaited queue) is low = absurd (cc is)

  -- none of its counters changes
  pub is_idle : (subject : Subject) (so_far : Past) (counter : Counter) → task_of subject ≡ Some task → IsSubjectOf before.settings subject
      → look_of after task ≡ look_of before task → ForSome (left_by before.control step) (λ left. left.0 < before.settings.cores)
      → is_some counter.since ≡ holds_of before subject → (subject ≡ TopPriority task → (task_at after.control task).in_use ≤ counter.reading.total)
      → took (known_before before step) step reply after so_far subject counter ≡ counter
  is_idle (Time condition) so_far counter is known same low opened top =
      seen_same (holds list_queues condition after) so_far counter.reading counter.since (opened ∙ sym (holds_kept same condition is known))
  is_idle (Steps event) so_far counter is known same low opened top =
      total_same counter _ (ap (λ b. counter.reading.total + one_if b) (nothing_happens event is low) ∙ omega arith)
  is_idle (TopPriority other) so_far counter is known same low opened top =
      let own : other ≡ task = cc is in
      let few = top (ap TopPriority own) in
      total_same counter _ (ap (λ other. max counter.reading.total (task_at after.control other).in_use) own ∙ omega (arith, few))
  is_idle (MostMessages queue) so_far counter is known same low opened top = absurd (cc is)
  is_idle (NotMade other) so_far counter is known same low opened top = refl
  is_idle (Job other number) so_far counter is known same low opened top = refl
  is_idle (Migrations other) so_far counter is known same low opened top = refl
  is_idle (RanOut other) so_far counter is known same low opened top = refl
  is_idle (Unfinished other) so_far counter is known same low opened top = refl
  is_idle (MutexWait mutex) so_far counter is known same low opened top = absurd (cc is)
  is_idle (Run number) so_far counter is known same low opened top = absurd (cc is)
