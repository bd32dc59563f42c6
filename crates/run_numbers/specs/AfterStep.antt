-- What a step is to a task, by what was known before it, its reply and the state after it.
use Rattle.std.specs.Prelude.{ℕ, Bool, false, not, ◌&&◌, ◌==◌, nat_lt, Option, Some, None, option_map, if◌then◌else◌}
use Rattle.std.specs.Option.{option_map_or}
use Rattle.bench_types.specs.declared.note.Note.{Note}
use Rattle.bench_types.specs.declared.reply.Reply.{Reply}
use Rattle.bench_types.specs.declared.step.Step.{Step}
use Rattle.bench_types.specs.declared.step.Step.TheVariants.{Switch}
use Rattle.bench_model.specs.Control.{Control, current, task_at}
use Rattle.bench_model.specs.Lists.{View, list_queues}
use Rattle.bench_model.specs.Tally.{is_call_of, is_finish_of, says_run_out}
use Rattle.smp_kernel.specs.Raised.{raised_by}
use Rattle.run_numbers.specs.declared.event.BeforeStep.{BeforeStep}
use Rattle.run_numbers.specs.declared.subject.Event.{Event}
use Rattle.run_numbers.specs.declared.subject.Event.TheVariants.{SwitchedIn, Inherits, TimesOut, Refused, Late, Called, SwitchedOn, PutOff, Loses, Interrupted, NotTaken, Awaited, QueueAwaited}
use Rattle.run_numbers.specs.Events.{is_call_for, is_interrupt_of, is_refusal, is_refused, is_take_of, is_transfer_of, is_unread, is_wait}
use Rattle.run_numbers.specs.Events.{note_of, says_false, says_late, sets_value, taken_in}

-- the core that switches, and the task that it has
abbrev pub left_by : Control → Step → Option (ℕ × ℕ)
left_by before (Switch core) = Some (core, current before core)
left_by before step = None

-- the task that the core has is ready
abbrev pub is_left_ready : Option (ℕ × ℕ) → View → Bool
is_left_ready left before =
    option_map_or (λ left. list_queues.is_ready left.1 before.orders) left false

-- the task that loses one of two values by a notification
abbrev pub overrun_by : Option Note → View → Option ℕ
overrun_by None before = None
overrun_by (Some note) before =
    if sets_value note.action && is_unread note before then Some note.task else None

abbrev pub known_before : View → Step → BeforeStep
known_before before step = record {
  left = left_by before.control step;
  ready = is_left_ready (left_by before.control step) before;
  raised = option_map (λ task. (task, (task_at before.control task).in_use))
      (raised_by before step);
  overrun = overrun_by (note_of step) before;
  taken = taken_in before.calls step;
}

-- the core has the task now, and had another
abbrev pub switched_in : Option (ℕ × ℕ) → Control → ℕ → Bool
switched_in left after task =
    option_map_or (λ left. current after left.0 == task && not (left.1 == task)) left false

-- the core switched, and has another task than the one that it had
abbrev pub has_switched : Option (ℕ × ℕ) → Control → ℕ → Bool
has_switched left after core = option_map_or
    (λ left. left.0 == core && not (current after left.0 == left.1)) left false

-- the core that had the task switched, and has another now
abbrev pub has_left : Option (ℕ × ℕ) → Control → ℕ → Bool
has_left left after task = option_map_or
    (λ left. left.1 == task && not (current after left.0 == task)) left false

-- it is this one
abbrev pub is_it : Option ℕ → ℕ → Bool
is_it found wanted = option_map_or (λ found. found == wanted) found false

-- the priority in use was this one, and is above the base priority now
abbrev pub risen : Control → ℕ → ℕ → Bool
risen after task in_use =
    nat_lt in_use (task_at after task).in_use
    && nat_lt (task_at after task).base (task_at after task).in_use

abbrev pub inherited : Option (ℕ × ℕ) → Control → ℕ → Bool
inherited raised after task =
    option_map_or (λ raised. raised.0 == task && risen after task raised.1) raised false

abbrev pub happens_after : Event → BeforeStep → Step → Reply → Control → Bool
happens_after (SwitchedIn task) before step reply after = switched_in before.left after task
happens_after (Inherits task) before step reply after = inherited before.raised after task
happens_after (TimesOut task) before step reply after =
    is_finish_of task step && says_run_out reply
happens_after (Refused task why) before step reply after =
    is_call_of task step && is_refusal why reply
happens_after (Late task) before step reply after = is_call_of task step && says_late reply
happens_after (Called task cause) before step reply after =
    is_call_for task cause step && not (is_refused reply)
happens_after (SwitchedOn core) before step reply after = has_switched before.left after core
happens_after (PutOff task) before step reply after =
    has_left before.left after task && before.ready
happens_after (Loses task) before step reply after =
    is_it before.overrun task && not (is_refused reply)
happens_after (Interrupted core) before step reply after = is_interrupt_of core step
happens_after (NotTaken mutex) before step reply after =
    is_it before.taken mutex && says_false reply
happens_after (Awaited mutex) before step reply after =
    is_take_of mutex step && is_wait reply
happens_after (QueueAwaited queue) before step reply after =
    is_transfer_of queue step && is_wait reply
