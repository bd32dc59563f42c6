-- Worked runs that keep work.
use Rattle.std.specs.Prelude.{◌≡◌, true, false, List, [], ◌∷◌, codes, Some}
use Rattle.bench_types.specs.declared.edit.Edit.TheVariants.{Remove, ChangeTask}
use Rattle.bench_types.specs.declared.header.Header.{Header}
use Rattle.bench_types.specs.declared.step.Step.{Step}
use Rattle.bench_types.specs.declared.note.NotifyAction.TheVariants.{Increment}
use Rattle.bench_types.specs.declared.step.Step.TheVariants.{Tick, Switch, Call, Interrupt, Pass}
use Rattle.bench_types.specs.declared.step.Call.TheVariants.{Delay, NotifyTake, Finish}
use Rattle.bench_types.specs.Session.{Session}
use Rattle.kept_edits.specs.declared.edit.KeptEdit.{KeptEdit}
use Rattle.kept_edits.specs.declared.edit.KeptEdit.TheVariants.{Plain, Work}
use Rattle.kept_edits.specs.declared.edit.WorkChange.TheVariants.{More}
use Rattle.settled_runs.specs.declared.waiting_call.WaitingCall.{WaitingCall}
use Rattle.kept_runs.specs.declared.call_order.CallOrder.TheVariants.{Oldest}
use Rattle.kept_runs.specs.declared.known_limit.LimitReason.TheVariants.{End, Answer}
use Rattle.kept_runs.specs.Known.{known_until}
use Rattle.kept_runs.specs.Rule.{first_progress, IsRunFrom}
use Rattle.worked_examples.specs.NoteExamples.{known}

-- 2 cores, and 10 units in each tick; the tasks 2 and 3 on core 0 alone
abbrev pub two_on_one_core : Header
two_on_one_core = record {
  config = record {
    cores = 2;
    priorities = 5;
    slicing = false;
    tick = 0;
    mutexes = 0;
    notes = 1;
    units = 10;
  };
  queues = Some [];
  tasks = record { name = codes "A"; priority = 2; mask = 1 }
      ∷ record { name = codes "B"; priority = 1; mask = 1 } ∷ [];
}

-- Task 2 works for 4 units before each delay. Task 3 works for 6 units behind the first of them and
-- for 2 behind the second: so for 8 before its own.
abbrev pub works : Session
works = record {
  header = two_on_one_core;
  steps = Pass 4 ∷ Call 0 2 (Delay 1) ∷ Pass 6 ∷ Tick ∷ Pass 4 ∷ Call 0 2 (Delay 1) ∷ Pass 2
      ∷ Call 0 3 (Delay 1) ∷ Pass 4 ∷ Tick ∷ [];
}

-- its settled run
abbrev pub as_it_was : List Step
as_it_was =
    Pass 4 ∷ Call 0 2 (Delay 1) ∷ Switch 0 ∷ Pass 6 ∷ Tick ∷ Switch 0 ∷ Call 0 2 Finish ∷ Pass 4
    ∷ Call 0 2 (Delay 1) ∷ Switch 0 ∷ Pass 2 ∷ Call 0 3 (Delay 1) ∷ Switch 0 ∷ Pass 4 ∷ Tick
    ∷ Switch 0 ∷ Call 0 2 Finish ∷ []

-- the run after the edits
abbrev pub IsRunAfter : List KeptEdit → List Step → List WaitingCall → Type 0
IsRunAfter edits run left = IsRunFrom (first_progress Oldest works edits as_it_was) run left

-- Task 3 is free to use core 1 alone. So it has worked for 8 units within the second pass, which is
-- cut there, and its delay comes a tick earlier than it did.
abbrev pub on_its_own : List KeptEdit
on_its_own = Plain (ChangeTask 3 1 2) ∷ []

abbrev pub earlier : List Step
earlier =
    Pass 4 ∷ Call 0 2 (Delay 1) ∷ Switch 0 ∷ Pass 4 ∷ Call 1 3 (Delay 1) ∷ Switch 1 ∷ Pass 2 ∷ Tick
    ∷ Switch 0 ∷ Switch 1 ∷ Call 0 2 Finish ∷ Call 1 3 Finish ∷ Pass 4 ∷ Call 0 2 (Delay 1)
    ∷ Switch 0 ∷ Pass 2 ∷ Pass 4 ∷ Tick ∷ Switch 0 ∷ Call 0 2 Finish ∷ []

-- Task 2 has no first delay. So it works for 4 units and for 4 more before the second, and task 3
-- does not come to its own.
abbrev pub without_a_call : List KeptEdit
without_a_call = Plain (Remove 1) ∷ []

abbrev pub longer : List Step
longer =
    Pass 4 ∷ Pass 4 ∷ Call 0 2 (Delay 1) ∷ Switch 0 ∷ Pass 2 ∷ Tick ∷ Switch 0 ∷ Call 0 2 Finish
    ∷ Pass 4 ∷ Pass 2 ∷ Pass 4 ∷ Tick ∷ []

-- Task 2 works for 3 units more before its second delay. So it comes in the last pass of the tick,
-- which is cut there, and once more where task 3 has worked for its own.
abbrev pub with_more_work : List KeptEdit
with_more_work = Work 5 (More 3) ∷ []

abbrev pub later : List Step
later =
    Pass 4 ∷ Call 0 2 (Delay 1) ∷ Switch 0 ∷ Pass 6 ∷ Tick ∷ Switch 0 ∷ Call 0 2 Finish ∷ Pass 4
    ∷ Pass 2 ∷ Pass 1 ∷ Call 0 2 (Delay 1) ∷ Switch 0 ∷ Pass 2 ∷ Call 0 3 (Delay 1) ∷ Switch 0
    ∷ Pass 1 ∷ Tick ∷ Switch 0 ∷ Call 0 2 Finish ∷ []

-- ---- an answer

-- the tasks on a core each; task 2 is notified, and takes that
abbrev pub notified : Session
notified = record {
  header = record two_on_one_core {
    tasks = record { name = codes "A"; priority = 2; mask = 1 }
        ∷ record { name = codes "B"; priority = 1; mask = 2 } ∷ [];
  };
  steps = Interrupt 0 (known 2 Increment) ∷ Call 0 2 (NotifyTake true 1 0) ∷ Pass 10 ∷ Tick
      ∷ Pass 5 ∷ [];
}

-- the interrupt does not come
abbrev pub without_interrupt : List KeptEdit
without_interrupt = Plain (Remove 0) ∷ []

-- so the task waits for a tick in vain
abbrev pub in_vain : List Step
in_vain =
    Call 0 2 (NotifyTake true 1 0) ∷ Switch 0 ∷ Pass 10 ∷ Tick ∷ Switch 0 ∷ Call 0 2 Finish
    ∷ Pass 5 ∷ []

pub record WorkedKeptRuns : Type 0 where
  pub unedited : IsRunAfter [] as_it_was []
  pub with_a_core_alone : IsRunAfter on_its_own earlier []
  -- what task 3 does behind its delay is not known
  pub known_until_it_goes_on :
      known_until Oldest works on_its_own as_it_was earlier
      ≡ Some (record { place = 12; task = 3; reason = End })
  pub with_a_call_less :
      IsRunAfter without_a_call longer (record { task = 3; call = Delay 1 } ∷ [])
  pub with_work : IsRunAfter with_more_work later []
  pub without_notification :
      IsRunFrom (first_progress Oldest notified without_interrupt notified.steps) in_vain []
  -- what task 2 does where it was not notified is not known
  pub known_until_it_returns :
      known_until Oldest notified without_interrupt notified.steps in_vain
      ≡ Some (record { place = 6; task = 2; reason = Answer false })
