-- The numbers of a subject, one step further.
use Rattle.std.specs.Prelude.{ℕ, ◌+◌, max, ◌==◌, Bool, nat_lt, if◌then◌else◌}
use Rattle.bench_types.specs.declared.reply.Reply.{Reply}
use Rattle.bench_types.specs.declared.step.Step.{Step}
use Rattle.bench_model.specs.Control.{task_at}
use Rattle.bench_model.specs.Lists.{View, list_queues}
use Rattle.bench_model.specs.Queues.{queue_at}
use Rattle.bench_model.specs.Tallied.{one_if}
use Rattle.step_times.specs.Times.{time_of}
use Rattle.run_numbers.specs.declared.event.BeforeStep.{BeforeStep}
use Rattle.run_numbers.specs.Gauge.{Gauge}
use Rattle.run_numbers.specs.declared.subject.Reading.{Reading}
use Rattle.run_numbers.specs.declared.subject.Subject.{Subject}
use Rattle.run_numbers.specs.declared.subject.Subject.TheVariants.{Time, Steps, TopPriority, MostMessages}
use Rattle.run_numbers.specs.AfterStep.{happens_after}
use Rattle.run_numbers.specs.Conditions.{holds}
use Rattle.run_numbers.specs.Readings.{only}

-- before any step
abbrev pub initial_gauge : ℕ → Gauge
initial_gauge total = record { reading = only total; stretch = 0; start = 0 }

-- the place, where no time of the stretch came before
abbrev pub start_after : ℕ → Gauge → ℕ
start_after place gauge = if gauge.stretch == 0 then place else gauge.start

-- the time of the stretch, with that of a step that finds the condition
abbrev pub stretch_after : ℕ → Gauge → ℕ
stretch_after time gauge = gauge.stretch + time

-- the numbers of a condition that holds
abbrev pub reading_after : ℕ → ℕ → Gauge → Reading
reading_after time place gauge = record {
  total = gauge.reading.total + time;
  longest = max gauge.reading.longest (stretch_after time gauge);
  from = if nat_lt gauge.reading.longest (stretch_after time gauge) then start_after place gauge
      else gauge.reading.from;
}

abbrev pub spell_after : Bool → ℕ → ℕ → Gauge → Gauge
spell_after holds time place gauge = record {
  reading = if holds then reading_after time place gauge else gauge.reading;
  stretch = if holds then stretch_after time gauge else 0;
  start = start_after place gauge;
}

-- with what the step finds at the place
abbrev pub found : View → Step → ℕ → Subject → Gauge → Gauge
found before step place (Time condition) gauge =
    spell_after (holds list_queues condition before) (time_of before.settings.units step) place
    gauge
found before step place subject gauge = gauge

abbrev pub with_total : ℕ → Gauge → Gauge
with_total total gauge = record gauge { reading = record gauge.reading { total = total } }

-- with what the step was, and the state after it
abbrev pub left : BeforeStep → Step → Reply → View → Subject → Gauge → Gauge
left before step reply after (Steps event) gauge =
    with_total
    (gauge.reading.total + one_if (happens_after event before step reply after.control)) gauge
left before step reply after (TopPriority task) gauge =
    with_total (max gauge.reading.total (task_at after.control task).in_use) gauge
left before step reply after (MostMessages queue) gauge =
    with_total (max gauge.reading.total (queue_at after.queues queue).messages) gauge
left before step reply after subject gauge = gauge
