-- The numbers of a subject so far, without the time since its condition holds.
use Rattle.std.specs.Prelude.{ℕ, ◌+◌, ◌-◌, ◌<◌, ◌≤◌, ◌^◌, max, length, slice_index, Bool, nat_lt, Some, None, unwrap_or, if◌then◌else◌, ⊤}
use Rattle.std.specs.Option.{option_map_or, ForSome}
use Rattle.bench_types.specs.declared.reply.Reply.{Reply}
use Rattle.bench_types.specs.declared.step.Step.{Step}
use Rattle.bench_model.specs.Control.{task_at}
use Rattle.bench_model.specs.Lists.{View, list_queues}
use Rattle.bench_model.specs.Queues.{queue_at}
use Rattle.bench_model.specs.Tallied.{one_if}
use Rattle.run_numbers.specs.declared.counter.Counter.{Counter}
use Rattle.run_numbers.specs.declared.counter.Since.{Since}
use Rattle.run_numbers.specs.declared.counter.Made.{Made}
use Rattle.run_numbers.specs.declared.event.BeforeStep.{BeforeStep}
use Rattle.run_numbers.specs.declared.subject.Reading.{Reading}
use Rattle.run_numbers.specs.declared.subject.Subject.{Subject}
use Rattle.run_numbers.specs.declared.subject.Subject.TheVariants.{Time, Steps, TopPriority, MostMessages}
use Rattle.run_numbers.specs.AfterStep.{happens_after}
use Rattle.run_numbers.specs.Conditions.{holds}
use Rattle.run_numbers.specs.Past.{Past, past}
use Rattle.run_numbers.specs.Readings.{only}

-- from now on
abbrev pub since_now : Past → Since
since_now so_far = record { elapsed = so_far.elapsed; index = length so_far.places }

-- before any step
abbrev pub first_counter : ℕ → Bool → Counter
first_counter total holds = record {
  reading = only total;
  since = if holds then Some (record { elapsed = 0; index = 0 }) else None;
}

-- the time since then
abbrev pub time_since : Past → Since → ℕ
time_since so_far since = so_far.elapsed - since.elapsed

-- with one stretch more: the time since then
abbrev pub with_stretch : Reading → Past → Since → Reading
with_stretch reading so_far since = record {
  total = reading.total + time_since so_far since;
  longest = max reading.longest (time_since so_far since);
  from = if nat_lt reading.longest (time_since so_far since)
      then slice_index so_far.places since.index else reading.from;
}

-- the numbers with the time since the condition holds
abbrev pub told : Past → Counter → Reading
told so_far counter =
    option_map_or (with_stretch counter.reading so_far) counter.since counter.reading

-- the condition holds now, or not
abbrev pub seen : Bool → Past → Counter → Counter
seen holds so_far counter = record {
  reading = if holds then counter.reading else told so_far counter;
  since = if holds then Some (unwrap_or counter.since (since_now so_far)) else None;
}

abbrev pub with_total : ℕ → Counter → Counter
with_total total counter =
    record counter { reading = record counter.reading { total = total } }

-- after a step: with what the step was, and what holds after it
abbrev pub took : BeforeStep → Step → Reply → View → Past → Subject → Counter → Counter
took before step reply after so_far (Time condition) counter =
    seen (holds list_queues condition after) so_far counter
took before step reply after so_far (Steps event) counter =
    with_total
    (counter.reading.total + one_if (happens_after event before step reply after.control)) counter
took before step reply after so_far (TopPriority task) counter =
    with_total (max counter.reading.total (task_at after.control task).in_use) counter
took before step reply after so_far (MostMessages queue) counter =
    with_total (max counter.reading.total (queue_at after.queues queue).messages) counter
took before step reply after so_far subject counter = counter

-- the time so far, with that of the step
abbrev pub past_of : Made → Past
past_of made = past made.elapsed made.places.now

abbrev pub took_in : Made → Subject → Counter → Counter
took_in made =
    took made.before made.step.now made.reply made.after.now (past_of made)

-- the time since then can be counted, and some place has the first of it
pub record HasRoomFrom (so_far : Past) (reading : Reading) (since : Since) : Type 0 where
  pub order : since.elapsed ≤ so_far.elapsed
  pub begun : since.elapsed < so_far.elapsed → since.index < length so_far.places
  pub total : reading.total + time_since so_far since < 2 ^ 64

-- the numbers can be told
pub record HasRoom (so_far : Past) (counter : Counter) : Type 0 where
  pub few : length so_far.places < 2 ^ 32
  pub little : so_far.elapsed < 2 ^ 64
  pub opened : ForSome counter.since (HasRoomFrom so_far counter.reading)

-- one step more can be counted
abbrev pub HasRoomFor : Past → Subject → Counter → Type 0
HasRoomFor so_far (Time condition) counter = HasRoom so_far counter
HasRoomFor so_far (Steps event) counter = counter.reading.total < 2 ^ 64 - 1
HasRoomFor so_far subject counter = ⊤
