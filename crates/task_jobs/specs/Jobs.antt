-- The jobs of a task: what it does between two waits for work.
use Rattle.std.specs.Prelude.{ℕ, zero, suc, ◌-◌, ◌<◌, ◌==◌, Bool, not, ◌&&◌, ◌||◌, nat_lt, List, [], ◌∷◌, ◌++◌, map, filter, find, Option, is_some, option_map, if◌then◌else◌}
use Rattle.std.specs.List.{range_with_len}
use Rattle.std.specs.Option.{option_map_or}
use Rattle.list_orders.specs.Search.{numbers}
use Rattle.task_jobs.specs.Durations.{Thing}
use Rattle.task_jobs.specs.Course.{Course}

module _ (course : Course) where
  -- a job ends by the step at the place: the task asks for more work, or waits for work then
  abbrev pub ends_at : ℕ → Bool
  ends_at place =
      not (course.rests place) && (course.rests (suc place) || course.asks place)

  -- one begins at the place: at the start, or by the step before it, which brings what the task
  -- waited or asked for
  abbrev pub begins_at : ℕ → Bool
  begins_at zero = not (course.rests zero)
  begins_at (suc place) =
      not (course.rests (suc place)) && (course.rests place || course.asks place)

  -- the last place up to this one at which a job begins
  abbrev pub begin_at : ℕ → ℕ
  begin_at zero = zero
  begin_at (suc place) = if begins_at (suc place) then suc place else begin_at place

  -- the first place from there to this one at which the task has a core
  abbrev pub core_from : ℕ → Option ℕ
  core_from place =
      find (λ k. is_some (course.core k))
      (range_with_len (begin_at place) (suc place - begin_at place))

  -- A job that ends where its task goes on with an old wait was none: it had been woken in vain.
  abbrev pub is_job_end : ℕ → Bool
  is_job_end place = ends_at place && not (course.retakes place)

  -- the ends of jobs before the place
  abbrev pub ends_before : ℕ → List ℕ
  ends_before place = filter is_job_end (numbers place)

  -- how long the answer of a job takes that ends at the place, from its release on
  abbrev pub response_at : ℕ → Thing
  response_at place =
      (course.time place - course.release (begin_at place), begin_at place)

  -- how long it waits for a core, from its begin on
  abbrev pub latency_at : ℕ → Thing
  latency_at place = (
    option_map_or course.time (core_from place) (course.time place)
        - course.time (begin_at place),
    begin_at place,
  )

  -- the step at the place wakes the task, and one before it did, too
  abbrev pub is_next_wake : ℕ → Bool
  is_next_wake place = begins_at (suc place) && nat_lt 0 (begin_at place)

  -- the time from one wake to the next, which is that of the step at the place
  abbrev pub period_at : ℕ → Thing
  period_at place = (
    course.time (suc place) - course.time (begin_at place),
    begin_at place,
  )

  -- the times of jobs before the place
  abbrev pub responses : ℕ → List Thing
  responses place = map response_at (ends_before place)

  abbrev pub latencies : ℕ → List Thing
  latencies place = map latency_at (ends_before place)

  abbrev pub periods : ℕ → List Thing
  periods place = map period_at (filter is_next_wake (numbers place))

  -- and with those of a job that has not ended, up to the place
  abbrev pub all_responses : ℕ → List Thing
  all_responses place =
      responses place ++ (if course.rests place then [] else response_at place ∷ [])

  abbrev pub all_latencies : ℕ → List Thing
  all_latencies place =
      latencies place ++ (if course.rests place then [] else latency_at place ∷ [])
