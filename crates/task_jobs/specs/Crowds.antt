-- How long tasks wait for one thing, all of them together.
use Rattle.std.specs.Prelude.{◌≡◌, ℕ, suc, ◌+◌, ◌-◌, ◌*◌, ◌^◌, ◌≤◌, min}
use Rattle.std.specs.List.{sum_by}
use Rattle.list_orders.specs.Search.{numbers}
use Rattle.task_jobs.specs.declared.crowd.Crowd.{Crowd}

-- what is known of them at each place of a run
pub record Waiters : Type 0 where
  -- how many wait at the place
  pub count : ℕ → ℕ
  -- the time before the place
  pub time : ℕ → ℕ

-- a time that is greater than a number of 64 bits can be is the greatest of these
abbrev pub at_most : ℕ → ℕ
at_most time = min time (2 ^ 64 - 1)

-- the time of all of them before the place: each step takes its time of each that waits
abbrev pub waited : Waiters → ℕ → ℕ
waited waiters place = at_most
    (sum_by (λ k. waiters.count k * (waiters.time (suc k) - waiters.time k)) (numbers place))

-- so many wait from the start on
abbrev pub first_crowd : ℕ → Crowd
first_crowd tasks = record { tasks = tasks; total = 0; since = 0 }

-- the time of all so far
abbrev pub told : ℕ → Crowd → ℕ
told now crowd = at_most (crowd.total + crowd.tasks * (now - crowd.since))

-- so many wait from now on
abbrev pub with_count : ℕ → ℕ → Crowd → Crowd
with_count tasks now crowd = record { tasks = tasks; total = told now crowd; since = now }

-- the crowd is the one of the place
pub record IsCrowdAt (waiters : Waiters) (place : ℕ) (crowd : Crowd) : Type 0 where
  pub tasks : crowd.tasks ≡ waiters.count place
  pub total : told (waiters.time place) crowd ≡ waited waiters place
  pub since : crowd.since ≤ waiters.time place

-- from one place to the next, where as many wait then, and no other time is told
pub record GoesOn (waiters : Waiters) (place : ℕ) (before after : Crowd) : Type 0 where
  pub tasks : after.tasks ≡ waiters.count (suc place)
  pub time : waiters.time place ≤ waiters.time (suc place)
  pub since : after.since ≤ waiters.time (suc place)
  pub told : told (waiters.time (suc place)) after ≡ told (waiters.time (suc place)) before

-- the crowd of the start, where no time has passed then
abbrev pub CrowdBegins : Type 0
CrowdBegins =
    (waiters : Waiters) → waiters.time 0 ≡ 0
    → IsCrowdAt waiters 0 (first_crowd (waiters.count 0))

-- and the one of the next place
abbrev pub CrowdGoesOn : Type 0
CrowdGoesOn =
    (waiters : Waiters) (place : ℕ) (before after : Crowd) → IsCrowdAt waiters place before
    → GoesOn waiters place before after → IsCrowdAt waiters (suc place) after

-- who comes or goes takes no time away
abbrev pub CountKeepsTime : Type 0
CountKeepsTime =
    (tasks now : ℕ) (crowd : Crowd) → told now (with_count tasks now crowd) ≡ told now crowd
