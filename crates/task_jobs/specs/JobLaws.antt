-- Jobs tile what a task does.
use Rattle.std.specs.Prelude.{◌≡◌, ℕ, ◌<◌, ◌≤◌, true, false}
use Rattle.task_jobs.specs.Course.{Course}
use Rattle.task_jobs.specs.Jobs.{begin_at, begins_at, ends_at}

-- the job that begins at a place has not ended before the other
pub record IsInJob (course : Course) (begin place : ℕ) : Type 0 where
  pub begins : begins_at course begin ≡ true
  pub order : begin ≤ place
  pub goes_on : (k : ℕ) → begin ≤ k → k < place → ends_at course k ≡ false

-- a place at which the task does not wait for work is in one job, and in no other
pub record IsInOneJob (course : Course) (place : ℕ) : Type 0 where
  pub one : IsInJob course (begin_at course place) place
  pub only : (begin : ℕ) → IsInJob course begin place → begin ≡ begin_at course place

-- so jobs tile the places at which it does not, and no other place
pub record JobsTile : Type 0 where
  pub work : (course : Course) (place : ℕ) → course.rests place ≡ false
      → IsInOneJob course place
  pub rest : (course : Course) (place begin : ℕ) → course.rests place ≡ true
      → IsInJob course begin place → ⊥
