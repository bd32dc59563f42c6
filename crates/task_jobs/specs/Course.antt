-- What is known of a task at each place of a run.
use Rattle.std.specs.Prelude.{ℕ, Bool, Option}

pub record Course : Type 0 where
  -- it waits for work at the place
  pub rests : ℕ → Bool
  -- it asks for work by the step at the place
  pub asks : ℕ → Bool
  -- it goes on by that step with a wait that a wake has not ended
  pub retakes : ℕ → Bool
  -- the core that it has at the place, if it has one
  pub core : ℕ → Option ℕ
  -- it is ready at the place
  pub ready : ℕ → Bool
  -- the step at the place is a tick
  pub ticks : ℕ → Bool
  -- it ends a wait by that step, and did not get what it waited for
  pub in_vain : ℕ → Bool
  -- it is in a call at the place, which has not returned
  pub in_call : ℕ → Bool
  -- the mutex that this call takes, if it takes one
  pub takes : ℕ → Option ℕ
  -- the time before the place
  pub time : ℕ → ℕ
  -- when a job that begins at the place was asked for
  pub release : ℕ → ℕ
