-- What the steps of a run led to.
use Rattle.std.specs.Prelude.{◌≡◌, ℕ, ◌<◌, List, length, map}
use Rattle.bench_types.specs.declared.header.Header.{Header}
use Rattle.bench_types.specs.declared.reply.Reply.{Reply}
use Rattle.bench_types.specs.declared.step.Step.{Step}
use Rattle.bench_types.specs.Limits.{max_steps}
use Rattle.bench_types.specs.Session.{Session}
use Rattle.bench_types.specs.Step.{settings_of}
use Rattle.bench_model.specs.Control.{running}
use Rattle.bench_model.specs.Equal.{StandsFor}
use Rattle.bench_model.specs.Lists.{View}
use Rattle.bench_model.specs.Session.{state_after, state_at}
use Rattle.bench_model.specs.Sound.{IsSound}
use Rattle.bench_model.specs.Start.{start}
use Rattle.bench_model.specs.Tallied.{shape, shape_of}
use Rattle.segment_laws.specs.Segments.{IsReplayedFrom}
use Rattle.tallies.specs.Tops.{HasTops}
use Rattle.session_runs.specs.declared.outcomes.Outcome.{Outcome}
use Rattle.session_runs.specs.declared.outcomes.Outcomes.{Outcomes}

-- the tasks that run at a place of the session, core 0 first
abbrev pub row_at : Session → ℕ → List ℕ
row_at session place = running (state_at session.header session.steps place).control

abbrev pub reply_in : Outcome → Reply
reply_in outcome = outcome.reply

abbrev pub current_in : Outcome → ℕ
current_in outcome = outcome.current

-- what the steps led to from the start of the header on
pub record AreOutcomesOf (header : Header) (steps : List Step) (outcomes : Outcomes) : Type 0 where
  pub sound : IsSound (start header)
  pub first : outcomes.first.items ≡ running (start header).control
  pub replayed :
      IsReplayedFrom (start header) (settings_of header) steps (map reply_in outcomes.each.items)
      (map current_in outcomes.each.items) outcomes.tallies

-- that, with the kernel after the steps, which can make more
pub record IsMade (header : Header) (steps : List Step) (kernel : View) (outcomes : Outcomes)
    : Type 0 where
  pub outcomes_are : AreOutcomesOf header steps outcomes
  pub stands : StandsFor kernel (state_after (start header) steps)
  pub settings : kernel.settings ≡ settings_of header
  pub sizes : shape outcomes.tallies ≡ shape_of (settings_of header)
  pub tops : HasTops kernel.control outcomes.tallies

-- one step more is one of a session
pub record MayGoOn (kernel : View) (outcomes : Outcomes) : Type 0 where
  pub header : Header
  pub steps : List Step
  pub made : IsMade header steps kernel outcomes
  pub room : length steps < max_steps
