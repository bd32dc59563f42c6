-- What a run tells of one step: its words, and what it led to.
use Rattle.std.specs.Prelude.{ℕ, suc, List, [], ◌++◌, flat_map, codes, Option, Some, slice_get}
use Rattle.bench_types.specs.declared.header.Header.{Header}
use Rattle.bench_types.specs.declared.reply.Reply.{Reply}
use Rattle.bench_types.specs.declared.reply.Reply.TheVariants.{Done, Blocked}
use Rattle.bench_types.specs.declared.step.Step.{Step}
use Rattle.bench_types.specs.Header.{name_of}
use Rattle.bench_types.specs.Session.{Session}
use Rattle.bench_model.specs.Session.{reply_at, running_at}
use Rattle.run_views.specs.ReplyWords.{reply_words}
use Rattle.run_views.specs.StepWords.{step_text}

pub record Words : Type 0 where
  -- the step
  pub words : List ℕ
  -- its reply, and the tasks that are on the cores then
  pub outcome : List ℕ

-- the reply, in short where a code says all
abbrev pub printed_reply : Header → Step → Reply → List ℕ
printed_reply header step Done = codes "done"
printed_reply header step Blocked = codes "blocked"
printed_reply header step reply = reply_words header step reply

abbrev pub task_part : Header → ℕ → List ℕ
task_part header task = codes " " ++ name_of header task

-- the tasks, core by core
abbrev pub tasks_part : Header → List ℕ → List ℕ
tasks_part header tasks = flat_map (task_part header) tasks

abbrev pub outcome_text : Header → Step → Reply → List ℕ → List ℕ
outcome_text header step reply tasks =
    printed_reply header step reply ++ codes ";" ++ tasks_part header tasks

abbrev pub printed_of : Header → Step → Reply → List ℕ → Words
printed_of header step reply tasks = record {
  words = step_text header step;
  outcome = outcome_text header step reply tasks;
}

abbrev pub no_step : Words
no_step = record { words = []; outcome = [] }

-- of a step, its reply and the tasks after it, which are all there or none of them
abbrev pub printed_with : Header → Option Step → Option Reply → Option (List ℕ) → Words
printed_with header (Some step) (Some reply) (Some tasks) = printed_of header step reply tasks
printed_with header _ _ _ = no_step

-- what the run of the session tells of its step at a place; nothing past the last
abbrev pub printed_at : Session → ℕ → Words
printed_at session place =
    printed_with session.header (slice_get session.steps place)
    (reply_at session.header session.steps place)
    (running_at session.header session.steps (suc place))
