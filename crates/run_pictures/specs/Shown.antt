-- A run as it is drawn.
use Rattle.std.specs.Prelude.{ℕ, ◌+◌, ◌<◌, ◌≤◌, ◌^◌, List, Option, length}
use Rattle.bench_types.specs.declared.header.Header.{Header}
use Rattle.bench_types.specs.Limits.{max_cores, max_queues, max_tasks}
use Rattle.run_pictures.specs.declared.run_looks.RunLooks.{RunLooks}
use Rattle.run_pictures.specs.declared.frame.Frame.{Frame}
use Rattle.run_pictures.specs.declared.panel.Panel.{Panel}
use Rattle.run_pictures.specs.QueueLines.{queues_of}

pub record Shown : Type 0 where
  pub header : Header
  -- where its places stand
  pub frame : Frame
  -- what is seen at them
  pub run_looks : RunLooks
  -- the time before each place of the run
  pub times : List ℕ
  -- from which place on it is not known what tasks do
  pub known : Option ℕ

abbrev pub shown : Panel → Shown
shown panel = record {
  header = panel.header.now;
  frame = panel.frame;
  run_looks = panel.run_looks;
  times = panel.times;
  known = panel.known;
}

-- its places have numbers of 32 bits, and it has no more cores, tasks and queues than a session may
-- have
pub record IsNumbered (shown : Shown) : Type 0 where
  pub places : shown.frame.first + length shown.run_looks.looks ≤ 2 ^ 32
  pub looks : length shown.run_looks.looks < 2 ^ 32
  pub cores : shown.header.config.cores ≤ max_cores
  pub tasks : length shown.header.tasks ≤ max_tasks
  pub queues : queues_of shown.header ≤ max_queues
