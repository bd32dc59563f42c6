-- The rows of the tasks.
use Rattle.std.specs.Prelude.{ℕ, ◌+◌, ◌-◌, ◌==◌, List, [], ◌++◌, flat_map, codes, decimal, Option, Some, None, if◌then◌else◌}
use Rattle.bench_types.specs.declared.cause.Cause.{Cause}
use Rattle.bench_types.specs.declared.cause.Cause.TheVariants as cause
use Rattle.bench_types.specs.declared.header.Header.{Header}
use Rattle.bench_types.specs.declared.step.Direction.{Direction}
use Rattle.bench_types.specs.declared.step.Direction.TheVariants.{Send, Receive}
use Rattle.bench_types.specs.Header.{name_of}
use Rattle.run_views.specs.declared.look.Look.{Look}
use Rattle.run_views.specs.declared.look.Standing.TheVariants as standing
use Rattle.run_views.specs.ChangeWords.{standing_text}
use Rattle.run_pictures.specs.declared.bar.Bar.{Bar}
use Rattle.run_pictures.specs.declared.bar.Letters.TheVariants.{Dark, Small}
use Rattle.run_pictures.specs.declared.frame.Frame.{Frame}
use Rattle.run_pictures.specs.declared.ink.Ink.{Ink}
use Rattle.run_pictures.specs.declared.ink.Ink.TheVariants as ink
use Rattle.run_pictures.specs.declared.pose.Detail.{Detail}
use Rattle.run_pictures.specs.declared.pose.Pose.{Pose}
use Rattle.run_pictures.specs.declared.shown.Priorities.{Priorities}
use Rattle.run_pictures.specs.declared.stretch.Stretch.{Stretch}
use Rattle.run_pictures.specs.declared.stance.Stance.{Stance}
use Rattle.run_pictures.specs.declared.stance.Stance.TheVariants.{Runs, Ready, Blocked, Suspended}
use Rattle.run_pictures.specs.Bar.{bar_text, label_text, over_text}
use Rattle.run_pictures.specs.HindranceWords.{hindered_text}
use Rattle.run_pictures.specs.Poses.{detailed_stretches}
use Rattle.run_pictures.specs.Preemption.{off_bars}
use Rattle.run_pictures.specs.TaskStretches.{priority_stretches}
use Rattle.run_pictures.specs.TaskNames.{task_name}

abbrev pub direction_text : Direction → List ℕ
direction_text Send = codes " to send"
direction_text Receive = codes " to receive"

abbrev pub cause_name : Cause → List ℕ
cause_name cause.Delay = codes "delay"
cause_name cause.Notification = codes "notification"
cause_name (cause.Mutex mutex) = codes "mutex " ++ decimal mutex
cause_name (cause.Queue queue direction) =
    codes "queue " ++ decimal queue ++ direction_text direction

abbrev pub reason_text : Option Cause → List ℕ
reason_text None = []
reason_text (Some cause) = codes " (" ++ cause_name cause ++ codes ")"

abbrev pub stance_text : Stance → List ℕ
stance_text (Runs core) = codes " runs on core " ++ decimal core
stance_text Ready = codes " ready"
stance_text (Blocked wake cause) = standing_text (standing.Blocked wake) ++ reason_text cause
stance_text Suspended = standing_text standing.Suspended

abbrev pub stance_words : Header → ℕ → Stretch Stance → List ℕ
stance_words header task stretch =
    over_text stretch.first stretch.last ++ name_of header task ++ stance_text stretch.value

abbrev pub stance_ink : ℕ → Stance → Ink
stance_ink user (Runs core) = ink.Runs user
stance_ink user Ready = ink.Ready user
stance_ink user (Blocked wake cause) = ink.Waits
stance_ink user Suspended = ink.Suspended

-- how far below the top of its row the bar begins
abbrev pub stance_down : Stance → ℕ
stance_down (Runs core) = 4
stance_down Ready = 8
stance_down (Blocked wake cause) = 15
stance_down Suspended = 13

abbrev pub stance_height : Stance → ℕ
stance_height (Runs core) = 16
stance_height Ready = 8
stance_height (Blocked wake cause) = 4
stance_height Suspended = 6

-- the bar of the user task of that index
abbrev pub stance_shape : ℕ → ℕ → Stretch Stance → Bar
stance_shape user y stretch = record {
  ink = stance_ink user stretch.value;
  first = stretch.first;
  last = stretch.last;
  y = y + stance_down stretch.value;
  height = stance_height stretch.value;
}

unfoldable pub blocked_label : Frame → ℕ → ℕ → ℕ → Option Cause → List ℕ
blocked_label frame y first last None = []
blocked_label frame y first last (Some cause) =
    label_text frame Small first last (y + 12) (cause_name cause)

abbrev pub label_of : Frame → ℕ → ℕ → ℕ → Stance → List ℕ
label_of frame y first last (Runs core) =
    label_text frame Dark first last (y + 16) (codes "core " ++ decimal core)
label_of frame y first last Ready = []
label_of frame y first last (Blocked wake cause) = blocked_label frame y first last cause
label_of frame y first last Suspended = []

-- the core on which the task runs, or what it waits for
unfoldable pub stance_label : Frame → ℕ → Stretch Stance → List ℕ
stance_label frame y stretch = label_of frame y stretch.first stretch.last stretch.value

-- the stretch without what is in the way
abbrev pub stance_stretch : Stretch Pose → Stretch Stance
stance_stretch stretch =
    record { first = stretch.first; last = stretch.last; value = stretch.value.stance }

abbrev pub pose_words : Header → ℕ → Detail → Stretch Pose → List ℕ
pose_words header task detail stretch =
    stance_words header task (stance_stretch stretch)
    ++ hindered_text header detail stretch.first stretch.value.hindrances

-- a stretch at which the task stands alike, and the same is in its way
unfoldable pub pose_bar : Header → Frame → ℕ → ℕ → Detail → Stretch Pose → List ℕ
pose_bar header frame y task detail stretch =
    bar_text frame (stance_shape (task - header.config.cores) y (stance_stretch stretch))
    (pose_words header task detail stretch)
    ++ stance_label frame y (stance_stretch stretch)

abbrev pub inherited_words : Header → ℕ → Stretch Priorities → List ℕ
inherited_words header task stretch =
    over_text stretch.first stretch.last ++ name_of header task ++ codes " priority in use "
    ++ decimal stretch.value.in_use ++ codes ", base priority " ++ decimal stretch.value.base

-- a stretch at which the task has a priority in use that is not its own
unfoldable pub inherited_bar : Header → Frame → ℕ → ℕ → Stretch Priorities → List ℕ
inherited_bar header frame y task stretch =
    if stretch.value.in_use == stretch.value.base then []
    else bar_text frame (record {
      ink = ink.Inherited;
      first = stretch.first;
      last = stretch.last;
      y = y + 20;
      height = 3;
    }) (inherited_words header task stretch)

-- the row of a task
unfoldable pub task_row : Header → Frame → ℕ → List Look → Detail → ℕ → List ℕ
task_row header frame y looks detail task =
    task_name header frame.first y looks task
    ++ flat_map (pose_bar header frame y task detail)
    (detailed_stretches detail frame.first looks task)
    ++ flat_map (inherited_bar header frame y task) (priority_stretches frame.first looks task)
    ++ off_bars header frame y looks task
