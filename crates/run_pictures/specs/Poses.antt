-- How tasks stand, and what is in their way.
use Rattle.std.specs.Prelude.{ℕ, ◌+◌, ◌-◌, ◌*◌, List, [], filter, length, map, sum_by, Bool, true, false, nat_le, nat_lt, slice_get, if◌then◌else◌}
use Rattle.std.specs.Option.{option_map_or}
use Rattle.bench_types.specs.declared.header.Header.{Header}
use Rattle.bench_model.specs.Table.{Table}
use Rattle.list_orders.specs.Search.{numbers}
use Rattle.run_views.specs.declared.look.Look.{Look}
use Rattle.run_pictures.specs.declared.pose.Detail.{Detail}
use Rattle.run_pictures.specs.declared.pose.Detail.TheVariants.{EachPlace, FirstPlace}
use Rattle.run_pictures.specs.declared.pose.Pose.{Pose}
use Rattle.run_pictures.specs.declared.stretch.Stretch.{Stretch}
use Rattle.run_pictures.specs.declared.stance.Stance.{Stance}
use Rattle.run_pictures.specs.declared.stance.Stance.TheVariants.{Runs, Ready, Blocked, Suspended}
use Rattle.run_pictures.specs.Hindrances.{hindrances_in, hindrances_of}
use Rattle.run_pictures.specs.Limits.{max_found, max_pieces}
use Rattle.run_pictures.specs.Same.{are_same_poses}
use Rattle.run_pictures.specs.TaskStretches.{stance_stretches}
use Rattle.run_pictures.specs.Stances.{stance_in, stance_of}
use Rattle.run_pictures.specs.StretchesOf.{stretches_of}

-- in a look
abbrev pub pose_in : ℕ → Look → Pose
pose_in task look =
    record { stance = stance_in task look; hindrances = hindrances_in task look }

-- in a state
abbrev pub pose_of : Table → ℕ → Pose
pose_of table task =
    record { stance = stance_of table task; hindrances = hindrances_of table task }

-- the stretches of how the task stands and of what is in its way
unfoldable pub pose_stretches : ℕ → List Look → ℕ → List (Stretch Pose)
pose_stretches first looks task = stretches_of are_same_poses first (map (pose_in task) looks)

abbrev pub stance_of_pose : Pose → Stance
stance_of_pose pose = pose.stance

-- a stretch of how the task stands, with what is in its way at the first place of it
abbrev pub opening : ℕ → List Look → ℕ → Stretch Stance → Stretch Pose
opening first looks task stretch = record {
  first = stretch.first;
  last = stretch.last;
  value = record {
    stance = stretch.value;
    hindrances = option_map_or (hindrances_in task) (slice_get looks (stretch.first - first)) [];
  };
}

abbrev pub openings : ℕ → List Look → ℕ → List (Stretch Stance) → List (Stretch Pose)
openings first looks task stretches = map (opening first looks task) stretches

-- the stretches of a task that are drawn
abbrev pub detailed_stretches : Detail → ℕ → List Look → ℕ → List (Stretch Pose)
detailed_stretches EachPlace first looks task = pose_stretches first looks task
detailed_stretches FirstPlace first looks task =
    openings first looks task (stance_stretches first looks task)

abbrev pub stands_ready : Stance → Bool
stands_ready Ready = true
stands_ready (Runs core) = false
stands_ready (Blocked wake cause) = false
stands_ready Suspended = false

-- how many of the stretches are of a ready task
abbrev pub count_ready : List (Stretch Pose) → ℕ
count_ready stretches = length (filter (λ stretch. stands_ready stretch.value.stance) stretches)

-- how many there are of all user tasks
abbrev pub pieces_of : Header → ℕ → List Look → ℕ
pieces_of header first looks =
    sum_by (λ user. count_ready (pose_stretches first looks (header.config.cores + user)))
    (numbers (length header.tasks))

-- as far as there are not too many
abbrev pub detail_by_pieces : Header → ℕ → List Look → Detail
detail_by_pieces header first looks =
    if nat_le (pieces_of header first looks) max_pieces then EachPlace else FirstPlace

-- how many hindrances there may be at all places
abbrev pub most_found : Header → List Look → ℕ
most_found header looks = length looks * (length header.tasks * header.config.cores)

-- What is in the way of ready tasks is told of each place, or, where that takes too many hindrances
-- or stretches, of the first place of each stretch at which a task is ready.
abbrev pub detail_for : Header → ℕ → List Look → Detail
detail_for header first looks =
    if nat_lt max_found (most_found header looks) then FirstPlace
    else detail_by_pieces header first looks
