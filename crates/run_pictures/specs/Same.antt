-- Whether what bands show is the same.
use Rattle.std.specs.Prelude.{Bool, true, false, ◌&&◌, ◌==◌}
use Rattle.bench_model.specs.SameTest.{are_same_bools, are_same_lists, are_same_options}
use Rattle.run_views.specs.Changes.{are_same_causes, are_same_numbers}
use Rattle.run_pictures.specs.declared.hindrance.Hindrance.{Hindrance}
use Rattle.run_pictures.specs.declared.hindrance.Obstacle.{Obstacle}
use Rattle.run_pictures.specs.declared.hindrance.Obstacle.TheVariants as obstacle
use Rattle.run_pictures.specs.declared.pose.Pose.{Pose}
use Rattle.run_pictures.specs.declared.shown.Due.{Due}
use Rattle.run_pictures.specs.declared.shown.Priorities.{Priorities}
use Rattle.run_pictures.specs.declared.stance.Stance.{Stance}
use Rattle.run_pictures.specs.declared.stance.Stance.TheVariants.{Runs, Ready, Blocked, Suspended}
use Rattle.run_pictures.specs.declared.task_names.Terms.{Terms}

abbrev pub are_same_dues : Due → Due → Bool
are_same_dues a b = are_same_bools a.pend b.pend && are_same_bools a.asked b.asked

abbrev pub are_same_priorities : Priorities → Priorities → Bool
are_same_priorities a b = a.in_use == b.in_use && a.base == b.base

abbrev pub are_same_terms : Terms → Terms → Bool
are_same_terms a b = a.base == b.base && a.mask == b.mask

abbrev pub are_same_stances : Stance → Stance → Bool
are_same_stances (Runs core) (Runs other) = core == other
are_same_stances Ready Ready = true
are_same_stances (Blocked wake cause) (Blocked other reason) =
    are_same_numbers wake other && are_same_options are_same_causes cause reason
are_same_stances Suspended Suspended = true
are_same_stances a b = false

abbrev pub are_same_obstacles : Obstacle → Obstacle → Bool
are_same_obstacles obstacle.Masked obstacle.Masked = true
are_same_obstacles (obstacle.Held holder) (obstacle.Held other) = holder == other
are_same_obstacles obstacle.Due obstacle.Due = true
are_same_obstacles (obstacle.Unpreempted task priority) (obstacle.Unpreempted other level) =
    task == other && priority == level
are_same_obstacles (obstacle.Outranked task priority) (obstacle.Outranked other level) =
    task == other && priority == level
are_same_obstacles (obstacle.Lower task priority) (obstacle.Lower other level) =
    task == other && priority == level
are_same_obstacles a b = false

abbrev pub are_same_hindrances : Hindrance → Hindrance → Bool
are_same_hindrances a b = a.core == b.core && are_same_obstacles a.by b.by

abbrev pub are_same_poses : Pose → Pose → Bool
are_same_poses a b =
    are_same_stances a.stance b.stance
    && are_same_lists are_same_hindrances a.hindrances b.hindrances
