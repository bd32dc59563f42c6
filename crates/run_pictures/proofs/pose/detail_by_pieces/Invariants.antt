use Rattle.std.proofs.Common.{◌≡◌, ◌+◌, ◌≤◌}
use Rattle.std.specs.Prelude.{sum_by}
use Rattle.list_orders.specs.Search.{numbers}
use Rattle.run_pictures.specs.Limits.{max_pieces}
use Rattle.run_pictures.specs.Poses.{count_ready, pose_stretches}
use Rattle.run_pictures.proofs.pose.detail_by_pieces.Given as goal

abbrev pub invariant-loop-user : goal.invariant-loop-user
invariant-loop-user l =
    (l.pieces ≡ sum_by (λ user. count_ready (pose_stretches l.first l.looks (l.header.config.cores + user))) (numbers l.user)) × (l.pieces ≤ max_pieces)
