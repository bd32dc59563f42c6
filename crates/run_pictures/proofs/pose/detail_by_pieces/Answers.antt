use Rattle.std.proofs.Common.{◌≡◌, ℕ, ◌+◌, length, false, nat_le, sym, ap, arith}
use Rattle.std.specs.Prelude.{sum_by, if◌then◌else◌}
use Rattle.std.proofs.lemmas.Bool.Decides.{nat_tests}
use Rattle.list_orders.specs.Search.{numbers}
use Rattle.run_pictures.specs.declared.pose.Detail.TheVariants.{EachPlace, FirstPlace}
use Rattle.run_pictures.specs.Limits.{max_pieces}
use Rattle.run_pictures.specs.Poses.{count_ready, pose_stretches}
use Rattle.run_pictures.proofs.Hindering.{pieces_more, too_many}
use Rattle.run_pictures.proofs.pose.detail_by_pieces.Goals as goal

pub returns-then-count-pieces : goal.returns-then-count-pieces
returns-then-count-pieces c =
    let f : ℕ → ℕ = λ user. count_ready (pose_stretches c.args.first c.args.looks.now (c.args.header.now.config.cores + user)) in
    let total = length c.args.header.now.tasks in
    let many = too_many f c.loop-user.user total max_pieces c.loop-user.pieces c.in_ok-count.count (omega (arith, ap length c.as_slice.ensures))
    c.loop-user.invariant.0 c.in_ok-count.ensures (omega arith) in
    let beyond : nat_le (sum_by f (numbers total)) max_pieces ≡ false = grind (arith, nat_tests, many) in
    ap (λ b. if b then EachPlace else FirstPlace) (sym beyond)

pub loop-user-preserved : goal.loop-user-preserved
loop-user-preserved c =
    let f : ℕ → ℕ = λ user. count_ready (pose_stretches c.args.first c.args.looks.now (c.args.header.now.config.cores + user)) in
    (pieces_more f c.loop-user.user c.loop-user.pieces c.in_ok-count.count c.loop-user.invariant.0 c.in_ok-count.ensures, omega arith)
