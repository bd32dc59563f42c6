use Rattle.std.proofs.Common.{◌++◌, ◌∷◌, ◌∙◌, [], ap, arith, cond}
use Rattle.simulating.specs.Notes.{is_under_way}
use Rattle.simulating.proofs.Grown.{filtered_more}
use Rattle.simulating.proofs.Told.{under_way_known}
use Rattle.simulating.proofs.notes.under_way.Goals as goal

pub loop-user-preserved : goal.loop-user-preserved
loop-user-preserved c =
    let user = c.loop-user.user in
    filtered_more (is_under_way c.args.workload.now c.args.at_end.now) user c.loop-user.users.items _ c.loop-user.invariant
    (c.in_ok-push_if.ensures ∙ ap (λ passes. c.loop-user.users.items ++ cond passes (user ∷ []) []) c.is_under_way.ensures)

pub returns : goal.returns
returns c =
    under_way_known c.args.workload.now c.args.at_end.now c.loop-user.user c.loop-user.users.items (omega (arith, c.loop-user.auto.user-end, c.loop-user-test.false))
    c.loop-user.invariant
