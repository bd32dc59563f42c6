use Rattle.std.proofs.Common.{◌++◌, ◌∷◌, ◌∙◌, [], ap, arith, cond}
use Rattle.simulating.specs.Notes.{has_ended}
use Rattle.simulating.proofs.Grown.{filtered_more}
use Rattle.simulating.proofs.Told.{ended_known}
use Rattle.simulating.proofs.notes.ended.Goals as goal

pub loop-user-preserved : goal.loop-user-preserved
loop-user-preserved c =
    let user = c.loop-user.user in
    filtered_more (has_ended c.args.at_end.now) user c.loop-user.users.items _ c.loop-user.invariant
    (c.in_ok-push_if.ensures ∙ ap (λ passes. c.loop-user.users.items ++ cond passes (user ∷ []) []) c.has_ended.ensures)

pub returns : goal.returns
returns c =
    ended_known c.args.at_end.now c.loop-user.user c.loop-user.users.items (omega (arith, c.loop-user.auto.user-end, c.loop-user-test.false))
    c.loop-user.invariant
