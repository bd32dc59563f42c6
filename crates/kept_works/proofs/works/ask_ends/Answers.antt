use Rattle.std.proofs.Common.{◌+◌, ℕ, refl}
use Rattle.kept_works.proofs.Loops.{numbers_none, numbers_on}
use Rattle.kept_works.proofs.works.ask_ends.Goals as goal

pub loop-user-init : goal.loop-user-init
loop-user-init c = numbers_none (λ (user : ℕ). record { task = c.args.cores + user; place = c.args.end }) c.args.asked.now.items

pub loop-user-preserved : goal.loop-user-preserved
loop-user-preserved c =
    numbers_on (λ (user : ℕ). record { task = c.args.cores + user; place = c.args.end }) c.loop-user.user c.args.asked.now.items c.loop-user.asked.items _ _
    c.loop-user.invariant c.in_ok-push.ensures.items refl
