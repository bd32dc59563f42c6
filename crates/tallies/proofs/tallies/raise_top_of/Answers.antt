use Rattle.std.proofs.Common.{◌<◌, ℕ, length, refl, subst, sym, ◌∙◌, arith}
use Rattle.std.specs.Prelude.{IfSome}
use Rattle.bench_model.specs.Tallied.{tally_at}
use Rattle.tallies.specs.Tops.{HasOtherTops}
use Rattle.tallies.proofs.Tops.{topped_none, topped_one}
use Rattle.tallies.proofs.tallies.raise_top_of.Goals as goal

pub returns-in-Some : goal.returns-in-Some
returns-in-Some c =
    let tasks = c.args.tasks.now in
    let control = c.args.kernel.now.control in
    let task = c.in-Some.task in
    let inside : task < c.args.kernel.now.settings.tasks = subst (λ raised. IfSome raised (λ (task : ℕ). task < c.args.kernel.now.settings.tasks)) c.in-Some.is
    c.requires.raised in
    let low : task < length tasks = omega (arith, c.requires.tasks, inside) in
    c.raise_top.ensures
    ∙ sym (topped_one control task tasks (tally_at tasks task) low refl (subst (λ raised. HasOtherTops raised control tasks) c.in-Some.is c.requires.tops))

pub returns-in_default : goal.returns-in_default
returns-in_default c =
    let tasks = c.args.tasks.now in
    let control = c.args.kernel.now.control in
    sym (topped_none control tasks (subst (λ raised. HasOtherTops raised control tasks) c.in_default.is c.requires.tops))
