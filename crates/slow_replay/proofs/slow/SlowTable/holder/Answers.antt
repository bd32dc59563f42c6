use Rattle.std.proofs.Common.{◌≡◌, ℕ, ◌<◌, Option, Some, None, IfSome, length, refl, arith, ◌∙◌, sym, ap}
use Rattle.std.proofs.lemmas.List.{get_or_default}
use Rattle.bench_model.specs.Table.{Table}
use Rattle.slow_replay.proofs.slow.SlowTable.holder.Goals as goal

if_below : (holder : Option ℕ) (n : ℕ) → ((task : ℕ) → holder ≡ Some task → task < n) → IfSome holder (λ task. task < n)
if_below None n below = tt
if_below (Some task) n below = below task refl

pub returns-clause-task : goal.returns-clause-task
returns-clause-task c =
    let mutexes = ap (λ (t : Table). t.settings.mutexes) c.self.view_is in
    let rows = ap (λ (t : Table). length t.orders.rows) c.self.view_is in
    let there = c.index.ensures ∙ get_or_default c.self.inside.holders.items c.args.mutex c.index.result.now None
    (omega (arith, mutexes, c.requires, c.self.invariant.holders)) in
    if_below c.index.result.now _ (λ task held. omega (arith, c.self.invariant.held_by_tasks c.args.mutex task (sym there ∙ held), c.self.invariant.rows, rows))
