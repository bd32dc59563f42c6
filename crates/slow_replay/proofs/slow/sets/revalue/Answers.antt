use Rattle.std.proofs.Common.{◌≡◌, ◌+◌, ◌<◌, suc, length, set, get_or, refl, ap, ◌∙◌, arith}
use Rattle.std.proofs.lemmas.List.{get_or_default}
use Rattle.bench_types.specs.declared.kernel_data.Waiter.{Waiter}
use Rattle.bench_model.specs.Waiters.{with_value}
use Rattle.slow_replay.proofs.SlowWaiters.{changed_to, changed_length, changed_more, changed_all}
use Rattle.slow_replay.proofs.slow.sets.revalue.Goals as goal

pub loop-waiter-init : goal.loop-waiter-init
unfolding changed_to
loop-waiter-init c = refl

pub loop-waiter-preserved : goal.loop-waiter-preserved
loop-waiter-preserved c =
    let change = with_value c.args.task c.args.value in
    let at = c.loop-waiter.waiter-index in
    let now = c.loop-waiter.waiters in
    let first = c.args.waiters.now in
    let none : Waiter = record { task = 0; wait = record { list = 0; priority = 0 } } in
    let same = ap length c.loop-waiter.invariant ∙ changed_length change at first in
    let low : at < length now = omega (arith, c.loop-waiter-test.true, same) in
    let below : at < length first = omega (arith, low, same) in
    let here : suc at ≡ at + 1 = omega arith in
    ap (set now at) (c.with_value.ensures ∙ ap change (get_or_default now at _ none low))
    ∙ ap (λ ws. set ws at (change (get_or ws at none))) c.loop-waiter.invariant
    ∙ changed_more change at first none below ∙ ap (λ n. changed_to change n first) here

pub returns : goal.returns
returns c =
    let change = with_value c.args.task c.args.value in
    c.loop-waiter.invariant
    ∙ changed_all change c.loop-waiter.waiter-index c.args.waiters.now (omega (arith, c.loop-waiter-test.false))
