use Rattle.std.proofs.Common.{◌≡◌, ◌<◌, length, ap, subst, sym, ◌∙◌, None, Ok, arith}
use Rattle.std.proofs.lemmas.List.{get_or_default}
use Rattle.bench_types.specs.declared.step.Unfinished.TheVariants.{Made, Take, Transfer}
use Rattle.bench_types.specs.Step.{as_call, call_check}
use Rattle.bench_model.specs.State.{call_at}
use Rattle.bench_model.specs.Table.{Table}
use Rattle.slow_replay.proofs.slow.SlowTable.finish.Goals as goal

pub finish_take-requires-clause-mutex : goal.finish_take-requires-clause-mutex
finish_take-requires-clause-mutex c =
    let calls = ap (λ (t : Table). call_at t.calls c.args.task) c.self.view_is in
    let rows = ap (λ (t : Table). length t.orders.rows) c.self.view_is in
    let low : c.args.task < length c.self.inside.calls.items = omega (arith, rows, c.requires.task, c.self.invariant.rows, c.self.invariant.calls) in
    let there = c.index.ensures ∙ get_or_default c.self.inside.calls.items c.args.task c.index.result.now None low in
    c.requires.sound.calls c.args.task (Take c.in-Some-Take.mutex c.in-Some-Take.mark)
    (grind (arith, calls, there, c.in-Some-Take.is, c.in-Some-Take.field-0-is))

pub finish_transfer-requires-clause-queue : goal.finish_transfer-requires-clause-queue
finish_transfer-requires-clause-queue c =
    let calls = ap (λ (t : Table). call_at t.calls c.args.task) c.self.view_is in
    let rows = ap (λ (t : Table). length t.orders.rows) c.self.view_is in
    let low : c.args.task < length c.self.inside.calls.items = omega (arith, rows, c.requires.task, c.self.invariant.rows, c.self.invariant.calls) in
    let there = c.index.ensures ∙ get_or_default c.self.inside.calls.items c.args.task c.index.result.now None low in
    c.requires.sound.calls c.args.task (Transfer c.in-Some-Transfer.queue c.in-Some-Transfer.direction)
    (grind (arith, calls, there, c.in-Some-Transfer.is, c.in-Some-Transfer.field-0-is))

pub complete-requires-clause-checked : goal.complete-requires-clause-checked
complete-requires-clause-checked c =
    let calls = ap (λ (t : Table). call_at t.calls c.args.task) c.self.view_is in
    let rows = ap (λ (t : Table). length t.orders.rows) c.self.view_is in
    let low : c.args.task < length c.self.inside.calls.items = omega (arith, rows, c.requires.task, c.self.invariant.rows, c.self.invariant.calls) in
    let there = c.index.ensures ∙ get_or_default c.self.inside.calls.items c.args.task c.index.result.now None low in
    let checked = c.requires.sound.calls c.args.task (Made c.in-Some-Made.call) (grind (arith, calls, there, c.in-Some-Made.is, c.in-Some-Made.field-0-is)) in
    subst (λ settings. call_check settings (as_call c.in-Some-Made.call) ≡ Ok tt) (ap (λ (t : Table). t.settings) (sym c.end_call.ensures.ended)) checked.passes
