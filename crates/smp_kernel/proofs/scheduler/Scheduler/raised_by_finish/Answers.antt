use Rattle.std.proofs.Common.{◌≡◌, ◌<◌, length, None, Some, sym, ap, ◌∙◌, arith}
use Rattle.std.proofs.lemmas.List.{get_or_default}
use Rattle.bench_types.specs.declared.step.Unfinished.TheVariants.{Take}
use Rattle.bench_model.specs.State.{call_at}
use Rattle.bench_model.specs.Lists.{View}
use Rattle.smp_kernel.proofs.scheduler.Scheduler.raised_by_finish.Goals as goal

pub holder-requires : goal.holder-requires
holder-requires c =
    let calls = c.self.inside.calls.items in
    let low : c.args.task < length calls = omega (arith, c.requires.task, c.self.invariant.calls, ap (λ (view : View). view.settings.tasks) c.self.view_is) in
    let call : call_at c.args.self.now.calls c.args.task ≡ Some (Take c.in-Some-Take.mutex c.in-Some-Take.field-0-1) =
    ap (λ (view : View). call_at view.calls c.args.task) (sym c.self.view_is)
    ∙ get_or_default calls c.args.task None c.index.result.now low ∙ sym c.index.ensures ∙ c.in-Some-Take.is ∙ ap Some
    (rw c.in-Some-Take.is at c.in-Some-Take.field-0-is) in
    let below = c.requires.calls c.args.task _ call in
    omega (arith, below, c.self.invariant.holders, ap (λ (view : View). view.settings.mutexes) c.self.view_is)
