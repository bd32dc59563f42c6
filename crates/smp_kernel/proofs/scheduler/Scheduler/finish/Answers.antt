use Rattle.std.proofs.Common.{◌≡◌, ◌<◌, length, None, Some, Ok, sym, ap, subst, ◌∙◌, arith}
use Rattle.bench_types.specs.Step.{as_call, call_check}
use Rattle.std.proofs.lemmas.List.{get_or_default}
use Rattle.bench_types.specs.declared.step.Unfinished.TheVariants.{Made, Take, Transfer}
use Rattle.bench_model.specs.State.{call_at}
use Rattle.bench_model.specs.Lists.{View}
use Rattle.smp_kernel.proofs.scheduler.Scheduler.finish.Goals as goal

pub complete-requires-clause-checked : goal.complete-requires-clause-checked
complete-requires-clause-checked c =
    let calls = c.self.inside.calls.items in
    let low : c.args.task < length calls = omega (arith, c.requires.task, c.self.invariant.calls, ap (λ (view : View). view.settings.tasks) c.self.view_is) in
    let call : call_at c.args.self.now.calls c.args.task ≡ Some (Made c.in-Made.call) =
    ap (λ (view : View). call_at view.calls c.args.task) (sym c.self.view_is)
    ∙ get_or_default calls c.args.task None c.index.result.now low ∙ sym c.index.ensures ∙ c.in-Some.is ∙ ap Some c.in-Made.is in
    subst (λ settings. call_check settings (as_call c.in-Made.call) ≡ Ok tt) (ap (λ (view : View). view.settings) (sym c.end_call.ensures))
    (c.requires.calls c.args.task (Made c.in-Made.call) call).passes

pub finish_take-requires-clause-mutex : goal.finish_take-requires-clause-mutex
finish_take-requires-clause-mutex c =
    let calls = c.self.inside.calls.items in
    let low : c.args.task < length calls = omega (arith, c.requires.task, c.self.invariant.calls, ap (λ (view : View). view.settings.tasks) c.self.view_is) in
    let call : call_at c.args.self.now.calls c.args.task ≡ Some (Take c.in-Take.mutex c.in-Take.mark) =
    ap (λ (view : View). call_at view.calls c.args.task) (sym c.self.view_is)
    ∙ get_or_default calls c.args.task None c.index.result.now low ∙ sym c.index.ensures ∙ c.in-Some.is ∙ ap Some c.in-Take.is in
    c.requires.calls c.args.task _ call

pub finish_transfer-requires-clause-queue : goal.finish_transfer-requires-clause-queue
finish_transfer-requires-clause-queue c =
    let calls = c.self.inside.calls.items in
    let low : c.args.task < length calls = omega (arith, c.requires.task, c.self.invariant.calls, ap (λ (view : View). view.settings.tasks) c.self.view_is) in
    let call : call_at c.args.self.now.calls c.args.task ≡ Some (Transfer c.in-Transfer.queue c.in-Transfer.direction) =
    ap (λ (view : View). call_at view.calls c.args.task) (sym c.self.view_is)
    ∙ get_or_default calls c.args.task None c.index.result.now low ∙ sym c.index.ensures ∙ c.in-Some.is ∙ ap Some c.in-Transfer.is in
    c.requires.calls c.args.task _ call
