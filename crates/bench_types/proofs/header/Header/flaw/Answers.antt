use Rattle.std.proofs.Common.{◌≡◌, None, length, ◌<◌, ◌^◌, arith, ap, sym, ◌∙◌, subst}
use Rattle.std.specs.Prelude.{All, IfNone}
use Rattle.bench_types.specs.declared.header.TaskArgs.{TaskArgs}
use Rattle.bench_types.specs.Flaw.{args_flaw, header_flaw, numbers_flaw}
use Rattle.bench_types.proofs.Passes.{checked_where, tasks_decide}
use Rattle.bench_types.proofs.header.Header.flaw.Goals as goal

pub returns-in-None-clause-checked : goal.returns-in-None-clause-checked
returns-in-None-clause-checked c =
    let header = c.args.self.now in
    let same = c.as_slice-tasks.ensures in
    let none : numbers_flaw header.config header.queues (length header.tasks) ≡ None = sym (ap (λ tasks. numbers_flaw header.config header.queues (length tasks)) same) ∙ sym c.flaw.ensures
    ∙ c.in-None.is in
    let is : c.args_flaw.result ≡ header_flaw header = c.args_flaw.ensures.value ∙ ap (args_flaw header.config) same ∙ sym (tasks_decide header none) in
    checked_where header c.args_flaw.result is (omega (arith)) (subst (λ tasks. IfNone c.args_flaw.result (All (λ (task : TaskArgs). task.mask < 2 ^ 32) tasks))
    same c.args_flaw.ensures.words)
