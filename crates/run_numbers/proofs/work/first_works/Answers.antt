use Rattle.std.proofs.Common.{◌≡◌, ◌++◌, ◌∷◌, [], List, ap, ap₂, sym, ◌∙◌, arith}
use Rattle.std.proofs.lemmas.List.FromFn.{map-range_with_len_more}
use Rattle.task_jobs.specs.declared.work.Work.{Work}
use Rattle.task_jobs.specs.Works.{first_work}
use Rattle.run_numbers.specs.Turns.{work_before}
use Rattle.run_numbers.proofs.work.first_works.Goals as goal

pub loop-task-preserved : goal.loop-task-preserved
loop-task-preserved c =
    let kernel = c.args.kernel.now in
    let task = c.loop-task.task in
    let one : c.start.result ≡ work_before kernel task = c.start.ensures ∙ ap first_work c.first_of.ensures in
    c.in_ok-push.ensures.items ∙ ap₂ (λ (works : List Work) (work : Work). works ++ work ∷ []) c.loop-task.invariant one
    ∙ sym (map-range_with_len_more (work_before kernel) 0 task task (omega arith))
