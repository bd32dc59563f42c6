use Rattle.std.proofs.Common.{◌≡◌, ℕ, ◌+◌, ◌∙◌, slice_set, false, get_or, length, sym, ap, subst, arith}
use Rattle.session_laws.proofs.Tallies.{each_at, length_each}
use Rattle.smp_kernel.specs.Kernel.{wants_core}
use Rattle.bench_model.specs.Tally.{TaskTally}
use Rattle.bench_model.specs.Tallied.{tally_at}
use Rattle.tallies.specs.Counting.{waited, with_wait}
use Rattle.tallies.proofs.Additions.{nothing}
use Rattle.tallies.proofs.InPlace.{IsSetTo, set_all, set_more}
use Rattle.tallies.proofs.tallies.add_waits.Goals as goal

pub bounds-wanting-task : goal.bounds-wanting-task
bounds-wanting-task c =
    let kernel = c.args.kernel.now in
    omega (
      arith,
      c.loop-task-test.true,
      c.len-task-end.ensures,
      c.requires.tasks,
      ap length c.wants_core-wanting.ensures,
      length_each (wants_core kernel)
          kernel.settings.tasks,
    )

pub loop-task-preserved : goal.loop-task-preserved
loop-task-preserved c =
    let kernel = c.args.kernel.now in
    let old = c.args.tasks.now in
    let now = c.loop-task.tasks in
    let task = c.loop-task.task in
    let f : ℕ → TaskTally = λ task. with_wait (wants_core kernel task) (tally_at old task) in
    let waits : get_or c.wants_core-wanting.result.now task false ≡ wants_core kernel task =
    ap (λ flags. get_or flags task false) c.wants_core-wanting.ensures ∙ each_at (wants_core kernel) kernel.settings.tasks task false
    (omega (arith, c.loop-task-test.true, c.len-task-end.ensures, c.requires.tasks)) in
    let made : c.add_wait.new.self ≡ slice_set now task (f task) =
    c.add_wait.ensures ∙ ap (λ b. slice_set now task (with_wait b (tally_at now task))) waits
    ∙ ap (λ t. slice_set now task (with_wait (wants_core kernel task) t)) (c.loop-task.invariant.others task (omega arith)) in
    subst (IsSetTo f nothing old (task + 1)) (sym made) (set_more f nothing old now task c.loop-task.invariant
    (omega (arith, c.loop-task-test.true, c.len-task-end.ensures, c.loop-task.invariant.size)))

pub returns : goal.returns
unfolding waited
returns c =
    let kernel = c.args.kernel.now in
    let old = c.args.tasks.now in
    set_all (λ task. with_wait (wants_core kernel task) (tally_at old task)) nothing old c.loop-task.tasks c.loop-task.task c.loop-task.invariant
    (omega (arith, c.loop-task-test.false, c.len-task-end.ensures))
