use Rattle.std.proofs.Common.{◌≡◌, Ok, subst}
use Rattle.bench_types.specs.Step.{call_check}
use Rattle.step_laws.proofs.Steps.{set_task, affinity_set_task}
use Rattle.smp_kernel.proofs.scheduler.Scheduler.call.Goals as goal

pub set_priority-requires : goal.set_priority-requires
set_priority-requires c =
    let settings = c.args.self.now.settings in
    set_task settings c.in-PrioritySet.task (subst (λ call. call_check settings call ≡ Ok tt) c.in-PrioritySet.is c.requires.checked)

pub set_affinity-requires : goal.set_affinity-requires
set_affinity-requires c =
    let settings = c.args.self.now.settings in
    affinity_set_task settings c.in-AffinitySet.task c.in-AffinitySet.mask
    (subst (λ call. call_check settings call ≡ Ok tt) c.in-AffinitySet.is c.requires.checked)

pub preempt_off-requires : goal.preempt_off-requires
preempt_off-requires c =
    let settings = c.args.self.now.settings in
    set_task settings c.in-PreemptOff.task (subst (λ call. call_check settings call ≡ Ok tt) c.in-PreemptOff.is c.requires.checked)

pub preempt_on-requires : goal.preempt_on-requires
preempt_on-requires c =
    let settings = c.args.self.now.settings in
    set_task settings c.in-PreemptOn.task (subst (λ call. call_check settings call ≡ Ok tt) c.in-PreemptOn.is c.requires.checked)
