use Rattle.std.proofs.Common.{ap, ap₂, subst, ◌∙◌, inl, inr}
use Rattle.bench_types.specs.declared.reply.Reply.{Reply}
use Rattle.run_numbers.specs.declared.event.BeforeStep.{BeforeStep}
use Rattle.run_numbers.specs.Counters.{took}
use Rattle.run_numbers.specs.Looks.{look_of, IsApart}
use Rattle.run_numbers.specs.Past.{past}
use Rattle.task_jobs.specs.Works.{with_turn}
use Rattle.run_numbers.specs.Progress.{counter_in, subject_in, work_in}
use Rattle.run_numbers.specs.Turns.{turn_by}
use Rattle.run_numbers.specs.Taking.{row_at}
use Rattle.run_numbers.proofs.run.step_all.Goals as goal

pub returns-clause-taken : goal.returns-clause-taken
returns-clause-taken c table stands k within =
    let plan = c.args.plan.now in
    let step = c.args.step.now in
    let after = c.step-reply.new.self in
    let task = row_at plan k in
    let before = c.before_step-before.ensures.value in
    let reply = c.step-reply.ensures.reply table stands in
    elim (c.take_all.ensures.taken k within) [
      | inl is ↦ inl (is ∙ ap₂ (λ (before : BeforeStep) (reply : Reply). took before step reply after (past c.args.times.now.elapsed c.args.times.now.places.now) (subject_in plan.subjects.now k)
          (counter_in c.args.counters.now k)) before reply)
      | inr it ↦
          let known = c.forget_concerned.ensures.known task (look_of after task) it.1 in
          inr (
            it.0,
            record { known = known.0; apart = subst (λ (before : BeforeStep). IsApart c.args.row.now before step after task) before known.1 },
            it.2,
          )
    ]

pub returns-clause-worked : goal.returns-clause-worked
returns-clause-worked c table stands task low =
    let step = c.args.step.now in
    let after = c.step-reply.new.self in
    let times = c.args.times.now in
    let before = c.before_step-before.ensures.value in
    let reply = c.step-reply.ensures.reply table stands in
    elim (c.take_all.ensures.worked task low) [
      | inl is ↦
          inl (is ∙ ap (λ (reply : Reply). with_turn (turn_by step reply times.place times.began times.elapsed times.ticks.now after task)
          (work_in c.args.works.now task)) reply)
      | inr it ↦
          let known = c.forget_concerned.ensures.known task (look_of after task) it.0 in
          inr (
            record { known = known.0; apart = subst (λ (before : BeforeStep). IsApart c.args.row.now before step after task) before known.1 },
            it.1,
          )
    ]
