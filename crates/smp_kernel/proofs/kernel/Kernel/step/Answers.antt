use Rattle.std.proofs.Common.{◌∙◌, ap}
use Rattle.bench_model.specs.Steps.{after}
use Rattle.bench_model.specs.Lists.{list_queues}
use Rattle.bench_model.specs.Session.{step_of}
use Rattle.smp_kernel.proofs.Stands.{settled_of, reply_of, stands_after, settings_after}
use Rattle.smp_kernel.proofs.kernel.Kernel.step.Goals as goal

pub step-reply-requires-clause-settled : goal.step-reply-requires-clause-settled
step-reply-requires-clause-settled c = settled_of c.self.inside.scheduler c.self.invariant

pub invariant_of-self : goal.invariant_of-self
invariant_of-self c =
    let stands = stands_after c.args.self.now c.step-reply.new.self c.args.step.now c.step-reply.result c.requires c.step-reply.ensures.words
    (c.step-reply.ensures.made ∙ ap (after list_queues c.args.step.now) c.self.view_is) in (
      (step_of c.args.step.now c.self.invariant.0).1,
      stands c.self.invariant.0
          (record { sound = c.self.invariant.1.sound; shows = c.self.invariant.1.shows ∙ c.self.view_is }),
    )

pub returns-clause-reply : goal.returns-clause-reply
returns-clause-reply c =
    reply_of c.args.self.now c.step-reply.new.self c.args.step.now c.step-reply.result c.requires c.step-reply.ensures.words
    (c.step-reply.ensures.made ∙ ap (after list_queues c.args.step.now) c.self.view_is)

pub returns-clause-state : goal.returns-clause-state
returns-clause-state c =
    stands_after c.args.self.now c.step-reply.new.self c.args.step.now c.step-reply.result c.requires c.step-reply.ensures.words
    (c.step-reply.ensures.made ∙ ap (after list_queues c.args.step.now) c.self.view_is)

pub returns-clause-shape : goal.returns-clause-shape
returns-clause-shape c = settings_after c.args.self.now c.step-reply.new.self c.args.step.now c.step-reply.result
    (c.step-reply.ensures.made ∙ ap (after list_queues c.args.step.now) c.self.view_is)
