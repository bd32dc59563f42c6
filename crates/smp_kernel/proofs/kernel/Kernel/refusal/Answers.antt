use Rattle.std.proofs.Common.{sym, ap, ◌∙◌}
use Rattle.bench_model.specs.Lists.{View, list_queues}
use Rattle.bench_model.specs.Refusals.{refusal}
use Rattle.step_laws.proofs.Steps.{refusal_seen}
use Rattle.smp_kernel.proofs.kernel.Kernel.refusal.Goals as goal

pub returns : goal.returns
returns c table stands =
    let step = c.args.step.now in
    c.refusal.ensures ∙ ap (refusal list_queues step) (c.self.view_is ∙ sym stands.shows) ∙ refusal_seen step table
