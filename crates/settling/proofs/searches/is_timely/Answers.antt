use Rattle.std.proofs.Common.{◌∙◌, sym, ap, not, true}
use Rattle.std.specs.Option.{option_map_or}
use Rattle.settled_runs.specs.Settled.{is_early}
use Rattle.settling.proofs.Finds.{timely_known}
use Rattle.settling.proofs.searches.is_timely.Goals as goal

pub returns-in-Some : goal.returns-in-Some
returns-in-Some c table stands =
    ap not c.is_early.ensures ∙ ap (λ why. option_map_or (λ why. not (is_early why)) why true) (sym c.in-Some.is)
    ∙ timely_known table c.args.step.now c.refusal.result (c.refusal.ensures table stands)

pub returns-in-None : goal.returns-in-None
returns-in-None c table stands =
    ap (λ why. option_map_or (λ why. not (is_early why)) why true) (sym c.in-None.is)
    ∙ timely_known table c.args.step.now c.refusal.result (c.refusal.ensures table stands)
