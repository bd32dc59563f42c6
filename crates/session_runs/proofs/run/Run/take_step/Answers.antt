use Rattle.std.proofs.Common.{◌≡◌, ◌+◌, ◌<◌, List, length, get_or, ap, subst, sym, ◌∙◌, arith}
use Rattle.bench_types.specs.declared.step.Step.{Step}
use Rattle.bench_types.specs.declared.step.Step.TheVariants.{Tick}
use Rattle.bench_types.specs.Step.{core_of}
use Rattle.session_runs.specs.Made.{row_at}
use Rattle.session_runs.specs.Run.{RunView}
use Rattle.session_runs.proofs.Rows.{kept_length, row_length, row_taken, step_core}
use Rattle.session_runs.proofs.run.Run.take_step.Goals as goal

pub index-outcome-requires : goal.index-outcome-requires
index-outcome-requires c =
    let inside = c.self.inside in
    let sized = kept_length inside.session inside.outcomes c.self.invariant.0 c.self.invariant.2 in
    omega (arith, sized, inside.outcomes.each.ok.0, c.requires.within, ap (λ (v : RunView). length v.session.steps) c.self.view_is)

pub put-requires : goal.put-requires
put-requires c =
    let inside = c.self.inside in
    let place = c.args.place in
    let early : place < length inside.session.steps = omega (arith, c.requires.within, ap (λ (v : RunView). length v.session.steps) c.self.view_is) in
    let sized = row_length inside.session inside.outcomes c.self.invariant.0 c.self.invariant.2 place in
    let low = step_core inside.session inside.outcomes c.self.invariant.0 c.self.invariant.2 place early in
    let core : c.core-core.result ≡ core_of (get_or inside.session.steps place Tick)
    = c.core-core.ensures ∙ ap (λ (steps : List Step). core_of (get_or steps place Tick)) c.steps.ensures.steps in
    omega (
      arith,
      low,
      sized,
      core,
      ap length c.requires.row,
      ap (λ (v : RunView). length (row_at v.session place)) c.self.view_is,
    )

pub returns : goal.returns
returns c =
    let inside = c.self.inside in
    let place = c.args.place in
    let early : place < length inside.session.steps = omega (arith, c.requires.within, ap (λ (v : RunView). length v.session.steps) c.self.view_is) in
    let core : c.core-core.result ≡ core_of (get_or inside.session.steps place Tick)
    = c.core-core.ensures ∙ ap (λ (steps : List Step). core_of (get_or steps place Tick)) c.steps.ensures.steps in
    let here : c.args.row.now ≡ row_at inside.session place
    = c.requires.row ∙ sym (ap (λ (v : RunView). row_at v.session place) c.self.view_is) in
    subst (λ (v : RunView). c.put.new.row ≡ row_at v.session (place + 1)) c.self.view_is
    (c.put.ensures ∙ row_taken inside.session inside.outcomes c.self.invariant.0 c.self.invariant.2 place c.index-outcome.result.now c.args.row.now
    c.core-core.result early c.index-outcome.ensures core here)
