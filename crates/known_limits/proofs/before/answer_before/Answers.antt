use Rattle.std.proofs.Common.{List, get_or, sym, ap, ◌∙◌}
use Rattle.bench_types.specs.declared.step.Step.{Step}
use Rattle.kept_runs.specs.Known.{was_call}
use Rattle.known_limits.specs.Before.{affirmative_at}
use Rattle.known_limits.proofs.Befores.{place_at, was_known}
use Rattle.known_limits.proofs.before.answer_before.Goals as goal

pub returns : goal.returns
returns c session settled document is =
    let places = c.args.places.now in
    let answers = c.args.answers.now in
    let item = c.args.item.now in
    let was = ap (λ (steps : List Step). was_call steps item) document ∙ sym c.if-not-was_call.ensures in
    c.affirmative_at.ensures
    ∙ ap (λ anchor. affirmative_at answers (get_or places anchor 0)) c.anchor.ensures
    ∙ ap (affirmative_at answers) (place_at session settled places answers is item.anchor c.requires.anchor)
    ∙ was_known session settled places answers is c.args.task item c.requires.call was
