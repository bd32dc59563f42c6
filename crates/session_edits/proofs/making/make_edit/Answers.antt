use Rattle.std.proofs.Common.{ℕ, List, Option, length, ap, sym, ◌∙◌}
use Rattle.bench_types.specs.declared.step.Step.{Step}
use Rattle.bench_types.specs.Session.{Session}
use Rattle.session_edits.proofs.Moving.{among, still_many}
use Rattle.session_edits.proofs.making.make_edit.Goals as goal

pub returns-in_ok-session_after-in-Ok-clause-many : goal.returns-in_ok-session_after-in-Ok-clause-many
returns-in_ok-session_after-in-Ok-clause-many c =
    let session = c.args.made.session in
    let steps = ap (λ (steps : List Step). length steps) (sym c.steps.ensures.steps) in
    let accepts = (c.in-Ok.ensures session steps c.requires.checked.passes).0 in
    ap (λ (origins : List (Option ℕ)). length origins) c.in_ok-edit_origins-in-Ok.ensures
    ∙ still_many session c.args.edit.now c.args.made.origins.items c.requires.many
    (among session c.args.edit.now (length c.args.made.origins.items) accepts c.requires.many)
    ∙ ap (λ (one : Session). length one.steps) (sym c.in_ok-session_after-in-Ok.ensures)
