use Rattle.std.proofs.Common.{◌++◌, ◌∙◌, [], List, ap, ap₂, cond, sym, subst}
use Rattle.std.specs.Prelude.{All}
use Rattle.bench_types.specs.declared.header.Header.{Header}
use Rattle.bench_types.specs.declared.step.Step.{Step}
use Rattle.run_sources.proofs.CheckedSources.{header_checked}
use Rattle.ranked_changes.specs.declared.change.Change.{Change}
use Rattle.ranked_changes.specs.Changed.{IsChangeOf}
use Rattle.ranked_changes.specs.Changes.{mask_changes, order_changes, priority_changes}
use Rattle.ranked_changes.proofs.Allowed.{allowed}
use Rattle.ranked_changes.proofs.changes.changes_of.Goals as goal

pub returns-clause-changes : goal.returns-clause-changes
returns-clause-changes c =
    let family = c.args.family in
    let header = c.header-header.ensures.header in
    c.in_ok-append-2.ensures.items
    ∙ ap₂ (λ (some more : List Change). some ++ more)
    (c.in_ok-append.ensures.items
    ∙ ap₂ (λ (some more : List Change). some ++ more)
    (c.in_ok-changes.ensures ∙ ap (λ (header : Header). cond family.priority (priority_changes header) []) header)
    (c.in_ok-masks.ensures ∙ ap (mask_changes family) header))
    (c.in_ok-orders.ensures ∙ ap (λ (steps : List Step). cond family.order (order_changes steps) []) c.steps.ensures.steps)

pub returns-clause-allowed : goal.returns-clause-allowed
returns-clause-allowed c =
    let source = c.args.source.now in
    subst (All (IsChangeOf source)) (sym (returns-clause-changes c)) (allowed source (header_checked source c.header-header.ensures.checked) c.args.family)
