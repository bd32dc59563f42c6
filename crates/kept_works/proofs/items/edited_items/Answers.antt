use Rattle.std.proofs.Common.{◌∙◌, List, length, get_or, ap, arith}
use Rattle.bench_types.specs.declared.step.Step.{Step}
use Rattle.bench_types.specs.declared.step.Step.TheVariants.{Tick}
use Rattle.bench_types.specs.declared.edit.Edit.TheVariants.{Insert}
use Rattle.kept_edits.specs.declared.edit.KeptEdit.TheVariants.{Plain}
use Rattle.kept_runs.specs.Items.{items_from}
use Rattle.kept_works.specs.Items.{items_after_kept}
use Rattle.kept_works.proofs.Edited.{way_begins, way_ends, way_items, way_on}
use Rattle.kept_works.proofs.items.edited_items.Goals as goal

pub loop-edit-init : goal.loop-edit-init
loop-edit-init c =
    way_begins c.args.session.now c.args.edits.now c.in_ok-items.items.items c.steps-steps.ensures.checked c.requires.edits
    (c.in_ok-items.ensures ∙ ap (items_from 0) c.steps-steps.ensures.steps)

pub loop-edit-preserved : goal.loop-edit-preserved
loop-edit-preserved c =
    way_on c.args.session.now c.args.edits.now c.loop-edit.edit-index c.loop-edit.items.items c.loop-edit.invariant c.make_edit.new.items.items (Plain (Insert 0 Tick))
    c.loop-edit-test.true
    (λ session many fits.
    c.in_ok-make_edit.ensures session many fits
    ∙ ap (λ (steps : List Step). items_after_kept (length steps) session (get_or c.args.edits.now c.loop-edit.edit-index (Plain (Insert 0 Tick))) c.loop-edit.items.items)
    c.steps-steps.ensures.steps)

pub returns-clause-items : goal.returns-clause-items
returns-clause-items c =
    way_ends c.args.session.now c.args.edits.now c.loop-edit.edit-index c.loop-edit.items.items c.loop-edit.invariant c.loop-edit-test.false

pub returns-clause-are : goal.returns-clause-are
returns-clause-are c =
    way_items c.args.session.now c.args.edits.now c.loop-edit.edit-index c.loop-edit.items.items c.loop-edit.invariant (omega arith)
