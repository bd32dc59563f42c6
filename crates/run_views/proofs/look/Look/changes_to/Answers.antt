use Rattle.std.proofs.Common.{List, sym, ap, subst, ◌∙◌}
use Rattle.std.specs.Prelude.{All}
use Rattle.run_views.specs.declared.change.Change.{Change}
use Rattle.run_views.specs.Changes.{applied, TellsOf}
use Rattle.run_views.proofs.Leading.{changes_lead}
use Rattle.run_views.proofs.Telling.{changes_printed}
use Rattle.run_views.proofs.look.Look.changes_to.Goals as goal

pub returns-clause-all : goal.returns-clause-all
returns-clause-all c shape = ap (λ some. applied some c.args.self.now) c.in_ok-changes.ensures ∙ changes_lead c.args.self.now c.args.after.now shape

pub returns-clause-only : goal.returns-clause-only
returns-clause-only c = subst (λ (some : List Change). All (TellsOf c.args.self.now c.args.after.now) some) (sym c.in_ok-changes.ensures)
    (changes_printed c.args.self.now c.args.after.now)
