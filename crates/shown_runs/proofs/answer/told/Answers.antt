use Rattle.std.proofs.Common.{ap, ap₂, sym, ◌∙◌}
use Rattle.std.proofs.lemmas.Result.{IfOk-weaker}
use Rattle.shown_runs.specs.declared.ask.Ask.{Ask}
use Rattle.shown_runs.specs.Checks.{check_printed}
use Rattle.shown_runs.specs.Told.{told}
use Rattle.shown_runs.proofs.answer.told.Goals as goal

pub returns-in-Check : goal.returns-in-Check
returns-in-Check g c =
    IfOk-weaker c.check_printed.result _ _
    (λ output known. known ∙ ap₂ check_printed c.last-in-Check.ensures c.as_slice.ensures ∙ sym
    (ap (λ (ask : Ask). told c.args.making ask c.args.shown.now) c.in-Check.is))
    c.check_printed.ensures
