use Rattle.std.proofs.Common.{List, ap, ap₂, ◌∙◌}
use Rattle.bench_types.specs.declared.header.Header.{Header}
use Rattle.bench_types.specs.Session.{Session}
use Rattle.report_figures.specs.declared.figures.Figure.{Figure}
use Rattle.session_reports.specs.Checks.{checked}
use Rattle.session_reports.proofs.KeptLimits.{kept_check, unknown_check}
use Rattle.session_reports.proofs.limits.check.Goals as goal

pub returns-clause-check : goal.returns-clause-check
returns-clause-check c =
    c.in_ok-printed.ensures
    ∙ ap₂ (λ (header : Header) (figures : List Figure). checked header figures c.args.wanted.now)
    (c.header.ensures.header ∙ ap (λ (session : Session). session.header) c.session.ensures)
    (c.as_slice.ensures.value ∙ c.in_ok-figures.ensures)

pub returns-clause-kept : goal.returns-clause-kept
returns-clause-kept c = kept_check c.args.run.now c.args.wanted.now c.in_ok-printed.printed (returns-clause-check c)

pub returns-clause-unknown : goal.returns-clause-unknown
returns-clause-unknown c = unknown_check c.args.run.now c.args.wanted.now c.in_ok-printed.printed (returns-clause-check c)
