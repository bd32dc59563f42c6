use Rattle.std.proofs.Common.{◌≡◌, Some, sym, ap, subst, ◌∙◌}
use Rattle.std.specs.Prelude.{find}
use Rattle.bench_types.specs.declared.header.Header.{Header}
use Rattle.bench_types.specs.Step.{settings_of}
use Rattle.run_numbers.specs.Readings.{IsSubjectOf}
use Rattle.report_figures.specs.Limits.{has_name}
use Rattle.session_reports.specs.Figures.{run_figures}
use Rattle.session_advice.proofs.Found.{found_fits}
use Rattle.session_advice.proofs.advice.advise.Goals as goal

pub advice_text-requires-after_bounds : goal.advice_text-requires-after_bounds
advice_text-requires-after_bounds g c κs within =
    let run = c.in_ok-run.run' in
    let test = has_name c.header-header.result.now c.as_str.result.now in
    let found : find test (run_figures run) ≡ Some c.in-Some.judged =
    ap (find test) (sym c.in_ok-own.ensures) ∙ ap (find test) (sym c.as_slice-figures.ensures.value) ∙ sym c.in_ok-judged.ensures ∙ c.in-Some.is in
    subst (λ (header : Header). IsSubjectOf (settings_of header) c.in-Some.judged.subject) c.in_ok-run.ensures.header
    (found_fits run test c.in-Some.judged found)
