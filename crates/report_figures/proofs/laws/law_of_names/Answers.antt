use Rattle.report_figures.proofs.NamesDiffer.{names_are_different}
use Rattle.report_figures.proofs.laws.law_of_names.Goals as goal

pub returns : goal.returns
returns c = names_are_different
