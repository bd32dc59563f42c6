use Rattle.run_pictures.proofs.LegendsOf.{legend_of_run, legend_of_runs}
use Rattle.run_pictures.proofs.laws.law_of_legends.Goals as goal

pub returns : goal.returns
returns c = record { one = legend_of_run; both = legend_of_runs }
