use Rattle.shift_laws.proofs.Runs.{met_run, run_shifted}
use Rattle.shift_laws.proofs.Steps.{same_shifted_after, shifted_after}
use Rattle.shift_laws.proofs.laws_of_shifted_steps.Goals as goal

pub returns-clause-same_shifted_stays_so : goal.returns-clause-same_shifted_stays_so
returns-clause-same_shifted_stays_so c = same_shifted_after

pub returns-clause-shifted_stays_shifted : goal.returns-clause-shifted_stays_shifted
returns-clause-shifted_stays_shifted c = shifted_after

pub returns-clause-shifted_run_alike : goal.returns-clause-shifted_run_alike
returns-clause-shifted_run_alike c = run_shifted

pub returns-clause-met_run_shifted : goal.returns-clause-met_run_shifted
returns-clause-met_run_shifted c = met_run
