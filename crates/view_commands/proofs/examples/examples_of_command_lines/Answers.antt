use Rattle.view_commands.proofs.CommandLines.{advice, checks, helps, kept_runs, mistakes, simulations, traces, versions, views}
use Rattle.view_commands.proofs.examples.examples_of_command_lines.Goals as goal

pub returns-clause-traces : goal.returns-clause-traces
returns-clause-traces c = traces

pub returns-clause-views : goal.returns-clause-views
returns-clause-views c = views

pub returns-clause-kept_runs : goal.returns-clause-kept_runs
returns-clause-kept_runs c = kept_runs

pub returns-clause-simulations : goal.returns-clause-simulations
returns-clause-simulations c = simulations

pub returns-clause-checks : goal.returns-clause-checks
returns-clause-checks c = checks

pub returns-clause-advice : goal.returns-clause-advice
returns-clause-advice c = advice

pub returns-clause-helps : goal.returns-clause-helps
returns-clause-helps c = helps

pub returns-clause-versions : goal.returns-clause-versions
returns-clause-versions c = versions

pub returns-clause-mistakes : goal.returns-clause-mistakes
returns-clause-mistakes c = mistakes
