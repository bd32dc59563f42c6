use Rattle.clap.specs.Words.{app_of, subcommand_rows_of}
use Rattle.command_words.specs.declared.parsed.Parsed.TheVariants.{Met}
use Rattle.command_words.proofs.ValuesTaken.{met_taken}
use Rattle.bench_commands.specs.Command.{AreTaken, bench_app}
use Rattle.bench_commands.proofs.CommandLine.{met_opens, taken}
use Rattle.bench_commands.proofs.command.request_of.Goals as goal

pub asked_for-requires : goal.asked_for-requires
asked_for-requires g c = met_taken AreTaken (app_of c.in_ok-bench_program.field-0) bench_app c.in_ok-matches.field-0 (Met c.in-Met.matches) taken
    c.in_ok-bench_program.ensures c.in-Met.is c.in_ok-matches.ensures.taken

pub returns-in-Met-clause-span : goal.returns-in-Met-clause-span
returns-in-Met-clause-span g c =
    let options = met_taken AreTaken (app_of c.in_ok-bench_program.field-0) bench_app c.in_ok-matches.field-0 (Met c.in-Met.matches) taken
    c.in_ok-bench_program.ensures c.in-Met.is c.in_ok-matches.ensures.taken in
    met_opens (subcommand_rows_of c.in-Met.matches) c.asked_for.result options c.asked_for.ensures
