use Rattle.clap.specs.Words.{app_of}
use Rattle.command_words.specs.declared.parsed.Parsed.TheVariants.{Met}
use Rattle.command_words.proofs.ValuesTaken.{met_taken}
use Rattle.view_commands.specs.CommandLine.{view_app}
use Rattle.view_commands.specs.Options.{AreTaken}
use Rattle.view_commands.proofs.CommandLine.{taken}
use Rattle.view_commands.proofs.command_line.request_of.Goals as goal

pub asked_for-requires : goal.asked_for-requires
asked_for-requires g c = met_taken AreTaken (app_of c.in_ok-program_command.field-0) view_app c.in_ok-matches.field-0 (Met c.in-Met.matches) taken
    c.in_ok-program_command.ensures c.in-Met.is c.in_ok-matches.ensures.taken
