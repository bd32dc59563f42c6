-- What clap is told: options, commands and programs.
use Rattle.std.specs.Prelude.{◌≡◌, List, fold, false, true, Some}
use Rattle.clap.specs.Words.{App, Rule, Text, app_of, new_app, new_rule, with_rule, with_subcommand}
use Rattle.clap.specs.declared.builder.action.ArgAction.TheVariants.{SetTrue}
use Rattle.clap.specs.declared.builder.command.Command.{Command}
use Rattle.clap.specs.declared.builder.command.Command.TheViews.{out-Command as fields_of}

-- the flag of this name
abbrev pub flag_rule : Text → Rule
flag_rule name = record (new_rule name) { long = Some name; action = Some SetTrue }

-- the option of this name, whose value help has a name for
abbrev pub option_rule : Text → Rule
option_rule name = record (new_rule name) { long = Some name; value_names = 1 }

-- the command of this name, with these options
abbrev pub command_app : Text → List Rule → App
command_app name rules = fold with_rule (new_app name) rules

-- the program of this name, which wants a command, and of which `help` is none
abbrev pub program_app : Text → App
program_app name = record (new_app name) {
  top = record (new_app name).top {
    disable_help_subcommand = true;
    subcommand_required = true;
  };
}

-- the program with these commands
abbrev pub with_commands : App → List App → App
with_commands program commands =
    fold (λ program command. with_subcommand program command.top) program commands

-- clap is told this of a command, none of whose options is one of other commands as well
abbrev pub IsPrinted : Command → App → Type 0
IsPrinted command app = (app_of command ≡ app) × ((fields_of command).has_globals ≡ false)
