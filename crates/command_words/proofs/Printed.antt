-- What clap is told of commands.
use Rattle.std.proofs.Common.{◌≡◌, ◌∙◌, true, refl, ap, ap₂}
use Rattle.clap.specs.Words.{AddsArg, AddsSubcommand, App, Rule, app_of, rule_of, with_rule, with_subcommand}
use Rattle.clap.specs.declared.builder.arg.Arg.{Arg}
use Rattle.clap.specs.declared.builder.command.Command.{Command}
use Rattle.command_words.specs.Printed.{IsPrinted}
use Rattle.command_words.proofs.OptionsRead.{simple_is_local}

-- one more option of a command
pub more_printed : (before after : Command) (app : App) (option : Arg) (rule : Rule) → IsPrinted before app → rule_of option ≡ rule → rule.is_simple ≡ true →
    AddsArg before option after → IsPrinted after (with_rule app rule)
more_printed before after app option rule printed is simple added =
    let local = simple_is_local option (ap (λ (r : Rule). r.is_simple) is ∙ simple) in
    (added.shape local ∙ ap₂ with_rule printed.0 is, added.globals ∙ rw (printed.1, local) refl)

-- one more command of a program
pub one_more : (before after : Command) (app : App) (command : Command) (given : App) → app_of before ≡ app → IsPrinted command given → AddsSubcommand before
    command after → app_of after ≡ with_subcommand app given.top
one_more before after app command given is printed added = added.shape printed.1 ∙ ap₂ with_subcommand is (ap (λ (app : App). app.top) printed.0)
