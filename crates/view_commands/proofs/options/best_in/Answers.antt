use Rattle.std.proofs.Common.{◌∙◌, ◌^◌, ◌-◌, codes, arith}
use Rattle.clap.specs.Words.{found_of}
use Rattle.command_words.proofs.NumberTexts.{number_is_read}
use Rattle.view_commands.specs.Options.{usual_best}
use Rattle.view_commands.proofs.options.best_in.Goals as goal

pub returns : goal.returns
returns c = c.unwrap_or.ensures ∙ number_is_read 32 0 (2 ^ 32 - 1) (omega arith) (found_of c.args.options.now) (codes "best") usual_best c.requires.best
    c.get_one.result c.get_one.ensures.none c.get_one.ensures.value
