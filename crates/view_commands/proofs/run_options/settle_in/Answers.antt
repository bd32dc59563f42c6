use Rattle.std.proofs.Common.{codes}
use Rattle.clap.specs.Words.{found_of}
use Rattle.command_words.proofs.OptionsRead.{flag_is_read}
use Rattle.view_commands.proofs.run_options.settle_in.Goals as goal

pub returns : goal.returns
returns c = flag_is_read (found_of c.args.options.now) (codes "settle") c.requires.settle c.get_flag.result c.get_flag.ensures.none c.get_flag.ensures.value
    c.get_flag.ensures.other
