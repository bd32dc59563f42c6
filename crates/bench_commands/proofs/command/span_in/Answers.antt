use Rattle.std.proofs.Common.{◌∙◌, codes, arith}
use Rattle.clap.specs.Words.{found_of}
use Rattle.bench_types.specs.Limits.{max_span}
use Rattle.command_words.proofs.NumberTexts.{number_is_read}
use Rattle.bench_commands.specs.Command.{default_span}
use Rattle.bench_commands.proofs.command.span_in.Goals as goal

pub returns : goal.returns
returns c = c.unwrap_or.ensures ∙ number_is_read 32 1 max_span (omega arith) (found_of c.args.options.now) (codes "span") default_span c.requires.span
    c.get_one.result c.get_one.ensures.none c.get_one.ensures.value
