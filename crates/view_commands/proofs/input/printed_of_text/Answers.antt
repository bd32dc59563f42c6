use Rattle.view_commands.proofs.Outputs.{refused_printed}
use Rattle.view_commands.proofs.input.printed_of_text.Goals as goal

pub returns-in-Err : goal.returns-in-Err
returns-in-Err g c = refused_printed c.args.job.now c.args.input.now c.in-Err.fault c.refused_text.result c.in-Err.ensures.reading c.refused_text.ensures
