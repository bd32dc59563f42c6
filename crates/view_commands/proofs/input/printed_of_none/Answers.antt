use Rattle.view_commands.proofs.WorkloadsPrinted.{refused_none}
use Rattle.view_commands.proofs.input.printed_of_none.Goals as goal

pub returns-in-Err : goal.returns-in-Err
returns-in-Err c = refused_none c.args.input.now c.in-Err.fault c.refused_text.result c.in-Err.ensures.reading c.refused_text.ensures
