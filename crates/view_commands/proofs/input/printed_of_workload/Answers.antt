use Rattle.std.proofs.Common.{string_bytes}
use Rattle.view_commands.proofs.WorkloadsPrinted.{refused_workload, workload_told}
use Rattle.view_commands.proofs.input.printed_of_workload.Goals as goal

pub returns-in-Err : goal.returns-in-Err
returns-in-Err g c = refused_workload c.args.job.now c.args.input.now c.in-Err.fault c.refused_text.result c.in-Err.ensures.reading c.refused_text.ensures

pub returns-in_ok-lines-in-Ok : goal.returns-in_ok-lines-in-Ok
returns-in_ok-lines-in-Ok g c =
    workload_told c.args.job.now c.args.input.now (string_bytes c.in_ok-lines-in-Ok.lines) c.in-Ok.made c.printed_of_ticked.result c.in-Ok.ensures.reading
    c.in_ok-lines-in-Ok.ensures c.printed_of_ticked.ensures
