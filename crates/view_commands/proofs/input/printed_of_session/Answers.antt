use Rattle.std.proofs.Common.{string_bytes}
use Rattle.view_commands.proofs.Outputs.{bench_told}
use Rattle.view_commands.proofs.input.printed_of_session.Goals as goal

pub returns-in_ok-made-in-Some : goal.returns-in_ok-made-in-Some
returns-in_ok-made-in-Some g c =
    bench_told (string_bytes c.args.lines) c.args.job.now c.args.bench c.into_vec.result.items c.into_vec-in-Some.result.items c.in-Some.session
    c.in_ok-made-in-Some.made c.of_session-source.result c.noted_answer.result c.into_vec.ensures c.into_vec-in-Some.ensures c.in-Some.ensures.session
    c.steps-steps.ensures.checked.few c.in_ok-made-in-Some.ensures c.of_session-source.ensures c.noted_answer.ensures
