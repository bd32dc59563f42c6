use Rattle.std.proofs.Common.{rules}
use Rattle.bench_commands.proofs.EditsMade.{accepted_after, accepted_answer, accepted_printed, refused_after, refused_answer}
use Rattle.bench_commands.proofs.store_edit.answer_to_edit.Goals as goal

pub returns-in-Ok-clause-answer : goal.returns-in-Ok-clause-answer
returns-in-Ok-clause-answer g c =
    let accepts = accepted_printed c.args.store.now c.args.edit (λ why refuses. let given = (c.in-Ok.ensures.refused why).1 refuses in cc given) in
    accepted_answer c.args.store.now c.args.edit c.in-Ok.outcome accepts c.in-Ok.ensures.outcome

pub returns-in-Ok-clause-kept : goal.returns-in-Ok-clause-kept
returns-in-Ok-clause-kept g c =
    let accepts = accepted_printed c.args.store.now c.args.edit (λ why refuses. let given = (c.in-Ok.ensures.refused why).1 refuses in cc given) in
    accepted_after c.args.store.now c.apply.new.self c.args.edit accepts c.in-Ok.ensures.kept

pub returns-in-Err-Edit-clause-answer : goal.returns-in-Err-Edit-clause-answer
returns-in-Err-Edit-clause-answer g c = refused_answer c.args.store.now c.args.edit c.in-Err-Edit.why
    ((c.in-Err-Edit.ensures.refused c.in-Err-Edit.why).0 (search rules))

pub returns-in-Err-Edit-clause-kept : goal.returns-in-Err-Edit-clause-kept
returns-in-Err-Edit-clause-kept g c = refused_after c.args.store.now c.apply.new.self c.args.edit c.in-Err-Edit.why
    ((c.in-Err-Edit.ensures.refused c.in-Err-Edit.why).0 (search rules)) c.in-Err-Edit.ensures.unchanged
