use Rattle.std.proofs.Common.{Err, ap, arith}
use Rattle.json_data.proofs.Documents.{far_tape, no_room, no_tape, read_of_tape, tokens_of_tape}
use Rattle.json_data.proofs.document.Document.of_text.Goals as goal

pub of_tape-requires : goal.of_tape-requires
of_tape-requires c = (c.args.text.now, c.in_ok-tape.ensures.ok.0, c.in_ok-tape.ensures.ok.1)

pub returns-clause-ok : goal.returns-clause-ok
returns-clause-ok c =
    read_of_tape c.args.text.now c.in_ok-tape.tape c.of_tape.result c.in_ok-tape.ensures.ok.0 c.in_ok-tape.ensures.ok.1 c.of_tape.ensures.ok

pub returns-clause-tokens : goal.returns-clause-tokens
returns-clause-tokens c = tokens_of_tape c.args.text.now c.in_ok-tape.tape c.of_tape.result c.in_ok-tape.ensures.ok.0 c.of_tape.ensures.ok

pub returns-clause-refused : goal.returns-clause-refused
returns-clause-refused c said =
    far_tape c.args.text.now c.in_ok-tape.tape c.in_ok-tape.ensures.ok.0 c.in_ok-tape.ensures.ok.1 (c.of_tape.ensures.refused said)

pub returns-in_err-tape-clause-refused : goal.returns-in_err-tape-clause-refused
returns-in_err-tape-clause-refused c said =
    no_tape c.args.text.now _ (λ is. c.in_err-tape.ensures.invalid (ap Err is)) (grind (arith, said, c.from_residual.ensures))

pub returns-in_err-tape-clause-memory : goal.returns-in_err-tape-clause-memory
returns-in_err-tape-clause-memory c said =
    no_room c.args.scratch.now c.args.text.now _ _ (λ is. c.in_err-tape.ensures.memory (ap Err is))
    (λ is. c.in_err-tape.ensures.too_long (ap Err is)) (λ is. c.in_err-tape.ensures.never_duplicate (ap Err is)) (grind (arith, said, c.from_residual.ensures))
