use Rattle.std.proofs.Common.{map, sym, true≢false}
use Rattle.clap.specs.Words.{app_of, subcommand_rows_of}
use Rattle.command_words.specs.Said.{class_in}
use Rattle.command_words.proofs.ProgramAnswers.{errs, meets, meets_taken}
use Rattle.command_words.proofs.parsed.answer_to.Goals as goal

pub returns-in-Ok-clause-parsed : goal.returns-in-Ok-clause-parsed
returns-in-Ok-clause-parsed g c = meets (app_of c.args.program) c.requires (map g.S.AsStr.text c.args.words.now) (subcommand_rows_of c.in-Ok.matches)
    c.in-Ok.ensures.kinds (λ simple. (c.in-Ok.ensures.matches simple).1)

pub returns-in-Ok-clause-taken : goal.returns-in-Ok-clause-taken
returns-in-Ok-clause-taken g c = meets_taken (app_of c.args.program) c.requires (map g.S.AsStr.text c.args.words.now) (subcommand_rows_of c.in-Ok.matches)
    c.in-Ok.ensures.kinds (λ simple. (c.in-Ok.ensures.matches simple).1)

pub returns-in_ok-said_by-in-Err-clause-parsed : goal.returns-in_ok-said_by-in-Err-clause-parsed
returns-in_ok-said_by-in-Err-clause-parsed g c =
    errs (app_of c.args.program) (map g.S.AsStr.text c.args.words.now) c.in-Err.error (class_in c.in_ok-said_by-in-Err.field-0) c.requires
    (c.in-Err.ensures.kinds c.requires.is_simple) c.in_ok-said_by-in-Err.ensures.class
    (λ out. absurd (true≢false (sym (c.in_ok-said_by-in-Err.ensures.memory out))))
