use Rattle.std.proofs.Common.{◌≡◌, true, false, subst, arith}
use Rattle.run_sources.specs.declared.source.Source.{Source}
use Rattle.view_commands.specs.Answers.{IsAdvised}
use Rattle.view_commands.specs.EditedSources.{after_of}
use Rattle.view_commands.specs.Strict.{IsRefusing}
use Rattle.view_commands.proofs.Judged.{judged_lax, judged_so}
use Rattle.view_commands.proofs.ShownSources.{short_of_one}
use Rattle.view_commands.proofs.advice.answer_of_advice.Goals as goal

pub returns-then-not-strict-clause-answer : goal.returns-then-not-strict-clause-answer
returns-then-not-strict-clause-answer g c =
    let after = after_of c.args.source.now in
    let output = c.in_ok-output.output in
    let lax : c.args.strict ≡ false = grind (arith, c.if-not-strict.true) in
    record {
      short = short_of_one after c.in_ok-made.ensures.short;
      printed = output;
      is_told = subst (λ (one : Source). IsAdvised c.args.question.now one output) c.in_ok-after.ensures c.in_ok-output.ensures;
      is_judged = judged_lax c.args.strict (IsRefusing c.args.source.now) output lax;
    }

pub returns-clause-answer : goal.returns-clause-answer
returns-clause-answer g c =
    let after = after_of c.args.source.now in
    let output = c.in_ok-output.output in
    let strictly : c.args.strict ≡ true = grind (arith, c.if-not-strict.false) in
    record {
      short = short_of_one after c.in_ok-made.ensures.short;
      printed = output;
      is_told = subst (λ (one : Source). IsAdvised c.args.question.now one output) c.in_ok-after.ensures c.in_ok-output.ensures;
      is_judged = judged_so c.args.strict (IsRefusing c.args.source.now) output c.in_ok-judged_strictly.field-0 strictly c.in_ok-judged_strictly.ensures;
    }
