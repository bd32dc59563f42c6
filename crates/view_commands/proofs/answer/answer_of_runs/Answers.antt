use Rattle.std.proofs.Common.{◌≡◌, Bool, true, false, string_bytes, subst, arith}
use Rattle.std.specs.Prelude.{All}
use Rattle.run_sources.specs.declared.source.Source.{Source}
use Rattle.run_sources.specs.Sources.{IsSourceTooLong}
use Rattle.view_commands.specs.ShownRuns.{sources_of}
use Rattle.view_commands.specs.Strict.{IsRefusing}
use Rattle.view_commands.proofs.Judged.{judged_lax, judged_so, told_of_runs}
use Rattle.view_commands.proofs.answer.answer_of_runs.Goals as goal

pub returns-clause-answer : goal.returns-clause-answer
returns-clause-answer g c =
    let source = c.args.source.now in
    let asked = c.args.asked.now in
    let printed = c.in_ok-printed.printed in
    let both = c.shows_both-both in
    let made = c.in_ok-made in
    let strictly : c.args.strict ≡ true = grind (arith, c.if-not-strict.false) in
    record {
      short = subst (λ (b : Bool). All (λ (one : Source). ¬ IsSourceTooLong one) (sources_of b source)) both.ensures made.ensures.short;
      printed = printed;
      is_told = told_of_runs c.args.documents asked source both.result made.made.shown c.making-making.result (string_bytes made.made.ends) c.in_ok-output.output printed
          both.ensures c.making-making.ensures made.ensures.shown made.ensures.ends c.in_ok-output.ensures c.in_ok-printed.ensures;
      is_judged = judged_so c.args.strict (IsRefusing source) printed c.in_ok-judged_strictly.field-0 strictly c.in_ok-judged_strictly.ensures;
    }

pub returns-then-not-strict-clause-answer : goal.returns-then-not-strict-clause-answer
returns-then-not-strict-clause-answer g c =
    let source = c.args.source.now in
    let asked = c.args.asked.now in
    let printed = c.in_ok-printed.printed in
    let both = c.shows_both-both in
    let made = c.in_ok-made in
    let lax : c.args.strict ≡ false = grind (arith, c.if-not-strict.true) in
    record {
      short = subst (λ (b : Bool). All (λ (one : Source). ¬ IsSourceTooLong one) (sources_of b source)) both.ensures made.ensures.short;
      printed = printed;
      is_told = told_of_runs c.args.documents asked source both.result made.made.shown c.making-making.result (string_bytes made.made.ends) c.in_ok-output.output printed
          both.ensures c.making-making.ensures made.ensures.shown made.ensures.ends c.in_ok-output.ensures c.in_ok-printed.ensures;
      is_judged = judged_lax c.args.strict (IsRefusing source) printed lax;
    }
