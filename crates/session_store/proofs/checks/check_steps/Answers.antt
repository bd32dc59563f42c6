use Rattle.std.proofs.Common.{arith, subst}
use Rattle.std.specs.Prelude.{All}
use Rattle.std.proofs.lemmas.Grind.{common_steps}
use Rattle.std.proofs.lemmas.List.{take_all}
use Rattle.std.proofs.lemmas.List.Elements.{All-more}
use Rattle.bench_types.specs.Step.{settings_of, IsCheckedStep}
use Rattle.session_store.proofs.checks.check_steps.Goals as goal

pub loop-at-preserved : goal.loop-at-preserved
loop-at-preserved c = record {
  value = grind (arith, common_steps);
  checked = All-more (IsCheckedStep (settings_of c.args.header.now)) c.args.steps.now c.loop-at.at _ c.loop-at-test.true c.loop-at.invariant.checked
      c.in_default.ensures.checked;
}

pub returns-clause-checked : goal.returns-clause-checked
returns-clause-checked c = subst (All (IsCheckedStep (settings_of c.args.header.now))) (take_all c.loop-at.at c.args.steps.now c.loop-at-test.false)
    c.loop-at.invariant.checked
