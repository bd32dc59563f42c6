use Rattle.std.proofs.Common.{subst, sym}
use Rattle.core_scripts.specs.Parts.{IsUnderWay}
use Rattle.core_scripts.proofs.Parts.{initial, goes_on, its_still, may_act, same_again, same_through, taken_one}
use Rattle.core_scripts.proofs.part.act_all.Goals as goal

pub loop-done-init : goal.loop-done-init
loop-done-init g c = record {
  same = same_again c.args.seat.now;
  under_way = initial c.args.rig.now c.args.seat.now c.requires.new;
}

pub act_once-passed_over-requires-clause-own : goal.act_once-passed_over-requires-clause-own
act_once-passed_over-requires-clause-own g c = its_still c.args.rig.now c.args.seat.now c.loop-done.seat c.loop-done.invariant.same c.requires.own

pub act_once-passed_over-requires-clause-core_action : goal.act_once-passed_over-requires-clause-core_action
act_once-passed_over-requires-clause-core_action g c =
    may_act c.args.seat.now c.loop-done.seat c.args.script.now c.loop-done.done _ c.loop-done.invariant.same c.loop-done-test.true c.requires.script

pub loop-done-preserved : goal.loop-done-preserved
loop-done-preserved g c =
    let made = c.act_once-passed_over in
    record {
      same = same_through c.args.seat.now c.loop-done.seat made.new.seat c.loop-done.invariant.same made.ensures.same;
      under_way =
          subst (λ script. IsUnderWay script made.new.seat) (sym (taken_one c.args.script.now c.loop-done.done _ c.loop-done-test.true))
          (goes_on _ _ c.loop-done.seat c.loop-done.invariant.under_way made.new.seat made.result made.ensures.does);
    }
