use Rattle.run_comparisons.proofs.Aligned.{rows_on}
use Rattle.run_comparisons.proofs.rows.push_rows.Goals as goal

pub loop-place-preserved : goal.loop-place-preserved
loop-place-preserved c = rows_on c.args.count c.loop-place.next _ c.loop-place.place c.args.origins.now _ c.args.rows.now.items c.loop-place.rows.items _
    c.loop-place-test.true c.in_ok-next.ensures.rows c.in_ok-next.ensures.next c.loop-place.invariant
