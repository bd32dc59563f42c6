use Rattle.std.proofs.Common.{◌<◌, ◌+◌, ◌-◌, ◌++◌, [], ◌∷◌, List, length, subst, ap, sym, ◌∙◌, append_assoc}
use Rattle.std.proofs.lemmas.List.{append-nil}
use Rattle.bench_types.specs.Limits.{max_steps}
use Rattle.run_comparisons.specs.declared.place_pair.PlacePair.{PlacePair}
use Rattle.run_comparisons.specs.declared.rows.Row.{Row}
use Rattle.run_comparisons.specs.SideBySide.{AreAligned}
use Rattle.run_comparisons.proofs.BothRuns.{fewer_left, next_after, next_before}
use Rattle.run_comparisons.proofs.Walks.{row_on}
use Rattle.run_comparisons.proofs.side_by_side.push_aligned.Goals as goal

pub past-at-requires : goal.past-at-requires
past-at-requires c =
    let next = sym c.next_row.ensures ∙ c.in-Some.is in
    record {
      before = next_before c.args.before.now c.args.after.now c.loop-row.at c.in-Some.row max_steps c.requires.before next;
      after = next_after c.args.before.now c.args.after.now c.loop-row.at c.in-Some.row max_steps c.requires.after next;
    }

pub loop-row-smaller : goal.loop-row-smaller
loop-row-smaller c =
    let next = sym c.next_row.ensures ∙ c.in-Some.is in
    let fewer = fewer_left c.args.before.now c.args.after.now c.loop-row.at c.in-Some.row next in
    subst (λ (at : PlacePair). length c.args.before.now - at.before + (length c.args.after.now - at.after) < length c.args.before.now - c.loop-row.at.before +
    (length c.args.after.now - c.loop-row.at.after)) (sym c.past-at.ensures) fewer

pub loop-row-preserved : goal.loop-row-preserved
loop-row-preserved c =
    let next = sym c.next_row.ensures ∙ c.in-Some.is in
    let made = c.loop-row.invariant.0 in (
      made ++ c.in-Some.row ∷ [],
      c.in_ok-push.ensures.items ∙ ap (λ (rows : List Row). rows ++ c.in-Some.row ∷ []) c.loop-row.invariant.1 ∙ append_assoc c.args.rows.now.items made
          (c.in-Some.row ∷ []),
      row_on c.args.before.now c.args.after.now c.args.from c.loop-row.at c.past-at.result made c.in-Some.row c.loop-row.invariant.2 next c.past-at.ensures,
    )

pub returns : goal.returns
returns c =
    let made = c.loop-row.invariant.0 in
    let all = c.loop-row.invariant.2 [] (sym c.next_row.ensures ∙ c.in_default.is) in (
      made,
      c.loop-row.invariant.1,
      subst (λ (rows : List Row). AreAligned c.args.before.now c.args.after.now c.args.from rows) (append-nil made) all,
    )
