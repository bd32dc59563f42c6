use Rattle.std.proofs.Common.{◌+◌, take, get_or, sym, subst, ap, ◌∙◌, Global, Vec}
use Rattle.bench_types.specs.declared.step.Step.TheVariants.{Tick}
use Rattle.kept_works.specs.declared.rows.Row.{Row}
use Rattle.kept_works.specs.Places.{AreRowsOf}
use Rattle.kept_works.proofs.Placings.{rows_on, rows_pass}
use Rattle.kept_works.proofs.Rowed.{row_low}
use Rattle.kept_works.proofs.places.places_in_rows.Goals.{in-Some+in_ok-push_to, in_default}
use Rattle.kept_works.proofs.places.places_in_rows.Goals as goal

pub loop-place-preserved : goal.loop-place-preserved
loop-place-preserved c =
    let tasks = c.args.tasks in
    let run = c.args.run.now in
    let place = c.loop-place.place in
    let rows = c.loop-place.rows.items in
    elim c.match-row_of.branch [
      | in-Some+in_ok-push_to w ↦
          let is = sym c.row_of.ensures ∙ w.in-Some.is in
          let low = row_low tasks (get_or run place Tick) w.in-Some.row (c.requires.rows place Tick c.loop-place-test.true) is in
          let items = ap (λ (rows : Vec Row Global). rows.items) w.rows-is ∙ w.in_ok-push_to.ensures in
          subst (AreRowsOf tasks (take (place + 1) run)) (sym items)
          (rows_on tasks run place Tick c.loop-place-test.true rows w.in-Some.row is low c.loop-place.invariant)
      | in_default w ↦
          let is = sym c.row_of.ensures ∙ w.in_default.is in
          subst (λ (rows : Vec Row Global). AreRowsOf tasks (take (place + 1) run) rows.items) (sym w.rows-is)
          (rows_pass tasks run place Tick c.loop-place-test.true rows is c.loop-place.invariant)
    ]
