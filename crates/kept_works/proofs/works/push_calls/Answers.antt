use Rattle.std.proofs.Common.{◌≡◌, ◌+◌, ◌++◌, ◌<◌, Global, List, Some, Vec, fold, length, drop, get_or, ap, sym, ◌∙◌, arith, rules}
use Rattle.std.specs.Prelude.{slice_set}
use Rattle.kept_runs.specs.declared.clocks.Clock.{Clock}
use Rattle.kept_runs.specs.declared.works.Unmade.{Unmade}
use Rattle.kept_runs.specs.Items.{Item}
use Rattle.kept_works.specs.Places.{waiting_call}
use Rattle.kept_works.specs.Works.{placed_by}
use Rattle.kept_runs.specs.Clocks.{elapsed, zero_clock}
use Rattle.kept_runs.specs.Works.{Placed, changed_work, works_from}
use Rattle.keeping.specs.Works.{clock_at}
use Rattle.kept_works.proofs.Calls.{call_on, no_call, placed_end}
use Rattle.kept_works.proofs.works.push_calls.Goals.{in-Some+in_ok-push, in_default}
use Rattle.kept_works.proofs.works.push_calls.Goals as goal

pub loop-index-preserved : goal.loop-index-preserved
loop-index-preserved c =
    let items = c.args.items.now in
    let clocks = c.args.clocks.now in
    let index = c.loop-index.index in
    let item = c.index-items-index.result in
    let got : get_or items index item ≡ item = search rules in
    let calls : waiting_call (get_or items index item).step ≡ c.waiting_call.result =
    ap (λ (item : Item). waiting_call item.step) got ∙ sym (ap waiting_call c.step.ensures) ∙ sym c.waiting_call.ensures in
    record {
      many = omega (arith, c.match-waiting_call.auto.last, c.loop-index.invariant.many);
      works = λ ends tasks. c.loop-index.invariant.works ends tasks ∙ elim c.match-waiting_call.branch [
        | in-Some+in_ok-push w ↦
            let low : w.in-Some.waits.task < length c.loop-index.last =
            omega (arith, c.requires.tasks index item c.loop-index-test.true w.in-Some.waits (calls ∙ w.in-Some.is), c.loop-index.invariant.many) in
            call_on items clocks index item zero_clock c.loop-index-test.true c.requires.many w.in-Some.waits c.loop-index.unmade.items
            c.match-waiting_call.unmade.items c.loop-index.last c.match-waiting_call.last _ ends tasks (calls ∙ w.in-Some.is) low
            (ap (λ (unmade : Vec Unmade Global). unmade.items) w.unmade-is ∙ w.in_ok-push.ensures.items)
            (ap (λ (work : Clock). record { task = w.in-Some.waits.task; call = Some w.in-Some.waits.call; work = work })
            (w.with_changes.ensures
            ∙ (λ i. fold changed_work (w.elapsed-work.ensures.elapsed i) (w.changes.ensures i))
            ∙ ap (λ (item : Item). fold changed_work
            (elapsed (clock_at c.loop-index.last w.in-Some.waits.task) (get_or clocks index zero_clock)) item.changes) (sym got)))
            (w.last-is ∙ ap (slice_set c.loop-index.last w.in-Some.waits.task) w.later_clock.ensures)
        | in_default w ↦
            ap (λ (placed : List Placed). c.loop-index.unmade.items ++ works_from ends (clock_at c.loop-index.last) tasks placed)
            (no_call items clocks index item zero_clock c.loop-index-test.true c.requires.many (calls ∙ w.in_default.is))
            ∙ (λ i. (sym w.unmade-is i).items ++ works_from ends (clock_at (sym w.last-is i)) tasks (placed_by (drop (index + 1) clocks) (drop (index + 1) items)))
      ];
    }

pub returns-clause-works : goal.returns-clause-works
returns-clause-works c ends tasks =
    c.loop-index.invariant.works ends tasks
    ∙ ap (λ (placed : List Placed). c.loop-index.unmade.items ++ works_from ends (clock_at c.loop-index.last) tasks placed)
    (placed_end c.args.items.now c.args.clocks.now c.loop-index.index c.loop-index-test.false)
