use Rattle.std.proofs.Common.{ℕ, ◌-◌, eqb, List, [], ◌∷◌, ◌∙◌, ap, sym, arith}
use Rattle.std.specs.List.{range_with_len}
use Rattle.std.proofs.lemmas.Bool.Decides.{nat_tests}
use Rattle.list_orders.specs.Search.{placed, has}
use Rattle.list_orders.proofs.Filters.{fold-append}
use Rattle.list_orders.proofs.Ranks.{list_any-placed}
use Rattle.bench_model.specs.Lists.{outranks}
use Rattle.bench_model.specs.Cores.{CoresView}
use Rattle.ready_core.specs.Fields.{all_placed}
use Rattle.ready_core.proofs.Firsts.{range_upto}
use Rattle.ready_core.proofs.cores.Cores.push_range.Goals as goal

pub loop-task-preserved : goal.loop-task-preserved
loop-task-preserved c =
    let view = c.args.self.now in
    let task = c.loop-task.task in
    let before = c.loop-task.self in
    let so_far = range_with_len c.args.from (task - c.args.from) in
    let more = ap (λ (tasks : List ℕ). all_placed view.control tasks view.ready) (range_upto c.args.from task c.loop-task.auto.task) ∙ fold-append
    (λ (ready : List ℕ) (t : ℕ). placed (outranks view.control) t ready) view.ready so_far (task ∷ []) in
    record {
      placed = c.push.ensures ∙ ap (λ (v : CoresView). record v { ready = placed (outranks v.control) task v.ready }) c.loop-task.invariant.placed ∙ ap
          (λ (ready : List ℕ). record view { ready = ready }) (sym more);
      free = λ t low high.
          let there = list_any-placed (outranks before.control) (λ m. eqb m t) task before.ready in
          let absent = c.loop-task.invariant.free t (omega (arith, low)) high in
          ap (λ (v : CoresView). has t v.ready) c.push.ensures ∙ there ∙ grind (arith, nat_tests, low, absent);
    }
