use Rattle.std.proofs.Common.{◌+◌, ◌-◌, ◌∙◌, List, ℕ, length, ap, arith}
use Rattle.std.specs.List.{range_with_len}
use Rattle.list_orders.specs.Search.{has}
use Rattle.bench_model.specs.Cores.{CoresView}
use Rattle.ready_core.specs.Fields.{unlisted, all_placed}
use Rattle.ready_core.proofs.Firsts.{unlisted_tasks, idle_later, all_listed}
use Rattle.ready_core.proofs.cores.Cores.new.Goals as goal

pub push_range-requires-clause-tasks : goal.push_range-requires-clause-tasks
push_range-requires-clause-tasks c =
    omega (arith, ap (λ (v : CoresView). length v.control.tasks) c.in_ok-start.ensures, unlisted_tasks c.args.header.now, ap length c.as_slice.ensures)

pub push_range-requires-2-clause-tasks : goal.push_range-requires-2-clause-tasks
push_range-requires-2-clause-tasks c =
    omega (
      arith,
      ap (λ (v : CoresView). length v.control.tasks) c.push_range.ensures,
      ap (λ (v : CoresView). length v.control.tasks) c.in_ok-start.ensures,
      unlisted_tasks c.args.header.now,
    )

pub push_range-requires-2-clause-free : goal.push_range-requires-2-clause-free
push_range-requires-2-clause-free c = λ t low high.
    let header = c.args.header.now in
    let users = header.config.cores + length c.as_slice.result.now - header.config.cores in
    ap (λ (v : CoresView). has t v.ready) c.push_range.ensures
    ∙ ap (λ (v : CoresView). has t (all_placed v.control (range_with_len header.config.cores users) v.ready)) c.in_ok-start.ensures
    ∙ idle_later (unlisted header).control t header.config.cores users high

abbrev after : List ℕ → CoresView → CoresView
after tasks view = record view { ready = all_placed view.control tasks view.ready }

pub returns : goal.returns
returns c =
    let header = c.args.header.now in
    let cores = header.config.cores in
    let users = length c.as_slice.result.now in
    c.push_range-2.ensures ∙ ap (after (range_with_len 0 (cores - 0))) (c.push_range.ensures ∙ ap (after (range_with_len cores (cores + users - cores)))
    c.in_ok-start.ensures)
    ∙ all_listed header users (ap length c.as_slice.ensures)
