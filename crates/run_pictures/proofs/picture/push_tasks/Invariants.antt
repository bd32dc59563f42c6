use Rattle.std.proofs.Common.{◌≡◌, ◌+◌, ◌*◌, ◌++◌, flat_map, string_bytes}
use Rattle.list_orders.specs.Search.{numbers}
use Rattle.run_pictures.specs.declared.frame.TheConstants.{TASK_ROW}
use Rattle.run_pictures.specs.TaskBands.{task_row}
use Rattle.run_pictures.proofs.picture.push_tasks.Given as goal

abbrev pub invariant-loop-user : goal.invariant-loop-user
invariant-loop-user l = string_bytes l.text ≡ string_bytes l.initial.text ++ flat_map
    (λ user. task_row l.header l.frame (l.y + TASK_ROW * user) l.looks l.detail (l.header.config.cores + user)) (numbers l.user)
