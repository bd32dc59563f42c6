use Rattle.std.proofs.Common.{ℕ, map, ◌∷◌, [], ◌++◌, ◌∙◌, ap, sym}
use Rattle.ready_core.proofs.Firsts.{seats_more}
use Rattle.list_orders.specs.Search.{numbers}
use Rattle.ready_core.specs.Fields.{first_seat}
use Rattle.ready_core.proofs.first.first_seats.Goals as goal

pub loop-task-preserved : goal.loop-task-preserved
loop-task-preserved c =
    c.in_ok-push.ensures.items ∙ ap (λ seats. seats ++ c.first_seat.result ∷ []) c.loop-task.invariant ∙ ap
    (λ (seat : ℕ). map (first_seat c.args.cores) (numbers c.loop-task.task) ++ seat ∷ []) c.first_seat.ensures ∙ sym
    (seats_more c.args.cores c.loop-task.task)
