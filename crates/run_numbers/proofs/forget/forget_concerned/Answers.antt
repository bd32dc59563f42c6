use Rattle.run_numbers.proofs.forget.forget_concerned.Goals as goal

pub returns-clause-known : goal.returns-clause-known
returns-clause-known c task look known =
    let fourth = c.forget_caller.ensures task look known in
    let third = c.forget_overrun.ensures task look fourth.0 in
    let second = c.forget_raised.ensures task look third.0 in
    let first = c.forget_all_moved.ensures.known task look second.0 in
    (first.0, record { seats = first.1; raised = second.1; overrun = third.1; caller = fourth.1 })
