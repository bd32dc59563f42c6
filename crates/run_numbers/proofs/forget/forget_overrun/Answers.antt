use Rattle.run_numbers.proofs.forget.forget_overrun.Goals as goal

pub returns-in-Some : goal.returns-in-Some
returns-in-Some c task look known =
    let it = c.forget.ensures task look known in
    (it.0, λ overrun is same. it.1 (cc (c.in-Some.is, is, same)))
