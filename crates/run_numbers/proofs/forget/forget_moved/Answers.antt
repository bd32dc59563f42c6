use Rattle.std.proofs.Common.{◌≡◌, ◌≢◌, ◌==◌, ℕ, false, sym, ◌∙◌, arith}
use Rattle.std.proofs.lemmas.Bool.Decides.{nat_tests}
use Rattle.run_numbers.proofs.forget.forget_moved.Goals as goal

-- two tests that both fail
both_fail : (left now task : ℕ) → left ≢ task → now ≢ task → (left == task) ≡ (now == task)
both_fail left now task one other =
    let first : (left == task) ≡ false = grind (arith, nat_tests, one) in
    let second : (now == task) ≡ false = grind (arith, nat_tests, other) in
    first ∙ sym second

pub returns-clause-known : goal.returns-clause-known
returns-clause-known c task look known =
    let second = c.forget-2.ensures task look known in
    let first = c.forget.ensures task look second.0 in
    (first.0, both_fail _ _ task first.1 (λ same. second.1 (c.running-task.ensures.seen ∙ same)))
