use Rattle.std.proofs.Common.{ℕ, Option, Some, None, ap, sym, ◌∙◌}
use Rattle.run_numbers.proofs.forget.forget_raised.Goals as goal

task_in : Option (ℕ × ℕ) → ℕ
task_in None = 0
task_in (Some raised) = raised.0

pub returns-in-Some : goal.returns-in-Some
unfolding task_in
returns-in-Some c task look known =
    let it = c.forget.ensures task look known in
    (it.0, λ raised is same. it.1 (sym (ap task_in c.in-Some.is) ∙ ap task_in is ∙ same))
