use Rattle.std.proofs.lemmas.Result.{on_ok_weaker}
use Rattle.session_write.proofs.session.write_tail.Goals as goal

pub returns : goal.returns
returns c = on_ok_weaker c.whole.result
    (λ last. rw (c.in_ok-write_tasks.ensures, c.as_slice.ensures, c.in_ok-name-2.ensures, c.in_ok-write_steps.ensures, c.in_ok-name.ensures, c.in_ok-flag.ensures) at last)
    c.whole.ensures
