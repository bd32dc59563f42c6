use Rattle.std.proofs.lemmas.Result.{on_ok_weaker}
use Rattle.session_write.proofs.session.write_first.Goals as goal

pub returns : goal.returns
returns c = on_ok_weaker c.end_object.result
    (λ ended. rw (c.in_ok-write_tail.ensures, c.in_ok-whole.ensures, c.in_ok-write_head.ensures, c.in_ok-begin_object.ensures) at ended)
    c.end_object.ensures
