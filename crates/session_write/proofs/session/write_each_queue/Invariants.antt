use Rattle.std.proofs.Common.{◌≡◌, ◌∷◌, Some}
use Rattle.json.specs.Token.{end_array}
use Rattle.session_write.specs.Tokens.{with_value}
use Rattle.session_write.specs.Written.{queue_data, queues_data}
use Rattle.session_write.proofs.Tokens.{with_rest}
use Rattle.session_write.proofs.session.write_each_queue.Given as goal

abbrev pub invariant-loop-queue : goal.invariant-loop-queue
invariant-loop-queue l = end_array ∷ with_rest queue_data l.queues l.queue-index l.scribe ≡ with_value (queues_data (Some l.queues)) l.fn.scribe
