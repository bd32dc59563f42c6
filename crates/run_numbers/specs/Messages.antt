-- How many messages a queue has in a run.
use Rattle.std.specs.Prelude.{ℕ, suc, List, length, map}
use Rattle.list_orders.specs.Search.{numbers}
use Rattle.bench_types.specs.declared.header.Header.{Header}
use Rattle.bench_types.specs.declared.step.Step.{Step}
use Rattle.bench_model.specs.Queues.{queue_at}
use Rattle.bench_model.specs.Session.{state_at}
use Rattle.bench_model.specs.Tally.{greatest}

module _ (header : Header) (steps : List Step) where
  -- the messages of the queue at a place
  abbrev pub messages_at : ℕ → ℕ → ℕ
  messages_at queue place = (queue_at (state_at header steps place).queues queue).messages

  -- the greatest number of them over all places
  abbrev pub most_messages : ℕ → ℕ
  most_messages queue = greatest (map (messages_at queue) (numbers (suc (length steps))))
