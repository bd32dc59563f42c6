-- A reply with the tasks that run then.
use Rattle.std.specs.Prelude.{ℕ, List}
use Rattle.std.specs.Global.{Vec}
use Rattle.bench_types.specs.declared.reply.Reply.{Reply}

-- an outcome with its row as a list
abbrev pub shown : Reply × Vec ℕ → Reply × List ℕ
shown outcome = (outcome.0, outcome.1.items)
