use Rattle.bench_types.specs.Session.{Session}
use Rattle.session_edits.specs.Refused.{IsCounted}
use Rattle.session_edits.proofs.Listed.{IsOnTheWay}
use Rattle.session_edits.proofs.refused.refused_in_turn.Given as goal

abbrev pub invariant-loop-index : goal.invariant-loop-index
invariant-loop-index l = (session : Session) → IsCounted l.steps l.edits session → IsOnTheWay session l.edits l.index l.count l.refused.items
