use Rattle.std.proofs.Common.{◌≡◌, ◌++◌, drop}
use Rattle.bench_types.specs.Session.{Session}
use Rattle.session_edits.specs.Refused.{untried_from, IsCounted}
use Rattle.session_edits.proofs.refused.refused_alone.Given as goal

abbrev pub invariant-loop-index : goal.invariant-loop-index
invariant-loop-index l = (session : Session) → IsCounted l.steps l.edits session
    → l.refused.items ++ untried_from l.index session (drop l.index l.edits) ≡ untried_from 0 session l.edits
