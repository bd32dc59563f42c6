use Rattle.std.proofs.Common.{take, string_bytes}
use Rattle.session_advice.specs.Advice.{AddsEntries}
use Rattle.session_advice.specs.Basis.{basis_of}
use Rattle.session_advice.proofs.entries.push_entries.Given as goal

abbrev pub invariant-loop-place : goal.invariant-loop-place
invariant-loop-place l =
    AddsEntries (basis_of l.base) l.changes (take l.place l.best) (string_bytes l.fn.text) (string_bytes l.text)
