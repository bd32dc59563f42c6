use Rattle.std.proofs.Common.{◌≡◌, ◌++◌, map, take, string_bytes}
use Rattle.session_text.specs.Nearest.{printable}
use Rattle.session_text.proofs.nearest.push_printable.Given as goal

abbrev pub invariant-loop-byte : goal.invariant-loop-byte
invariant-loop-byte l = string_bytes l.known ≡ string_bytes l.initial.known ++ map printable (take l.byte-index l.byte-items)
