use Rattle.std.proofs.Common.{◌≡◌, ◌++◌, map, take, string_bytes}
use Rattle.text_locations.specs.Quoted.{quoted_byte}
use Rattle.text_locations.proofs.quoted.push_quoted.Given as goal

abbrev pub invariant-loop-byte : goal.invariant-loop-byte
invariant-loop-byte l = string_bytes l.text ≡ string_bytes l.initial.text ++ map quoted_byte (take l.byte-index l.byte-items)
