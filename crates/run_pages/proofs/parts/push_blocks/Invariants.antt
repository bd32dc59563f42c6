use Rattle.std.proofs.Common.{◌≡◌, ◌+◌, ◌++◌, drop, map, string_bytes}
use Rattle.run_pages.proofs.PageTexts.{blocks_told}
use Rattle.run_pages.proofs.parts.push_blocks.Given as goal

abbrev pub invariant-loop-k : goal.invariant-loop-k
invariant-loop-k l = string_bytes l.text ++ blocks_told (l.first + l.k) (map string_bytes (drop l.k l.places)) ≡ string_bytes l.initial.text ++ blocks_told
    l.first (map string_bytes l.places)
