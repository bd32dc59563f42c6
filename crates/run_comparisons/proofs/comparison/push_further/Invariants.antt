use Rattle.std.proofs.Common.{◌≡◌, ◌++◌, flat_map, take, string_bytes}
use Rattle.run_comparisons.specs.Comparison.{further_text}
use Rattle.run_comparisons.proofs.comparison.push_further.Given as goal

abbrev pub invariant-loop-place : goal.invariant-loop-place
invariant-loop-place l = string_bytes l.text ≡ string_bytes l.fn.text ++ flat_map further_text (take l.place-index l.places)
