use Rattle.std.proofs.Common.{◌≡◌, ◌++◌, flat_map, string_bytes}
use Rattle.std.specs.Prelude.{slice_index_or}
use Rattle.list_orders.specs.Search.{numbers}
use Rattle.run_pictures.specs.declared.signs.Sign.TheVariants.{Running}
use Rattle.run_pictures.specs.Signs.{entry_text}
use Rattle.run_pictures.proofs.signs.push_entries.Given as goal

abbrev pub invariant-loop-k : goal.invariant-loop-k
invariant-loop-k l = string_bytes l.text ≡ string_bytes l.initial.text ++ flat_map (λ k. entry_text l.y k (slice_index_or l.signs k Running)) (numbers l.k)
