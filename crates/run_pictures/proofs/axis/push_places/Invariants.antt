use Rattle.std.proofs.Common.{◌≡◌, ◌+◌, ◌++◌, flat_map, string_bytes}
use Rattle.list_orders.specs.Search.{numbers}
use Rattle.run_pictures.specs.Axis.{place_label}
use Rattle.run_pictures.proofs.axis.push_places.Given as goal

abbrev pub invariant-loop-k : goal.invariant-loop-k
invariant-loop-k l = string_bytes l.text ≡ string_bytes l.initial.text ++ flat_map (λ k. place_label l.frame l.y (l.frame.first + k) (l.frame.first + k)) (numbers l.k)
