use Rattle.std.proofs.Common.{◌≡◌, ◌++◌, take, flat_map, string_bytes}
use Rattle.core_loads.specs.Loads.{cell_text}
use Rattle.core_loads.proofs.loads.push_shares.Given as goal

abbrev pub invariant-loop-time : goal.invariant-loop-time
invariant-loop-time l =
    string_bytes l.text
    ≡ string_bytes l.fn.text ++ flat_map (cell_text l.run) (take l.time-index l.times)
