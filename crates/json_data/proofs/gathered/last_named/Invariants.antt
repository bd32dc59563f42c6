use Rattle.std.proofs.Common.{◌≡◌, ◌≤◌, drop, length, None}
use Rattle.json_data.specs.Held.{last_named}
use Rattle.json_data.proofs.gathered.last_named.Given as goal

abbrev pub decreases-loop-at : goal.decreases-loop-at
decreases-loop-at l = l.at

-- none from here on has the name
abbrev pub invariant-loop-at : goal.invariant-loop-at
invariant-loop-at l = record {
  none : last_named l.name (drop l.at l.held) ≡ None;
  within : l.at ≤ length l.held;
}
