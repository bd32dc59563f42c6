use Rattle.std.proofs.Common.{◌≡◌, ◌+◌, ◌-◌, ◌≤◌, length, drop}
use Rattle.std.specs.List.{position_or_len}
use Rattle.text_locations.specs.Path.{is_separator}
use Rattle.text_locations.proofs.path.piece_len.Given as goal

abbrev pub invariant-loop-len : goal.invariant-loop-len
invariant-loop-len l =
    (position_or_len is_separator l.path ≡ l.len + position_or_len is_separator (drop l.len l.path)) × (l.len ≤ length l.path)

abbrev pub decreases-loop-len : goal.decreases-loop-len
decreases-loop-len l = length l.path - l.len
