use Rattle.std.proofs.Common.{◌≡◌, drop, map, None}
use Rattle.json_data.specs.Held.{least_held}
use Rattle.json_data.proofs.gathered.are_known.Given as goal

-- those so far are known, so that only those from here on are left to look at
abbrev pub invariant-loop-member : goal.invariant-loop-member
invariant-loop-member l =
    let names = map (λ name. name.now) l.names in
    least_held names (drop l.member-index l.held) None ≡ least_held names l.held None
