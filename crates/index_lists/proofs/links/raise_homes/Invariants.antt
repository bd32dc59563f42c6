use Rattle.std.proofs.Common.{◌≡◌, map, option_map, ◌++◌, take, drop}
use Rattle.index_lists.specs.Shape.{raised_home}
use Rattle.index_lists.proofs.links.raise_homes.Given as goal

-- the homes that were looked at are raised, and the others as they were
abbrev pub invariant-loop-home : goal.invariant-loop-home
invariant-loop-home l = l.home-items ≡ map (option_map (raised_home l.by)) (take l.home-index l.initial.home-items) ++ drop l.home-index l.initial.home-items
