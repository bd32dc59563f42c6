use Rattle.std.proofs.Common.{◌≡◌, drop, map, bytes_eq}
use Rattle.std.specs.List.{list_any}
use Rattle.json_data.proofs.item.is_one_of.Given as goal

-- none so far is the name, so that only those from here on are left to look at
abbrev pub invariant-loop-name : goal.invariant-loop-name
invariant-loop-name l =
    list_any (bytes_eq l.key) (map (λ known. known.now) (drop l.name-index l.names)) ≡ list_any (bytes_eq l.key) (map (λ known. known.now) l.names)
