use Rattle.std.proofs.Common.{◌≡◌, take, bytes_eq, false}
use Rattle.std.specs.List.{list_any}
use Rattle.json_data.proofs.seen.SeenNames.has.Given as goal

-- none so far is the name
abbrev pub invariant-loop-few : goal.invariant-loop-few
invariant-loop-few l = list_any (λ few. bytes_eq l.name few.now) (take l.few-index l.few-items)
    ≡ false
