use Rattle.std.proofs.Common.{◌≡◌, drop, map}
use Rattle.session_text.specs.UnknownName.{is_unknown}
use Rattle.session_text.proofs.unknown_name.is_unknown.Given as goal

-- it is left to the names from here on
abbrev pub invariant-loop-other : goal.invariant-loop-other
invariant-loop-other l = is_unknown (map (λ name. name.now) (drop l.other-index l.names)) l.name ≡ is_unknown (map (λ name. name.now) l.names) l.name
