use Rattle.std.proofs.Common.{◌≡◌, ◌++◌, flat_map, take}
use Rattle.report_figures.specs.declared.limits.Bound.TheVariants.{AtLeast, AtMost}
use Rattle.view_commands.specs.Options.{limits_from}
use Rattle.view_commands.proofs.limits.limits_in.Given as goal

-- the limits so far
abbrev pub invariant-loop-text : goal.invariant-loop-text
invariant-loop-text l = l.limits.items ≡ flat_map (λ text. limits_from AtMost text.now) l.most ++ flat_map (λ text. limits_from AtLeast text.now)
    (take l.text-index l.least)
