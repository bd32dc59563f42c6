use Rattle.std.proofs.Common.{rules, ◌≡◌, ◌∙◌, replicate, None, ap}
use Rattle.smp_kernel.specs.Deadlines.{left_after, lefts}
use Rattle.smp_kernel.proofs.Lefts.{map_replicate}
use Rattle.smp_kernel.proofs.deadlines.Deadlines.new.Goals as goal

pub returns : goal.returns
returns c =
    let items : c.in_ok-vec.field-0.items ≡ replicate c.args.tasks None = search rules in
    ap (lefts 0) items ∙ map_replicate (left_after 0) c.args.tasks None
