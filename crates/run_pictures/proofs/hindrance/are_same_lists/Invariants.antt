use Rattle.std.proofs.Common.{◌≡◌, drop}
use Rattle.bench_model.specs.SameTest.{are_same_lists}
use Rattle.run_pictures.specs.Same.{are_same_hindrances}
use Rattle.run_pictures.proofs.hindrance.are_same_lists.Given as goal

-- those from here on decide
abbrev pub invariant-loop-index : goal.invariant-loop-index
invariant-loop-index l = are_same_lists are_same_hindrances l.hindrances l.others ≡ are_same_lists are_same_hindrances (drop l.index l.hindrances)
    (drop l.index l.others)
