use Rattle.std.proofs.Common.{◌≡◌, ℕ, length, ap, subst, arith}
use Rattle.bench_model.specs.Table.{Table}
use Rattle.slow_replay.proofs.SlowSlices.{IsSlicing, slicing_goes, slicing_length, slicing_ends, slicing_off}
use Rattle.slow_replay.proofs.slow.SlowTable.slice.Goals as goal

abbrev core_count : Table → ℕ
core_count table = length table.control.cores

pub returns-then-not-self : goal.returns-then-not-self
returns-then-not-self c = slicing_off c.args.self.now (grind (arith, c.if-not-self.true))

pub end_slice-requires : goal.end_slice-requires
end_slice-requires c = omega (
  arith,
  c.self.invariant.cores,
  ap core_count c.self.view_is,
  slicing_length c.args.self.now c.loop-core.self c.loop-core.core
      c.loop-core.invariant (omega (arith, c.self.invariant.cores, ap core_count c.self.view_is)),
)

pub loop-core-preserved : goal.loop-core-preserved
loop-core-preserved c = slicing_goes c.args.self.now c.loop-core.self c.end_slice.new.self c.loop-core.core c.loop-core.invariant
    (omega (arith, c.self.invariant.cores, ap core_count c.self.view_is)) c.end_slice.ensures

pub returns : goal.returns
returns c =
    let all : c.loop-core.core ≡ length c.args.self.now.control.cores = omega (arith, c.self.invariant.cores, ap core_count c.self.view_is) in
    slicing_ends c.args.self.now c.loop-core.self (subst (λ core. IsSlicing c.args.self.now core c.loop-core.self) all c.loop-core.invariant)
    (grind (arith, c.if-not-self.false))
