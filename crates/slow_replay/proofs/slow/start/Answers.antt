use Rattle.std.proofs.Common.{◌≡◌, subst, arith}
use Rattle.bench_types.proofs.Passes.{checked_header}
use Rattle.slow_replay.proofs.SlowRuns.{IsStarting, starting_starts, starting_goes, starting_ends}
use Rattle.slow_replay.proofs.slow.start.Goals as goal

pub unstarted-requires-clause-cores : goal.unstarted-requires-clause-cores
unstarted-requires-clause-cores c = (checked_header c.args.header.now c.requires).few_cores

pub unstarted-requires-clause-notes : goal.unstarted-requires-clause-notes
unstarted-requires-clause-notes c = (checked_header c.args.header.now c.requires).few_notes

pub loop-core-init : goal.loop-core-init
loop-core-init c = starting_starts c.args.header.now c.in_ok-table.table c.requires c.in_ok-table.ensures

pub loop-core-preserved : goal.loop-core-preserved
loop-core-preserved c = starting_goes c.args.header.now c.loop-core.core c.loop-core.table c.switch.new.self c.loop-core.invariant (omega arith)
    c.switch.ensures

pub returns : goal.returns
returns c =
    let all : c.loop-core.core ≡ c.args.header.now.config.cores = omega arith in
    starting_ends c.args.header.now c.loop-core.table (subst (λ core. IsStarting c.args.header.now core c.loop-core.table) all c.loop-core.invariant)
