use Rattle.std.proofs.Common.{◌≡◌, suc, ◌+◌, ◌-◌, ◌/◌, length, take, drop}
use Rattle.bench_types.specs.declared.header.Header.{Header}
use Rattle.session_store.specs.Trials.{AreTalliedFrom, IsReplay}
use Rattle.session_store.proofs.LaterSums.{AreFrom}
use Rattle.session_store.proofs.sums.sums_after.Given as goal

abbrev pub invariant-loop-index : goal.invariant-loop-index
invariant-loop-index l = record {
  total : (header : Header) → IsReplay header l.segments → AreTalliedFrom header (take l.index l.segments) (drop l.index l.segments) l.total;
  each : (header : Header) → IsReplay header l.segments → AreFrom header l.segments (suc (l.index / 16)) l.after.items;
  many : length l.after.items + l.index / 16 ≡ (length l.segments - 1) / 16;
}
