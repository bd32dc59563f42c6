use Rattle.std.proofs.Common.{◌≡◌, ℕ, ◌+◌, ◌*◌, ◌<◌, ◌≤◌, List, length, take, Some}
use Rattle.std.specs.Prelude.{slice_get}
use Rattle.bench_types.specs.declared.header.Header.{Header}
use Rattle.bench_model.specs.Tally.{TaskTally}
use Rattle.session_store.specs.Sums.{block}
use Rattle.session_store.specs.Trials.{AreTallied, IsReplay}
use Rattle.session_store.proofs.sums.sums_before.Given as goal

abbrev pub invariant-loop-index : goal.invariant-loop-index
invariant-loop-index l = record {
  total : (header : Header) → IsReplay header l.segments → AreTallied header (take l.index l.segments) l.total;
  each : (header : Header) → IsReplay header l.segments → (k : ℕ) (sum : List TaskTally) → slice_get l.before.items k ≡ Some sum → AreTallied header
      (take (k * block) l.segments) sum;
  many : l.index ≤ length l.before.items * block;
  few : length l.before.items * block < l.index + block;
}
