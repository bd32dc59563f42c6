use Rattle.std.proofs.Common.{◌≡◌, ◌≤◌, ◌*◌, ◌-◌, ◌^◌, take}
use Rattle.std.specs.List.{sum}
use Rattle.report_pages.proofs.responses.total.Given as goal

abbrev pub invariant-loop-count : goal.invariant-loop-count
invariant-loop-count l = record {
  value : l.all ≡ sum (take l.count-index l.counts);
  room : l.all ≤ l.count-index * (2 ^ 32 - 1);
}
