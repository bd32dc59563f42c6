use Rattle.std.proofs.Common.{◌≡◌, ◌++◌, flat_map, take, string_bytes}
use Rattle.std.specs.Prelude.{filter}
use Rattle.run_comparisons.specs.RowWords.{differs}
use Rattle.run_comparisons.specs.Shown.{row_told}
use Rattle.run_comparisons.proofs.comparison.push_lines.Given as goal

abbrev pub invariant-loop-row : goal.invariant-loop-row
invariant-loop-row l = record {
  lines : string_bytes l.text ≡ string_bytes l.fn.text
      ++ flat_map (row_told l.fn.known l.fn.shown l.fn.before l.fn.after) (take l.row-index l.rows);
  differing : l.differing.items ≡ filter (differs l.fn.before l.fn.after) (take l.row-index l.rows);
  before : l.before ≡ l.fn.before;
  after : l.after ≡ l.fn.after;
}
