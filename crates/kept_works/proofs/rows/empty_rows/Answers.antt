use Rattle.std.proofs.Common.{◌+◌, ◌∷◌, ◌++◌, [], ℕ, List, length, ap, ◌∙◌}
use Rattle.std.proofs.lemmas.List.{length-append}
use Rattle.kept_works.specs.Rows.{row_at}
use Rattle.kept_works.proofs.Loops.{more_empty}
use Rattle.kept_works.proofs.rows.empty_rows.Goals as goal

pub loop-row-preserved : goal.loop-row-preserved
loop-row-preserved c =
    let rows = c.loop-row.rows.items in
    let is = c.in_ok-push.ensures.items ∙ ap (λ (row : List ℕ). rows ++ row ∷ []) c.new.ensures in
    record {
      many = ap (λ (rows : List (List ℕ)). length rows) is ∙ length-append rows ([] ∷ []) ∙ ap (λ n. n + 1) c.loop-row.invariant.many;
      empty = λ row. ap (λ (rows : List (List ℕ)). row_at rows row) is ∙ more_empty rows c.loop-row.invariant.empty row;
    }
