use Rattle.std.proofs.Common.{◌+◌, ◌∷◌, ◌++◌, [], List, Option, Bool, length, ap, ◌∙◌}
use Rattle.std.proofs.lemmas.List.{length-append}
use Rattle.known_limits.specs.Before.{row_at}
use Rattle.known_limits.proofs.Rowed.{more_empty}
use Rattle.known_limits.proofs.rows.empty_rows.Goals as goal

pub loop-row-preserved : goal.loop-row-preserved
loop-row-preserved c =
    let rows = c.loop-row.rows.items in
    let is = c.in_ok-push.ensures.items ∙ ap (λ (row : List (Option Bool)). rows ++ row ∷ []) c.new.ensures in
    record {
      many = ap (λ (rows : List (List (Option Bool))). length rows) is ∙ length-append rows ([] ∷ []) ∙ ap (λ n. n + 1) c.loop-row.invariant.many;
      empty = λ row. ap (λ (rows : List (List (Option Bool))). row_at rows row) is ∙ more_empty rows c.loop-row.invariant.empty row;
    }
