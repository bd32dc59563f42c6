use Rattle.std.proofs.Common.{◌++◌, ◌∷◌, [], ℕ, List, cond, eqb, length, ap, sym, ◌∙◌, arith}
use Rattle.std.proofs.lemmas.List.{length-set}
use Rattle.kept_works.specs.Asked.{asked_at}
use Rattle.kept_works.specs.Rows.{row_at}
use Rattle.kept_works.proofs.Loops.{filter_more, row_put}
use Rattle.kept_works.proofs.asked.sorted.Goals as goal

pub loop-index-preserved : goal.loop-index-preserved
loop-index-preserved c =
    let rows = c.loop-index.rows.items in
    let index = c.loop-index.index in
    let own = (asked_at c.args.asked.now index).place in
    record {
      many = ap (λ (rows : List (List ℕ)). length rows) c.in_ok-push_to.ensures ∙ length-set rows own (row_at rows own ++ index ∷ [])
          ∙ c.loop-index.invariant.many;
      each = λ place within.
          ap (λ (rows : List (List ℕ)). row_at rows place) c.in_ok-push_to.ensures
          ∙ row_put rows own place index (omega (arith, c.loop-index.invariant.many, c.requires.places index (record { task = 0; place = 0 }) c.loop-index-test.true))
          ∙ ap (λ (row : List ℕ). row ++ cond (eqb own place) (index ∷ []) []) (c.loop-index.invariant.each place within)
          ∙ sym (filter_more (λ (k : ℕ). eqb (asked_at c.args.asked.now k).place place) index);
    }
