use Rattle.std.proofs.Common.{◌+◌, ◌++◌, ◌∷◌, List, length, drop, sym, ap, ◌∙◌, arith}
use Rattle.std.proofs.lemmas.List.{drop_all, take_all}
use Rattle.index_lists.specs.Listed.{Listed, list_at, items_of, with_list}
use Rattle.index_lists.specs.Rings.{first_or}
use Rattle.index_lists.proofs.lists.Lists.push_keyed.Goals as goal

pub insert-requires-clause-place : goal.insert-requires-clause-place
insert-requires-clause-place c =
    let row = list_at c.args.self.now c.args.list in (
      length row,
      omega arith,
      c.end_of.ensures ∙ ap (λ (rest : List Listed). first_or (c.args.self.now.items + c.args.list) (items_of rest))
          (sym (drop_all (length row) row (omega arith))),
    )

pub returns : goal.returns
returns c =
    let row = list_at c.args.self.now c.args.list in
    let entry : Listed = record { item = c.args.item; key = c.args.key } in
    let end = c.end_of.ensures ∙ ap (λ (rest : List Listed). first_or (c.args.self.now.items + c.args.list) (items_of rest))
    (sym (drop_all (length row) row (omega arith))) in
    c.insert.ensures (length row) (omega arith) end
    ∙ ap (λ (front : List Listed). with_list c.args.list (front ++ entry ∷ drop (length row) row) c.args.self.now) (take_all (length row) row (omega arith))
    ∙ ap (λ (rest : List Listed). with_list c.args.list (row ++ entry ∷ rest) c.args.self.now) (drop_all (length row) row (omega arith))
