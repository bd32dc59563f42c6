use Rattle.std.proofs.Common.{◌≡◌, ◌<◌, ℕ, List, length, get_or, sym, ap, ◌∙◌, arith}
use Rattle.std.proofs.lemmas.List.{length-map}
use Rattle.index_lists.specs.Listed.{Listed, list_at, items_of}
use Rattle.index_lists.specs.Rings.{nexts}
use Rattle.index_lists.proofs.Looks.{seen_stand, next_read, nodes_are}
use Rattle.index_lists.proofs.Places.{one_more_equal, node_item, node_here, node_low, node_next}
use Rattle.index_lists.proofs.lists.Lists.has_same_list.Goals as goal

pub returns-then-mine-theirs : goal.returns-then-mine-theirs
returns-then-mine-theirs c =
    let l = c.args.list in
    let i = c.loop-step._step in
    let links = c.self.inside.links.items in
    let others = c.other.inside.links.items in
    let mine = list_at c.args.self.now l in
    let theirs = list_at c.args.other.now l in
    let stand = seen_stand _ links _ _ _ c.self.view_is c.self.invariant in
    let stand_too = seen_stand _ others _ _ _ c.other.view_is c.other.invariant in
    let within : i < length mine = omega (arith, c.len-step-end.ensures, c.loop-step-test.true) in
    let within_too : i < length theirs = omega (arith, within, c.len.ensures, c.len-2.ensures, c.if-len.false) in
    let here : c.loop-step.mine ≡ get_or (items_of mine) i 0 = c.loop-step.invariant.mine ∙ node_item _ _ _ _ _ _ stand l i c.requires.one within in
    let there : c.loop-step.theirs ≡ get_or (items_of theirs) i 0 = c.loop-step.invariant.theirs ∙ node_item _ _ _ _ _ _ stand_too l i c.requires.other
    within_too in
    (λ no. absurd (cc (no)), λ same. absurd (c.if-mine-theirs.true (here ∙ ap (λ (ns : List ℕ). get_or ns i 0) same ∙ sym there)))

pub index-requires-in-loop-step : goal.index-requires-in-loop-step
index-requires-in-loop-step c =
    let l = c.args.list in
    let i = c.loop-step._step in
    let links = c.self.inside.links.items in
    let others = c.other.inside.links.items in
    let mine = list_at c.args.self.now l in
    let theirs = list_at c.args.other.now l in
    let stand = seen_stand _ links _ _ _ c.self.view_is c.self.invariant in
    let stand_too = seen_stand _ others _ _ _ c.other.view_is c.other.invariant in
    let within : i < length mine = omega (arith, c.len-step-end.ensures, c.loop-step-test.true) in
    let within_too : i < length theirs = omega (arith, within, c.len.ensures, c.len-2.ensures, c.if-len.false) in
    let here : c.loop-step.mine ≡ get_or (items_of mine) i 0 = c.loop-step.invariant.mine ∙ node_item _ _ _ _ _ _ stand l i c.requires.one within in
    let there : c.loop-step.theirs ≡ get_or (items_of theirs) i 0 = c.loop-step.invariant.theirs ∙ node_item _ _ _ _ _ _ stand_too l i c.requires.other
    within_too in
    let item = c.loop-step.invariant.mine ∙ node_here _ _ _ _ _ _ stand l i c.requires.one within in
    omega (arith, item, node_low _ _ _ _ _ _ stand l i c.requires.one within, nodes_are _ links _ _ _ stand, c.self.inside.links.ok.0)

pub index-requires-in-loop-step-2 : goal.index-requires-in-loop-step-2
index-requires-in-loop-step-2 c =
    let l = c.args.list in
    let i = c.loop-step._step in
    let links = c.self.inside.links.items in
    let others = c.other.inside.links.items in
    let mine = list_at c.args.self.now l in
    let theirs = list_at c.args.other.now l in
    let stand = seen_stand _ links _ _ _ c.self.view_is c.self.invariant in
    let stand_too = seen_stand _ others _ _ _ c.other.view_is c.other.invariant in
    let within : i < length mine = omega (arith, c.len-step-end.ensures, c.loop-step-test.true) in
    let within_too : i < length theirs = omega (arith, within, c.len.ensures, c.len-2.ensures, c.if-len.false) in
    let here : c.loop-step.mine ≡ get_or (items_of mine) i 0 = c.loop-step.invariant.mine ∙ node_item _ _ _ _ _ _ stand l i c.requires.one within in
    let there : c.loop-step.theirs ≡ get_or (items_of theirs) i 0 = c.loop-step.invariant.theirs ∙ node_item _ _ _ _ _ _ stand_too l i c.requires.other
    within_too in
    let item = c.loop-step.invariant.theirs ∙ node_here _ _ _ _ _ _ stand_too l i c.requires.other within_too in
    omega (arith, item, node_low _ _ _ _ _ _ stand_too l i c.requires.other within_too, nodes_are _ others _ _ _ stand_too, c.other.inside.links.ok.0)

pub loop-step-preserved : goal.loop-step-preserved
loop-step-preserved c =
    let l = c.args.list in
    let i = c.loop-step._step in
    let links = c.self.inside.links.items in
    let others = c.other.inside.links.items in
    let mine = list_at c.args.self.now l in
    let theirs = list_at c.args.other.now l in
    let stand = seen_stand _ links _ _ _ c.self.view_is c.self.invariant in
    let stand_too = seen_stand _ others _ _ _ c.other.view_is c.other.invariant in
    let within : i < length mine = omega (arith, c.len-step-end.ensures, c.loop-step-test.true) in
    let within_too : i < length theirs = omega (arith, within, c.len.ensures, c.len-2.ensures, c.if-len.false) in
    let here : c.loop-step.mine ≡ get_or (items_of mine) i 0 = c.loop-step.invariant.mine ∙ node_item _ _ _ _ _ _ stand l i c.requires.one within in
    let there : c.loop-step.theirs ≡ get_or (items_of theirs) i 0 = c.loop-step.invariant.theirs ∙ node_item _ _ _ _ _ _ stand_too l i c.requires.other
    within_too in
    let item = c.loop-step.invariant.mine ∙ node_here _ _ _ _ _ _ stand l i c.requires.one within in
    let item_too = c.loop-step.invariant.theirs ∙ node_here _ _ _ _ _ _ stand_too l i c.requires.other within_too in
    let low : c.loop-step.mine < length links = omega (arith, item, node_low _ _ _ _ _ _ stand l i c.requires.one within, nodes_are _ links _ _ _ stand) in
    let low_too : c.loop-step.theirs < length others = omega (
      arith,
      item_too,
      node_low _ _ _ _ _ _ stand_too l i c.requires.other within_too,
      nodes_are _
          others _ _ _ stand_too,
    ) in
    record {
      same = one_more_equal (items_of mine) (items_of theirs) i (omega (arith, within, length-map mine (λ (e : Listed). e.item)))
          (omega (arith, within_too, length-map theirs (λ (e : Listed). e.item))) c.loop-step.invariant.same (sym here ∙ c.if-mine-theirs.false ∙ there);
      mine = next_read links c.loop-step.mine c.index-in-loop-step.result.now low c.index-in-loop-step.ensures ∙ ap (λ (n : ℕ). get_or (nexts links) n 0) item ∙
          node_next _ _ _ _ _ _ stand l i c.requires.one within;
      theirs = next_read others c.loop-step.theirs c.index-in-loop-step-2.result.now low_too c.index-in-loop-step-2.ensures ∙ ap
          (λ (n : ℕ). get_or (nexts others) n 0) item_too ∙ node_next _ _ _ _ _ _ stand_too l i c.requires.other within_too;
    }
