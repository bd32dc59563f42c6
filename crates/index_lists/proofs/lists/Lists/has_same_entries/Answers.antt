use Rattle.std.proofs.Common.{◌≡◌, ◌<◌, ℕ, Some, List, length, get_or, sym, ap, ◌∙◌, arith}
use Rattle.index_lists.specs.Listed.{Listed, list_at, key_of}
use Rattle.index_lists.specs.Rings.{nexts}
use Rattle.std.proofs.lemmas.List.{take_more_same}
use Rattle.std.proofs.lemmas.Bool.Decides.{nat_tests}
use Rattle.index_lists.proofs.Looks.{seen_stand, next_read, nodes_are}
use Rattle.index_lists.proofs.Places.{none, node_here, node_low, node_next, key_here, same_entry, same_keys}
use Rattle.index_lists.proofs.lists.Lists.has_same_entries.Goals as goal

pub returns-then-theirs-mine : goal.returns-then-theirs-mine
returns-then-theirs-mine c =
    let l = c.args.list in
    let o = c.args.other_list in
    let i = c.loop-step._step in
    let links = c.self.inside.links.items in
    let others = c.other.inside.links.items in
    let mine = list_at c.args.self.now l in
    let theirs = list_at c.args.other.now o in
    let stand = seen_stand _ links _ _ _ c.self.view_is c.self.invariant in
    let stand_too = seen_stand _ others _ _ _ c.other.view_is c.other.invariant in
    let within : i < length mine = omega (arith, c.len-step-end.ensures, c.loop-step-test.true) in
    let within_too : i < length theirs = omega (arith, within, c.len.ensures, c.len-2.ensures, c.if-len.false) in
    let item = c.loop-step.invariant.mine ∙ node_here _ _ _ _ _ _ stand l i c.requires.one within in
    let item_too = c.loop-step.invariant.theirs ∙ node_here _ _ _ _ _ _ stand_too o i c.requires.other within_too in
    (λ no. absurd (cc (no)), λ same. absurd (c.if-theirs-mine.true (item_too ∙ ap (λ (es : List Listed). (get_or es i none).item) (sym same) ∙ sym item)))

pub key_of-requires : goal.key_of-requires
key_of-requires c =
    let l = c.args.list in
    let o = c.args.other_list in
    let i = c.loop-step._step in
    let links = c.self.inside.links.items in
    let others = c.other.inside.links.items in
    let mine = list_at c.args.self.now l in
    let theirs = list_at c.args.other.now o in
    let stand = seen_stand _ links _ _ _ c.self.view_is c.self.invariant in
    let stand_too = seen_stand _ others _ _ _ c.other.view_is c.other.invariant in
    let within : i < length mine = omega (arith, c.len-step-end.ensures, c.loop-step-test.true) in
    let within_too : i < length theirs = omega (arith, within, c.len.ensures, c.len-2.ensures, c.if-len.false) in
    let item = c.loop-step.invariant.mine ∙ node_here _ _ _ _ _ _ stand l i c.requires.one within in
    let item_too = c.loop-step.invariant.theirs ∙ node_here _ _ _ _ _ _ stand_too o i c.requires.other within_too in
    let low = node_low _ _ _ _ _ _ stand l i c.requires.one within in
    omega (arith, item, low)

pub key_of-requires-in-loop-step : goal.key_of-requires-in-loop-step
key_of-requires-in-loop-step c =
    let l = c.args.list in
    let o = c.args.other_list in
    let i = c.loop-step._step in
    let links = c.self.inside.links.items in
    let others = c.other.inside.links.items in
    let mine = list_at c.args.self.now l in
    let theirs = list_at c.args.other.now o in
    let stand = seen_stand _ links _ _ _ c.self.view_is c.self.invariant in
    let stand_too = seen_stand _ others _ _ _ c.other.view_is c.other.invariant in
    let within : i < length mine = omega (arith, c.len-step-end.ensures, c.loop-step-test.true) in
    let within_too : i < length theirs = omega (arith, within, c.len.ensures, c.len-2.ensures, c.if-len.false) in
    let item = c.loop-step.invariant.mine ∙ node_here _ _ _ _ _ _ stand l i c.requires.one within in
    let item_too = c.loop-step.invariant.theirs ∙ node_here _ _ _ _ _ _ stand_too o i c.requires.other within_too in
    let low_too = node_low _ _ _ _ _ _ stand_too o i c.requires.other within_too in
    omega (arith, item_too, low_too)

pub returns-then-ne : goal.returns-then-ne
returns-then-ne c =
    let l = c.args.list in
    let o = c.args.other_list in
    let i = c.loop-step._step in
    let links = c.self.inside.links.items in
    let others = c.other.inside.links.items in
    let mine = list_at c.args.self.now l in
    let theirs = list_at c.args.other.now o in
    let stand = seen_stand _ links _ _ _ c.self.view_is c.self.invariant in
    let stand_too = seen_stand _ others _ _ _ c.other.view_is c.other.invariant in
    let within : i < length mine = omega (arith, c.len-step-end.ensures, c.loop-step-test.true) in
    let within_too : i < length theirs = omega (arith, within, c.len.ensures, c.len-2.ensures, c.if-len.false) in
    let item = c.loop-step.invariant.mine ∙ node_here _ _ _ _ _ _ stand l i c.requires.one within in
    let item_too = c.loop-step.invariant.theirs ∙ node_here _ _ _ _ _ _ stand_too o i c.requires.other within_too in
    let key = ap (λ (n : ℕ). key_of n c.args.self.now) item ∙ key_here _ _ _ _ _ _ stand l i c.requires.one within in
    let key_too = ap (λ (n : ℕ). key_of n c.args.other.now) item_too ∙ key_here _ _ _ _ _ _ stand_too o i c.requires.other within_too in
    let compared = same_keys _ _ _ _ (c.key_of.ensures.key ∙ key) (c.key_of-in-loop-step.ensures.key ∙ key_too) in (
      λ no. absurd (cc (no)),
      λ same. absurd (let tied : (get_or mine i none).key ≡ (get_or theirs i none).key = ap
          (λ (es : List Listed). (get_or es i none).key) same in grind (arith, nat_tests, compared, tied, c.ne.ensures, c.if-ne.true)),
    )

pub index-requires-in-loop-step : goal.index-requires-in-loop-step
index-requires-in-loop-step c =
    let l = c.args.list in
    let o = c.args.other_list in
    let i = c.loop-step._step in
    let links = c.self.inside.links.items in
    let others = c.other.inside.links.items in
    let mine = list_at c.args.self.now l in
    let theirs = list_at c.args.other.now o in
    let stand = seen_stand _ links _ _ _ c.self.view_is c.self.invariant in
    let stand_too = seen_stand _ others _ _ _ c.other.view_is c.other.invariant in
    let within : i < length mine = omega (arith, c.len-step-end.ensures, c.loop-step-test.true) in
    let within_too : i < length theirs = omega (arith, within, c.len.ensures, c.len-2.ensures, c.if-len.false) in
    let item = c.loop-step.invariant.mine ∙ node_here _ _ _ _ _ _ stand l i c.requires.one within in
    let item_too = c.loop-step.invariant.theirs ∙ node_here _ _ _ _ _ _ stand_too o i c.requires.other within_too in
    let low = node_low _ _ _ _ _ _ stand l i c.requires.one within in
    omega (arith, item, low, nodes_are _ links _ _ _ stand, c.self.inside.links.ok.0)

pub index-requires-in-loop-step-2 : goal.index-requires-in-loop-step-2
index-requires-in-loop-step-2 c =
    let l = c.args.list in
    let o = c.args.other_list in
    let i = c.loop-step._step in
    let links = c.self.inside.links.items in
    let others = c.other.inside.links.items in
    let mine = list_at c.args.self.now l in
    let theirs = list_at c.args.other.now o in
    let stand = seen_stand _ links _ _ _ c.self.view_is c.self.invariant in
    let stand_too = seen_stand _ others _ _ _ c.other.view_is c.other.invariant in
    let within : i < length mine = omega (arith, c.len-step-end.ensures, c.loop-step-test.true) in
    let within_too : i < length theirs = omega (arith, within, c.len.ensures, c.len-2.ensures, c.if-len.false) in
    let item = c.loop-step.invariant.mine ∙ node_here _ _ _ _ _ _ stand l i c.requires.one within in
    let item_too = c.loop-step.invariant.theirs ∙ node_here _ _ _ _ _ _ stand_too o i c.requires.other within_too in
    let low_too = node_low _ _ _ _ _ _ stand_too o i c.requires.other within_too in
    omega (arith, item_too, low_too, nodes_are _ others _ _ _ stand_too, c.other.inside.links.ok.0)

pub loop-step-preserved : goal.loop-step-preserved
loop-step-preserved c =
    let l = c.args.list in
    let o = c.args.other_list in
    let i = c.loop-step._step in
    let links = c.self.inside.links.items in
    let others = c.other.inside.links.items in
    let mine = list_at c.args.self.now l in
    let theirs = list_at c.args.other.now o in
    let stand = seen_stand _ links _ _ _ c.self.view_is c.self.invariant in
    let stand_too = seen_stand _ others _ _ _ c.other.view_is c.other.invariant in
    let within : i < length mine = omega (arith, c.len-step-end.ensures, c.loop-step-test.true) in
    let within_too : i < length theirs = omega (arith, within, c.len.ensures, c.len-2.ensures, c.if-len.false) in
    let item = c.loop-step.invariant.mine ∙ node_here _ _ _ _ _ _ stand l i c.requires.one within in
    let item_too = c.loop-step.invariant.theirs ∙ node_here _ _ _ _ _ _ stand_too o i c.requires.other within_too in
    let low = node_low _ _ _ _ _ _ stand l i c.requires.one within in
    let low_too = node_low _ _ _ _ _ _ stand_too o i c.requires.other within_too in
    let key = ap (λ (n : ℕ). key_of n c.args.self.now) item ∙ key_here _ _ _ _ _ _ stand l i c.requires.one within in
    let key_too = ap (λ (n : ℕ). key_of n c.args.other.now) item_too ∙ key_here _ _ _ _ _ _ stand_too o i c.requires.other within_too in
    let compared = same_keys _ _ _ _ (c.key_of.ensures.key ∙ key) (c.key_of-in-loop-step.ensures.key ∙ key_too) in
    let linked : c.loop-step.mine < length links = omega (arith, item, low, nodes_are _ links _ _ _ stand) in
    let linked_too : c.loop-step.theirs < length others = omega (arith, item_too, low_too, nodes_are _ others _ _ _ stand_too) in
    let here = same_entry _ _ (sym item ∙ sym c.if-theirs-mine.false ∙ item_too)
    (let tied : (get_or mine i none).key ≡ (get_or theirs i none).key = grind (arith, nat_tests, compared, c.ne.ensures, c.if-ne.false) in ap Some tied) in
    record {
      same = take_more_same mine theirs i none within within_too c.loop-step.invariant.same here;
      mine = next_read links c.loop-step.mine c.index-in-loop-step.result.now linked c.index-in-loop-step.ensures ∙ ap (λ (n : ℕ). get_or (nexts links) n 0)
          item ∙ node_next _ _ _ _ _ _ stand l i c.requires.one within;
      theirs = next_read others c.loop-step.theirs c.index-in-loop-step-2.result.now linked_too c.index-in-loop-step-2.ensures ∙ ap
          (λ (n : ℕ). get_or (nexts others) n 0) item_too ∙ node_next _ _ _ _ _ _ stand_too o i c.requires.other within_too;
    }
