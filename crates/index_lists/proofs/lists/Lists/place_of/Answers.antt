use Rattle.std.proofs.Common.{◌≡◌, ◌+◌, ◌<◌, ℕ, true, false, leb, length, [], get_or, drop, zero-add, ◌≤◌, None, sym, ap, ◌∙◌, arith}
use Rattle.std.specs.List.{prefix_len}
use Rattle.std.proofs.lemmas.Bool.Decides.{nat_tests}
use Rattle.std.proofs.lemmas.List.{get_or_read}
use Rattle.index_lists.specs.Listed.{Listed, list_at, items_of}
use Rattle.index_lists.specs.Rings.{nexts, first_or}
use Rattle.index_lists.specs.Shape.{home_at}
use Rattle.index_lists.proofs.Paths.{ring_after}
use Rattle.index_lists.proofs.Looks.{seen_stand, next_read, nodes_are}
use Rattle.index_lists.proofs.Places.{place_step, place_stop, place_end, node_here, home_here, node_next, node_low, none, read_length, same_key}
use Rattle.index_lists.proofs.lists.Lists.place_of.Goals as goal

pub loop-step-init : goal.loop-step-init
loop-step-init c =
    let l = c.args.list in
    let links = c.self.inside.links.items in
    let row = list_at c.args.self.now l in
    let stand = seen_stand _ links _ _ _ c.self.view_is c.self.invariant in
    let low : c.end_of.result < length links = omega (arith, c.end_of.ensures, c.requires, nodes_are _ links _ _ _ stand) in
    record {
      keys = zero-add (prefix_len (λ (entry : Listed). leb entry.key c.args.key) row);
      node = next_read links c.end_of.result c.index.result.now low c.index.ensures ∙ ap (λ (n : ℕ). get_or (nexts links) n 0) c.end_of.ensures ∙ ring_after _ _
          _ [] (items_of row) (stand.rings l c.requires);
    }

pub index-requires-in-loop-step : goal.index-requires-in-loop-step
index-requires-in-loop-step c =
    let l = c.args.list in
    let i = c.loop-step._step in
    let links = c.self.inside.links.items in
    let homes = c.self.inside.homes.items in
    let row = list_at c.args.self.now l in
    let stand = seen_stand _ links homes _ _ c.self.view_is c.self.invariant in
    let end : c.index-step-end.result.now ≡ length row = read_length _ _ _ _ _ _ stand l c.requires c.index-step-end.result.now c.index-step-end.ensures in
    let within : i < length row = omega (arith, end, c.loop-step-test.true) in
    let item : c.loop-step.at ≡ (get_or row i none).item = c.loop-step.invariant.node ∙ node_here _ _ _ _ _ _ stand l i c.requires within in
    let low : c.loop-step.at < c.args.self.now.items = omega (arith, item, node_low _ _ _ _ _ _ stand l i c.requires within) in
    omega (arith, low, stand.room, c.self.inside.homes.ok.0)

pub index-requires-in-Some : goal.index-requires-in-Some
index-requires-in-Some c =
    let l = c.args.list in
    let i = c.loop-step._step in
    let links = c.self.inside.links.items in
    let homes = c.self.inside.homes.items in
    let row = list_at c.args.self.now l in
    let stand = seen_stand _ links homes _ _ c.self.view_is c.self.invariant in
    let end : c.index-step-end.result.now ≡ length row = read_length _ _ _ _ _ _ stand l c.requires c.index-step-end.result.now c.index-step-end.ensures in
    let within : i < length row = omega (arith, end, c.loop-step-test.true) in
    let item : c.loop-step.at ≡ (get_or row i none).item = c.loop-step.invariant.node ∙ node_here _ _ _ _ _ _ stand l i c.requires within in
    let low : c.loop-step.at < c.args.self.now.items = omega (arith, item, node_low _ _ _ _ _ _ stand l i c.requires within) in
    omega (arith, low, nodes_are _ links _ _ _ stand, c.self.inside.links.ok.0)

pub returns-in_default : goal.returns-in_default
returns-in_default c =
    let l = c.args.list in
    let i = c.loop-step._step in
    let links = c.self.inside.links.items in
    let homes = c.self.inside.homes.items in
    let row = list_at c.args.self.now l in
    let stand = seen_stand _ links homes _ _ c.self.view_is c.self.invariant in
    let end : c.index-step-end.result.now ≡ length row = read_length _ _ _ _ _ _ stand l c.requires c.index-step-end.result.now c.index-step-end.ensures in
    let within : i < length row = omega (arith, end, c.loop-step-test.true) in
    let item : c.loop-step.at ≡ (get_or row i none).item = c.loop-step.invariant.node ∙ node_here _ _ _ _ _ _ stand l i c.requires within in
    let low : c.loop-step.at < c.args.self.now.items = omega (arith, item, node_low _ _ _ _ _ _ stand l i c.requires within) in
    let home = sym (get_or_read homes c.loop-step.at c.index-in-loop-step.result.now (omega (arith, low, stand.room)) c.index-in-loop-step.ensures None) in
    let is = home_here _ _ _ _ _ _ stand l i c.requires within in
    let key : c.in-Some.home.key ≡ (get_or row i none).key = same_key c.in-Some.home l (get_or row i none).key
    (sym c.in-Some.is ∙ sym home ∙ ap (home_at homes) item ∙ is) in
    let fails : leb (get_or row i none).key c.args.key ≡ false = let over = c.if-home-key.false in grind (arith, nat_tests, key, over) in
    c.loop-step.invariant.node ∙ ap (λ (n : ℕ). first_or (c.args.self.now.items + l) (items_of (drop n row)))
    (place_stop (λ (entry : Listed). leb entry.key c.args.key) row i within fails c.loop-step.invariant.keys)

pub returns-in_default-2 : goal.returns-in_default-2
returns-in_default-2 c =
    let l = c.args.list in
    let i = c.loop-step._step in
    let links = c.self.inside.links.items in
    let homes = c.self.inside.homes.items in
    let row = list_at c.args.self.now l in
    let stand = seen_stand _ links homes _ _ c.self.view_is c.self.invariant in
    let end : c.index-step-end.result.now ≡ length row = read_length _ _ _ _ _ _ stand l c.requires c.index-step-end.result.now c.index-step-end.ensures in
    let within : i < length row = omega (arith, end, c.loop-step-test.true) in
    let item : c.loop-step.at ≡ (get_or row i none).item = c.loop-step.invariant.node ∙ node_here _ _ _ _ _ _ stand l i c.requires within in
    let low : c.loop-step.at < c.args.self.now.items = omega (arith, item, node_low _ _ _ _ _ _ stand l i c.requires within) in
    let home = sym (get_or_read homes c.loop-step.at c.index-in-loop-step.result.now (omega (arith, low, stand.room)) c.index-in-loop-step.ensures None) in
    let is = home_here _ _ _ _ _ _ stand l i c.requires within in
    absurd (cc (home, c.in_default.is, ap (home_at homes) item, is))

pub loop-step-preserved : goal.loop-step-preserved
loop-step-preserved c =
    let l = c.args.list in
    let i = c.loop-step._step in
    let links = c.self.inside.links.items in
    let homes = c.self.inside.homes.items in
    let row = list_at c.args.self.now l in
    let stand = seen_stand _ links homes _ _ c.self.view_is c.self.invariant in
    let end : c.index-step-end.result.now ≡ length row = read_length _ _ _ _ _ _ stand l c.requires c.index-step-end.result.now c.index-step-end.ensures in
    let within : i < length row = omega (arith, end, c.loop-step-test.true) in
    let item : c.loop-step.at ≡ (get_or row i none).item = c.loop-step.invariant.node ∙ node_here _ _ _ _ _ _ stand l i c.requires within in
    let low : c.loop-step.at < c.args.self.now.items = omega (arith, item, node_low _ _ _ _ _ _ stand l i c.requires within) in
    let home = sym (get_or_read homes c.loop-step.at c.index-in-loop-step.result.now (omega (arith, low, stand.room)) c.index-in-loop-step.ensures None) in
    let is = home_here _ _ _ _ _ _ stand l i c.requires within in
    let key : c.in-Some.home.key ≡ (get_or row i none).key = same_key c.in-Some.home l (get_or row i none).key
    (sym c.in-Some.is ∙ sym home ∙ ap (home_at homes) item ∙ is) in
    let passes : leb (get_or row i none).key c.args.key ≡ true = let under = c.if-home-key.true in grind (arith, nat_tests, key, under) in
    let node : c.loop-step.at < length links = omega (arith, low, nodes_are _ links _ _ _ stand) in
    record {
      keys = place_step (λ (entry : Listed). leb entry.key c.args.key) row i within passes c.loop-step.invariant.keys;
      node = next_read links c.loop-step.at c.index-in-Some.result.now node c.index-in-Some.ensures ∙ ap (λ (n : ℕ). get_or (nexts links) n 0) item ∙ node_next
          _ _ _ _ _ _ stand l i c.requires within;
    }

pub returns : goal.returns
returns c =
    let l = c.args.list in
    let i = c.loop-step._step in
    let links = c.self.inside.links.items in
    let homes = c.self.inside.homes.items in
    let row = list_at c.args.self.now l in
    let stand = seen_stand _ links homes _ _ c.self.view_is c.self.invariant in
    let end : c.index-step-end.result.now ≡ length row = read_length _ _ _ _ _ _ stand l c.requires c.index-step-end.result.now c.index-step-end.ensures in
    let past : length row ≤ i = omega (arith, end, c.loop-step-test.false) in
    c.loop-step.invariant.node ∙ ap (λ (n : ℕ). first_or (c.args.self.now.items + l) (items_of (drop n row)))
    (place_end (λ (entry : Listed). leb entry.key c.args.key) row i past c.loop-step.invariant.keys)
