use Rattle.std.proofs.Common.{map, option_map, sym, ap, ◌∙◌}
use Rattle.json_data.proofs.Members.{taken, taken_all}
use Rattle.json_data.proofs.Objects.{keys_turn, keys_end}
use Rattle.json_data.proofs.item.least_unknown_key.Goals as goal

pub loop-key-preserved : goal.loop-key-preserved
loop-key-preserved c all inside =
    let names = map (λ name. name.now) c.args.names.now in
    let least = option_map (λ name. name.now) c.loop-key.least in
    let so_far = c.loop-key.invariant all inside in
    let turn = keys_turn names _ c.next.new.self _ c.in-Some.key.now so_far.0 least c.in-Some.ensures.value so_far.1 in
    (turn.0, turn.1, so_far.2 ∙ turn.2 ∙ ap (taken names turn.0) (sym c.lesser_unknown-least.ensures))

pub returns : goal.returns
returns c all inside =
    let names = map (λ name. name.now) c.args.names.now in
    let least = option_map (λ name. name.now) c.loop-key.least in
    let so_far = c.loop-key.invariant all inside in
    sym (keys_end names _ c.next.new.self so_far.0 least c.in_default.ensures.value so_far.1) ∙ sym so_far.2 ∙ taken_all names all
