use Rattle.std.proofs.Common.{◌<◌, length, get_or, option_map, None, arith}
use Rattle.std.proofs.lemmas.List.{get_or_default}
use Rattle.std.proofs.lemmas.List.Edits.{map_over_more}
use Rattle.index_lists.specs.Shape.{raised_home}
use Rattle.index_lists.proofs.links.raise_homes.Goals as goal

pub loop-home-preserved : goal.loop-home-preserved
loop-home-preserved c =
    let items = c.loop-home.home-items in
    let i = c.loop-home.home-index in
    let low : i < length items = omega (arith, c.loop-home-test.true, c.loop-home.auto.home-items) in
    rw c.raised_home.ensures (map_over_more (option_map (raised_home c.args.by)) c.args.homes.now items i (get_or items i None) c.loop-home-test.true
    c.loop-home.invariant (get_or_default items i None (get_or items i None) low))
