use Rattle.std.proofs.Common.{length, set, get_or, sym, ap, ◌∙◌, ◌<◌, arith, length-set}
use Rattle.std.proofs.lemmas.List.{map-set, get_or-map, set-get_or}
use Rattle.index_lists.specs.declared.links.Link.{Link}
use Rattle.index_lists.specs.Rings.{nexts, prevs}
use Rattle.index_lists.proofs.links.join.Goals as goal

pub returns-clause-nexts : goal.returns-clause-nexts
returns-clause-nexts c =
    let next = λ (link : Link). link.next in
    let none : Link = record { prev = 0; next = 0 } in
    let links = c.args.links.now in
    let one = set links c.args.prev (record { prev = (get_or links c.args.prev none).prev; next = c.args.next }) in
    let low : c.args.next < length one = omega (
      arith,
      c.requires.next,
      length-set links c.args.prev
          (record { prev = (get_or links c.args.prev none).prev; next = c.args.next }),
    ) in
    map-set next one c.args.next _
    ∙ ap (set (nexts one) c.args.next) (sym (get_or-map next one c.args.next none 0 low))
    ∙ set-get_or (nexts one) c.args.next 0
    ∙ map-set next links c.args.prev _

pub returns-clause-prevs : goal.returns-clause-prevs
returns-clause-prevs c =
    let prev = λ (link : Link). link.prev in
    let none : Link = record { prev = 0; next = 0 } in
    let links = c.args.links.now in
    map-set prev _ c.args.next _
    ∙ ap (λ ns. set ns c.args.next c.args.prev)
    (map-set prev links c.args.prev _
    ∙ ap (set (prevs links) c.args.prev) (sym (get_or-map prev links c.args.prev none 0 c.requires.prev))
    ∙ set-get_or (prevs links) c.args.prev 0)
