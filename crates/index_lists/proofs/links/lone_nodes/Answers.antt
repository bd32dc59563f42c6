use Rattle.std.proofs.Common.{◌∷◌, [], ◌++◌, ◌∙◌, ap, sym}
use Rattle.std.proofs.lemmas.List.{map_push}
use Rattle.list_orders.proofs.Stamped.{numbers_more}
use Rattle.index_lists.specs.declared.links.Link.{Link}
use Rattle.index_lists.specs.Rings.{nexts, prevs}
use Rattle.index_lists.proofs.links.lone_nodes.Goals as goal

pub loop-node-preserved : goal.loop-node-preserved
loop-node-preserved c = record {
  nexts = ap nexts c.in_ok-push.ensures.items ∙ map_push (λ (link : Link). link.next) _ _ ∙ ap (λ ns. ns ++ c.loop-node.node ∷ []) c.loop-node.invariant.nexts ∙
      sym (numbers_more c.loop-node.node);
  prevs = ap prevs c.in_ok-push.ensures.items ∙ map_push (λ (link : Link). link.prev) _ _ ∙ ap (λ ns. ns ++ c.loop-node.node ∷ []) c.loop-node.invariant.prevs ∙
      sym (numbers_more c.loop-node.node);
}
