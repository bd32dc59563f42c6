use Rattle.std.proofs.lemmas.Iterator.{items_from_drains}
use Rattle.std.proofs.lemmas.Iterator.Adapters.{YieldsList-from_vec}
use Rattle.std.proofs.Common.{◌∙◌}
use Rattle.session_segments.proofs.Places.{parts_made}
use Rattle.session_segments.proofs.segments.exchange.Goals as goal

pub returns-clause-exchanged : goal.returns-clause-exchanged
returns-clause-exchanged g c =
    let spliced = c.in_ok-splice.ensures.items in
    let drains = spliced.3 in
    parts_made c.args.from c.args.to c.args.segments.now.items c.args.made.items spliced.1 c.splice.new.self.items
    (items_from_drains {v = λ y. y} spliced.1 (drains.1.0, drains.1.1, λ _. (drains.0, drains.1.2))
    (YieldsList-from_vec c.args.made.items spliced.2.0 (spliced.2.1 ∙ c.args.made.ok.0))) spliced.4
