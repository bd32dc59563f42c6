use Rattle.std.proofs.Common.{All, sym, subst}
use Rattle.std.proofs.lemmas.List.Elements.{All-push}
use Rattle.rig_tests.specs.Use.{IsUsable}
use Rattle.rig_tests.proofs.locks.calls.put_back.Goals as goal

pub returns : goal.returns
returns g c =
    subst (All (IsUsable c.args.pair.now)) (sym c.push_reserved.ensures.items)
    (All-push (IsUsable c.args.pair.now) c.args.seats.now.items c.args.seat c.requires.rest c.requires.seat)
