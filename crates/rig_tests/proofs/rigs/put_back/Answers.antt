use Rattle.std.proofs.Common.{All, sym, subst}
use Rattle.std.proofs.lemmas.List.Elements.{All-push}
use Rattle.core_rig.specs.Seats.{IsSeatOf}
use Rattle.rig_tests.proofs.rigs.put_back.Goals as goal

pub returns : goal.returns
returns g c =
    subst (All (IsSeatOf c.args.rig.now)) (sym c.push_reserved.ensures.items)
    (All-push (IsSeatOf c.args.rig.now) c.args.seats.now.items c.args.seat c.requires.rest c.requires.seat)
