use Rattle.std.proofs.Common.{rules, ◌≡◌, Ok, Err}
use Rattle.core_rig.specs.Closing.{close_check}
use Rattle.core_rig.proofs.Closing.{seats_once, wrong_seats}
use Rattle.core_rig.proofs.rig.Rig.close.Goals as goal

pub returns-in-Ok-clause-each_once : goal.returns-in-Ok-clause-each_once
returns-in-Ok-clause-each_once c =
    let passed : close_check c.args.self.cores c.args.seats.items ≡ Ok tt = search rules in
    seats_once c.args.self.cores c.args.seats.items passed

pub returns-in-Err-clause-wrong_seats : goal.returns-in-Err-clause-wrong_seats
returns-in-Err-clause-wrong_seats c =
    let failed : close_check c.args.self.cores c.args.seats.items ≡ Err c.in-Err.why = search rules in
    wrong_seats c.args.self.cores c.args.seats.items c.in-Err.why failed
