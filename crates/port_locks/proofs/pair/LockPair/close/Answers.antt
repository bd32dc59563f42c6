use Rattle.std.proofs.Common.{rules, ◌≡◌, Ok, Err}
use Rattle.port_locks.specs.Closing.{close_check}
use Rattle.port_locks.proofs.CloseChecks.{check_passed, check_once, wrong_seats}
use Rattle.port_locks.proofs.pair.LockPair.close.Goals as goal

pub end-requires-clause-all : goal.end-requires-clause-all
end-requires-clause-all g c =
    let passed : close_check c.args.self.cores c.args.seats.items ≡ Ok tt = search rules in
    check_passed c.args.seats.items c.args.self.cores passed

pub returns-in-Ok-clause-each_once : goal.returns-in-Ok-clause-each_once
returns-in-Ok-clause-each_once g c =
    let passed : close_check c.args.self.cores c.args.seats.items ≡ Ok tt = search rules in
    check_once c.args.seats.items c.args.self.cores passed

pub returns-in-Err-clause-wrong_seats : goal.returns-in-Err-clause-wrong_seats
returns-in-Err-clause-wrong_seats g c =
    let failed : close_check c.args.self.cores c.args.seats.items ≡ Err c.in-Err.why =
    search rules in
    wrong_seats c.args.seats.items c.args.self.cores c.in-Err.why failed
