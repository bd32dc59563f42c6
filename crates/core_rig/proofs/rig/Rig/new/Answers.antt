use Rattle.std.proofs.Common.{rules, ◌≡◌, ◌∙◌, Ok, map, sym, ap, subst, arith}
use Rattle.bench_types.specs.Header.{header_check, IsCheckedHeader}
use Rattle.list_orders.specs.Search.{numbers}
use Rattle.port_locks.specs.Made as locks
use Rattle.core_rig.proofs.Making.{all_new, seats_in_order}
use Rattle.core_rig.proofs.rig.Rig.new.Goals as goal
use Rattle.core_rig.proofs.rig.Rig.new.Goals.{In_ok-room}

-- the pair keeps the header that was given
its_header : (c : In_ok-room) → c.in_ok-pair.pair.terms.header ≡ c.args.header.now
its_header c =
    ap (λ terms. terms.header) c.in_ok-pair.ensures.pair.0 ∙ ap (λ recording. recording.header) c.in-Ok.ensures.empty

passes : (c : In_ok-room) → header_check c.args.header.now ≡ Ok tt
passes c = search rules

checked : (c : In_ok-room) → IsCheckedHeader c.args.header.now
checked c = search rules

pub all-requires : goal.all-requires
all-requires c =
    all_new c.in_ok-pair.pair c.args.header.now (its_header c) (passes c) c.in_ok-header.header.config.cores
    (ap (λ header. header.config.cores) c.in_ok-header.ensures) c.in_ok-pair.inner.items c.in_ok-pair.ensures.seats

pub invariant_of-result : goal.invariant_of-result
invariant_of-result c =
    let at = (goal.at.invariant_of-result c).In_ok-room in
    record {
      checked = subst IsCheckedHeader (sym c.in_ok-header.ensures) (checked at);
      same = its_header at ∙ sym c.in_ok-header.ensures;
      cores = c.in_ok-pair.ensures.pair.1;
      limit =
          let limit = ap (λ terms. terms.limit) c.in_ok-pair.ensures.pair.0 ∙ ap (λ recording. recording.limit) c.in-Ok.ensures.empty in
          let few = c.if-limit-gt-MAX_STEPS.false in
          omega (arith, limit, few);
    }

pub returns-clause-seats : goal.returns-clause-seats
returns-clause-seats c =
    seats_in_order c.in_ok-pair.pair _ _ _
    (c.in_ok-pair.ensures.seats ∙ ap (λ cores. map (locks.new_seat c.in_ok-pair.pair) (numbers cores)) (sym c.in_ok-pair.ensures.pair.1))
    c.in_ok-seats.ensures
