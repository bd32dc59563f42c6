use Rattle.std.proofs.Common.{subst, sym}
use Rattle.session_text.specs.Path.{path_of}
use Rattle.session_text.specs.ReadingRules.{StopsAt}
use Rattle.workload_text.proofs.Places.{place_alone, place_here, place_within, told}
use Rattle.workload_text.proofs.place.Flawed.+fault_in.Goals as goal

pub fault_in-returns-then-first-self : goal.fault_in-returns-then-first-self
fault_in-returns-then-first-self t c =
    let it = c.args.self.now in
    let found = c.item_with-place.result in
    subst (λ path. StopsAt (told it.flaw path) c.fault_at_item.result)
    (sym (place_here it.program.now it.index c.args.room (path_of c.args.location.now) c.args.start found.0 found.1 c.if-room-eq0.false
    c.item_with-place.ensures c.if-first-self.true)) c.fault_at_item.ensures

pub fault_in-returns-in-None : goal.fault_in-returns-in-None
fault_in-returns-in-None t c =
    let it = c.args.self.now in
    let found = c.item_with-place.result in
    subst (λ path. StopsAt (told it.flaw path) c.fault_at_item-in-None.result)
    (sym (place_alone it.program.now it.index c.args.room (path_of c.args.location.now) c.args.start found.0 found.1 c.if-room-eq0.false
    c.item_with-place.ensures c.if-first-self.false (sym c.in-None.ensures))) c.fault_at_item-in-None.ensures

pub fault_in-returns-in-Some : goal.fault_in-returns-in-Some
fault_in-returns-in-Some t c =
    let it = c.args.self.now in
    let found = c.item_with-place.result in
    subst (λ path. StopsAt (told it.flaw path) c.fault_in_item.result)
    (sym (place_within it.program.now it.index c.args.room (path_of c.args.location.now) c.args.start found.0 found.1 c.if-room-eq0.false
    c.item_with-place.ensures c.if-first-self.false (c.in-Some.name.now, c.in-Some.next) (sym c.in-Some.ensures))) c.fault_in_item.ensures
