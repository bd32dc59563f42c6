use Rattle.std.proofs.Common.{◌≡◌, ◌∙◌, ◌++◌, ◌∷◌, [], ap, subst, arith}
use Rattle.std.proofs.lemmas.List.Elements.{All-push}
use Rattle.core_rig.specs.Resting.{IsOwn, at_rest}
use Rattle.core_rig.specs.Seats.{depth_at}
use Rattle.core_rig.proofs.Seats.{at_seam, mapped_on, moved_on, rests_as}
use Rattle.core_rig.proofs.rig.move_all.Goals as goal

pub loop-seat-preserved : goal.loop-seat-preserved
loop-seat-preserved c =
    let i = c.loop-seat.invariant in
    let first = c.in-Some.ensures.steps in
    let pushed = c.push_reserved.ensures in
    let whole = i.2 ∙ ap (λ rest. c.loop-seat.yielded ++ rest) first.0 in
    let none = at_seam (λ seat. depth_at seat ≡ 0) c.loop-seat.yielded c.next.new.self.rest.items c.in-Some.seat c.args.seats.items whole c.requires.rest in
    let rests = rests_as c.seat.inside.seat _ _ c.in-Some.seat c.seat.invariant c.seat.view_is none in
    let room = i.5 in
    let less = first.1 in (
      tt,
      tt,
      moved_on c.args.seats.items c.loop-seat.yielded _ _ c.in-Some.seat i.2 first.0,
      mapped_on at_rest c.loop-seat.yielded c.in-Some.seat _ _ i.3 (pushed.items ∙ ap (λ seat. c.loop-seat.room.items ++ seat ∷ []) rests),
      All-push IsOwn c.loop-seat.yielded c.in-Some.seat i.4 (subst IsOwn c.seat.view_is c.seat.invariant.own),
      omega (arith, room, less, pushed.len, pushed.capacity),
    )
