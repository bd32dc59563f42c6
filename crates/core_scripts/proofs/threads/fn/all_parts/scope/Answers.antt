use Rattle.std.proofs.Common.{rules, arith, subst, ◌+◌, ap, sym, ◌∙◌, ◌≡◌, ◌++◌, [], get_or, length, map, vec_items, vec_len, below_more}
use Rattle.std.proofs.lemmas.List.{get_or_default, length_push}
use Rattle.list_orders.specs.Search.{numbers}
use Rattle.core_rig.specs.Seats.{new_seat}
use Rattle.core_rig.proofs.Seats.{moved_on}
use Rattle.core_scripts.proofs.Ends.{all_taken, done_at, nth_below, nth_core, nth_new, nth_own, nth_script}
use Rattle.core_scripts.proofs.threads.fn.all_parts.scope.Goals as goal
use Rattle.core_scripts.proofs.threads.fn.all_parts.scope.Goals.{After-core-core, After-as_slice-script}

pub loop-seat-init : goal.loop-seat-init
loop-seat-init g c = (
  tt,
  tt,
  sym (c.into_iter-seat-iterator.ensures.into_iter_gives.0 ∙ c.requires.seats),
  c.new-threads.ensures.len,
  λ k d less. absurd (omega (arith, less)),
)

pub bounds-scripts-core : goal.bounds-scripts-core
bounds-scripts-core g c =
    let are = c.loop-seat.invariant.2 ∙ ap (λ rest. c.loop-seat.yielded ++ rest) c.in-Some.ensures.steps.0 in
    let below = nth_below c.captures.rig.now c.loop-seat.yielded c.next.new.self.rest.items c.in-Some.seat are c.captures.scripts.now c.requires.scripts
    c.requires.cores in
    omega (arith, below, c.core-core.ensures)

pub spawn_with-requires-clause-runs : goal.spawn_with-requires-clause-runs
spawn_with-requires-clause-runs g c κs within =
    let rig = c.captures.rig.now in
    let seat = c.in-Some.seat in
    let front = c.loop-seat.yielded in
    let rest = c.next.new.self.rest.items in
    let are = c.loop-seat.invariant.2 ∙ ap (λ rest. front ++ rest) c.in-Some.ensures.steps.0 in
    let below = nth_below rig front rest seat are c.captures.scripts.now c.requires.scripts c.requires.cores in
    let core = c.core-core.ensures in
    let script = c.as_slice-script.ensures ∙ c.index-scripts-core.is ∙ get_or_default c.captures.scripts.now c.core-core.result _ []
    (omega (arith, below, core)) ∙ ap (λ core. get_or c.captures.scripts.now core []) core in (
      nth_own rig front rest seat are,
      (
        nth_new rig front rest seat are,
        (
          nth_script rig front rest seat are c.captures.scripts.now c.requires.scripts c.requires.cores c.as_slice-script.result.now script,
          (search rules, search rules),
        ),
      ),
    )

pub loop-seat-preserved : goal.loop-seat-preserved
loop-seat-preserved g c =
    let rig = c.captures.rig.now in
    let scripts = c.captures.scripts.now in
    let seat = c.in-Some.seat in
    let front = c.loop-seat.yielded in
    let rest = c.next.new.self.rest.items in
    let i = c.loop-seat.invariant in
    let first = c.in-Some.ensures.steps.0 in
    let are = i.2 ∙ ap (λ rest. front ++ rest) first in
    let below = nth_below rig front rest seat are scripts c.requires.scripts c.requires.cores in
    let core = c.core-core.ensures in
    let pushed = c.push in
    let all = vec_items pushed.new.self in
    let count = length_push front seat in
    let long : vec_len pushed.new.self ≡ vec_len c.loop-seat.threads + 1 = search rules in
    let part = c.in_ok-thread.ensures.ok in
    let own = nth_core rig front rest seat are in
    let number : c.core-core.result ≡ length front = core ∙ own in
    let script = c.as_slice-script.ensures ∙ c.index-scripts-core.is ∙ get_or_default scripts c.core-core.result _ [] (omega (arith, below, core)) ∙ ap
    (λ core. get_or scripts core []) number in (
      tt,
      tt,
      moved_on (map (new_seat rig) (numbers rig.cores)) front c.loop-seat.seat-iterator.rest.items rest seat i.2 first,
      omega (arith, long, count, i.3),
      λ k d less.
          let added = subst (λ n. get_or all n d ≡ c.in_ok-thread.thread) i.3 (pushed.ensures.by_index.1 d (search rules)) in
          below_more
          (λ i. ((get_or all i d).promise.rig.now ≡ rig) × ((get_or all i d).promise.script.now ≡ get_or scripts i []) × ((get_or all i d).promise.core ≡ i))
          (length front)
          (λ n low.
          let same = pushed.ensures.by_index.0 n d (omega (arith, low, i.3)) in
          let was = i.4 n d low in
          (ap (λ h. h.promise.rig.now) same ∙ was.0, ap (λ h. h.promise.script.now) same ∙ was.1, ap (λ h. h.promise.core) same ∙ was.2)) (
            ap (λ h. h.promise.rig.now) added ∙ ap (λ p. p.rig.now) part,
            ap (λ h. h.promise.script.now) added ∙ ap (λ p. p.script.now) part ∙ script,
            ap
                (λ h. h.promise.core) added ∙ ap (λ p. p.core) part ∙ number,
          ) k
          (omega (arith, less, count)),
    )

pub returns : goal.returns
returns g c =
    let rig = c.captures.rig.now in
    let scripts = c.captures.scripts.now in
    let joined = c.in_ok-join_promised in
    let i = c.loop-seat.invariant in
    let none : length c.loop-seat.seat-iterator.rest.items ≡ 0 = omega (arith, c.in-None.ensures.steps.0, c.loop-seat.seat-iterator.rest.ok) in
    let taken = all_taken rig c.loop-seat.yielded c.loop-seat.seat-iterator.rest.items i.2 none in
    let count : length joined.field-0.items ≡ length c.loop-seat.yielded = omega (arith, joined.ensures.len, i.3) in
    record {
      count = omega (arith, count, taken, c.requires.cores, c.requires.scripts.one_per_core);
      done = λ core d less.
          let each = joined.ensures.each core d (omega (arith, less, joined.ensures.len)) in
          let handle = each.1.handle in
          let was = i.4 core handle (omega (arith, less, count)) in
          let is = each.1.handle_is in
          done_at rig handle.promise.rig.now core handle.promise.core (get_or scripts core []) handle.promise.script.now (get_or joined.field-0.items core d)
          (ap (λ h. h.promise.rig.now) is ∙ was.0)
          (ap (λ h. h.promise.script.now) is ∙ was.1) (ap (λ h. h.promise.core) is ∙ was.2) each.1.kept;
    }
