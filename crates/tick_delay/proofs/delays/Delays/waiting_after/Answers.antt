use Rattle.std.proofs.Common.{◌≡◌, ◌≢◌, ℕ, ◌+◌, ◌-◌, ◌<◌, true, length, map, drop, get_or, Some, None, sym, subst, ◌∙◌, arith}
use Rattle.std.proofs.lemmas.Option.{same_Some}
use Rattle.std.proofs.lemmas.Bool.Decides.{Decides-eqb}
use Rattle.bench_types.proofs.Equalities.{option_decides}
use Rattle.index_lists.specs.Listed.{has_item, list_at}
use Rattle.tick_delay.specs.Parts.{DelayView, first_task}
use Rattle.tick_delay.proofs.Pair.{low_this, low_next}
use Rattle.tick_delay.proofs.Waits.{task_of}
use Rattle.tick_delay.proofs.Walks.{next_in_list, next_in_second, none_after}
use Rattle.tick_delay.proofs.delays.Delays.waiting_after.Goals as goal

pub returns-in-Some-clause-next : goal.returns-in-Some-clause-next
returns-in-Some-clause-next c =
    let shape = c.self.invariant in
    subst (λ (view : DelayView). (k : ℕ) → k < length view.delayed → get_or (map task_of view.delayed) k 0 ≡ c.args.task
    → Some c.in-Some.next ≡ first_task (drop (k + 1) view.delayed)) c.self.view_is
    (λ k within is. next_in_list _ _ _ k c.args.task within is c.in-Some.next
    (λ j low here. c.in-Some.ensures.place _ j (low_this _ _ _ _ shape) low here)
    (λ j low here. c.in-Some.ensures.place _ j (low_next _ _ _ _ shape) low here))

pub returns-in-None-clause-next : goal.returns-in-None-clause-next
returns-in-None-clause-next c =
    let shape = c.self.invariant in
    let turn = c.self.inside.turn in
    let home = (option_decides Decides-eqb _ _).0 (sym c.eq.ensures ∙ c.if-eq.true) in
    let away : has_item c.args.task (list_at c.self.inside.lists (1 - turn)) ≢ true = λ there.
    let other : turn ≡ 1 - turn = same_Some _ _ (sym home ∙ (c.list_of.ensures.only (1 - turn)).0 there) in
    absurd (omega (arith, shape.turn_low, other)) in
    subst (λ (view : DelayView). (k : ℕ) → k < length view.delayed → get_or (map task_of view.delayed) k 0 ≡ c.args.task
    → c.first.result ≡ first_task (drop (k + 1) view.delayed)) c.self.view_is
    (λ k within is. c.first.ensures.first ∙ next_in_second _ _ _ k c.args.task within is
    (λ j low here. c.in-None.ensures.place _ j (low_this _ _ _ _ shape) low here) away)

pub returns-in-None-2-clause-next : goal.returns-in-None-2-clause-next
returns-in-None-2-clause-next c =
    let shape = c.self.invariant in
    let turn = c.self.inside.turn in
    let away : has_item c.args.task (list_at c.self.inside.lists turn) ≢ true = λ here.
    absurd (cc (c.if-eq.false, c.eq.ensures, (option_decides Decides-eqb c.list_of.result (Some turn)).1 ((c.list_of.ensures.only turn).0 here))) in
    subst (λ (view : DelayView). (k : ℕ) → k < length view.delayed → get_or (map task_of view.delayed) k 0 ≡ c.args.task
    → None ≡ first_task (drop (k + 1) view.delayed)) c.self.view_is
    (λ k within is. none_after _ _ _ k c.args.task within is (λ j low there. c.in-None-2.ensures.place _ j (low_next _ _ _ _ shape) low there) away)
