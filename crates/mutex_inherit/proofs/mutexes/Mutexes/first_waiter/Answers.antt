use Rattle.std.proofs.Common.{◌∙◌, ap, sym, arith}
use Rattle.std.proofs.lemmas.Option.{same_Some}
use Rattle.bench_types.specs.declared.kernel_data.Waiter.{Waiter}
use Rattle.mutex_inherit.specs.Parts.{MutexPart}
use Rattle.mutex_inherit.proofs.Waits.{first_none, first_seen, has_key, key_low, key_some}
use Rattle.mutex_inherit.proofs.mutexes.Mutexes.first_waiter.Goals as goal

pub returns-in_err-task-clause-first : goal.returns-in_err-task-clause-first
returns-in_err-task-clause-first c = rw c.from_residual.ensures (first_none _ _ _ _ _ c.self.inside.lists _ c.self.view_is c.args.list
    (sym c.first.ensures.first ∙ c.in_err-task.was))

pub returns-in_err-below-clause-first : goal.returns-in_err-below-clause-first
returns-in_err-below-clause-first c = absurd (has_key _ _ _ _ _ c.self.inside.lists _ c.self.view_is c.self.invariant.waiting c.key_of.ensures.each c.args.list
    c.in_ok-task.task (sym c.in_ok-task.ensures.first) (sym c.key_of.ensures.key ∙ c.in_err-below.was))

pub overflow_sub-priority : goal.overflow_sub-priority
overflow_sub-priority c = omega (
  arith,
  key_low _ _ _ _ _ c.self.inside.lists _ c.self.view_is c.self.invariant.waiting c.key_of.ensures.each c.args.list
      c.in_ok-task.task (sym c.in_ok-task.ensures.first) c.in_ok-below.below (sym c.in_ok-below.ensures.key),
)

pub returns-clause-first : goal.returns-clause-first
returns-clause-first c = first_seen _ _ _ _ _ c.self.inside.lists _ c.self.view_is c.self.invariant.waiting c.key_of.ensures.each c.args.list c.in_ok-task.task
    (sym c.in_ok-task.ensures.first) c.in_ok-below.below (sym c.in_ok-below.ensures.key)

pub returns-clause-priority : goal.returns-clause-priority
returns-clause-priority c = λ waiter some.
    let is = ap (λ (w : Waiter). w.wait.priority) (same_Some _ _ some) in
    let at = c.in_ok-task.task in
    let first = sym c.in_ok-task.ensures.first in
    let key = sym c.in_ok-below.ensures.key in
    omega (
      arith,
      is,
      ap (λ (view : MutexPart). view.priorities) c.self.view_is,
      key_low _ _ _ _ _ c.self.inside.lists _ c.self.view_is c.self.invariant.waiting
          c.key_of.ensures.each c.args.list at first c.in_ok-below.below key,
      key_some _ _ _ _ _ c.self.inside.lists _ c.self.view_is c.self.invariant.waiting
          c.key_of.ensures.each c.args.list at first c.in_ok-below.below key,
    )
