-- Rules that are given the orders of tasks under other names do the same with them.
use Rattle.std.proofs.Common.{◌≡◌, ℕ, Option, ap}
use std.Equiv.{◌≃◌, id_equiv}
use std.Univalence.{equiv_j}
use Rattle.bench_types.specs.declared.kernel_data.EventWait.{EventWait}
use Rattle.bench_types.specs.declared.reply.Reply.{Reply}
use Rattle.bench_types.specs.declared.step.Step.{Step}
use Rattle.bench_model.specs.Control.{Control}
use Rattle.bench_model.specs.State.{State, QueueOps}
use Rattle.bench_model.specs.Steps.{after}

-- the state with its orders under other names
abbrev pub carried : {A B : Type 0} → (A → B) → State A → State B
carried f state = record {
  settings = state.settings;
  control = state.control;
  calls = state.calls;
  notes = state.notes;
  holders = state.holders;
  queues = state.queues;
  hold = state.hold;
  orders = f state.orders;
}

abbrev pub outcome_carried : {A B : Type 0} → (A → B) → Reply × State A → Reply × State B
outcome_carried f outcome = (outcome.0, carried f outcome.1)

-- the second rules do with orders under other names what the first do with the orders
pub record Carries {A B : Type 0} (f : A → B) (a : QueueOps A) (b : QueueOps B) : Type 0 where
  pub is_ready : (task : ℕ) (o : A) → b.is_ready task (f o) ≡ a.is_ready task o
  pub pick : (control : Control) (core : ℕ) (o : A) → b.pick control core (f o) ≡ a.pick control core o
  pub add_to_ready_list : (control : Control) (task : ℕ) (o : A) → b.add_to_ready_list control task (f o) ≡ f (a.add_to_ready_list control task o)
  pub delay : (task : ℕ) (ticks : Option ℕ) (wait : Option EventWait) (o : A) → b.delay task ticks wait (f o) ≡ f (a.delay task ticks wait o)
  pub waits : (task : ℕ) (o : A) → b.waits task (f o) ≡ a.waits task o
  pub suspend : (task : ℕ) (o : A) → b.suspend task (f o) ≡ f (a.suspend task o)
  pub tick_count : (o : A) → b.tick_count (f o) ≡ a.tick_count o
  pub advance : (o : A) → b.advance (f o) ≡ f (a.advance o)
  pub due : (o : A) → b.due (f o) ≡ a.due o
  pub first_waiter : (list : ℕ) (o : A) → b.first_waiter list (f o) ≡ a.first_waiter list o
  pub deadline_left : (task : ℕ) (o : A) → b.deadline_left task (f o) ≡ a.deadline_left task o
  pub forget_deadline : (task : ℕ) (o : A) → b.forget_deadline task (f o) ≡ f (a.forget_deadline task o)
  pub list_value : (task : ℕ) (o : A) → b.list_value task (f o) ≡ a.list_value task o
  pub set_list_value : (task value : ℕ) (o : A) → b.set_list_value task value (f o) ≡ f (a.set_list_value task value o)

-- rules that do the same under the same names are the same
same_ops : {A : Type 0} (a b : QueueOps A) → Carries (λ o. o) a b → b ≡ a
same_ops a b same = λ i. record {
  is_ready = λ task o. same.is_ready task o i;
  pick = λ control core o. same.pick control core o i;
  add_to_ready_list = λ control task o. same.add_to_ready_list control task o i;
  delay = λ task ticks wait o. same.delay task ticks wait o i;
  waits = λ task o. same.waits task o i;
  suspend = λ task o. same.suspend task o i;
  tick_count = λ o. same.tick_count o i;
  advance = λ o. same.advance o i;
  due = λ o. same.due o i;
  first_waiter = λ list o. same.first_waiter list o i;
  deadline_left = λ task o. same.deadline_left task o i;
  forget_deadline = λ task o. same.forget_deadline task o i;
  list_value = λ task o. same.list_value task o i;
  set_list_value = λ task value o. same.set_list_value task value o i;
}

-- so a step under other names is the step, with its outcome under these names
pub after_carried :
    {A B : Type 0} (e : A ≃ B) (a : QueueOps A) (b : QueueOps B) → Carries e.0 a b → (step : Step) (state : State A)
    → after b step (carried e.0 state) ≡ outcome_carried e.0 (after a step state)
unfolding id_equiv
after_carried {B = B} e a b carries step state =
    equiv_j
    (λ A (e : A ≃ B). (a : QueueOps A) → Carries e.0 a b → (state : State A)
    → after b step (carried e.0 state) ≡ outcome_carried e.0 (after a step state))
    (λ a same state. ap (λ ops. after ops step state) (same_ops a b same)) e a carries state
