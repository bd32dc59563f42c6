-- Which steps are calls of a task.
use Rattle.std.proofs.Common.{◌≡◌, ℕ, Bool, true, false, cond, not, eqb, ◌&&◌, List, Option, Some, None, refl, sym, ap, ◌∙◌, arith}
use Rattle.std.specs.Prelude.{slice_get}
use Rattle.std.specs.Option.{option_map_or}
use Rattle.std.proofs.lemmas.Bool.Decides.{nat_tests}
use Rattle.bench_types.specs.declared.step.Call.{Call}
use Rattle.bench_types.specs.declared.step.Step.{Step}
use Rattle.bench_types.specs.declared.step.Step.TheVariants.{Tick, Switch, Interrupt, QueueInterrupt, ResumeInterrupt, Pass}
use Rattle.bench_types.specs.declared.step.Step.TheVariants as steps
use Rattle.settled_runs.specs.Settled.{is_event, is_finish}
use Rattle.kept_runs.specs.Items.{Item, begins_call, is_alike}
use Rattle.kept_runs.specs.Known.{was_call}
use Rattle.run_answers.specs.Answers.{task_of}
use Rattle.known_limits.specs.Calls.{begun_task}

-- a step that is a call of the task
pub record IsCallOf (task : ℕ) (step : Step) : Type 0 where
  pub core : ℕ
  pub call : Call
  pub is : step ≡ steps.Call core task call
  pub begins : is_finish call ≡ false

its_call : (core own task : ℕ) (call : Call) → cond (is_finish call) None (Some own) ≡ Some task → IsCallOf task (steps.Call core own call)
its_call core own task call is =
    let parts = at (is_finish call) is in
    record {
      core = core;
      call = call;
      is = ap (λ own. steps.Call core own call) parts.1;
      begins = parts.0;
    }
  where
    at : (b : Bool) → cond b None (Some own) ≡ Some task → (b ≡ false) × (own ≡ task)
    at true is = absurd (cc is)
    at false is = (refl, cc is)

pub begun_call : (task : ℕ) (step : Step) → begun_task step ≡ Some task → IsCallOf task step
begun_call task (steps.Call core own call) is = its_call core own task call is
begun_call task Tick is = absurd (cc is)
begun_call task (Switch core) is = absurd (cc is)
begun_call task (Interrupt core note) is = absurd (cc is)
begun_call task (QueueInterrupt core queue direction) is = absurd (cc is)
begun_call task (ResumeInterrupt core other) is = absurd (cc is)
begun_call task (Pass units) is = absurd (cc is)

-- a step is a call of the task where it begins a call of it
pub begins_is : (task : ℕ) (step : Step) → begins_call task step ≡ option_map_or (λ own. eqb own task) (begun_task step) false
begins_is task (steps.Call core own call) = at (is_finish call)
  where
    at : (b : Bool) → (eqb own task && not b) ≡ option_map_or (λ own. eqb own task) (cond b None (Some own)) false
    at true = grind (arith, nat_tests)
    at false = grind (arith, nat_tests)
begins_is task Tick = refl
begins_is task (Switch core) = refl
begins_is task (Interrupt core note) = refl
begins_is task (QueueInterrupt core queue direction) = refl
begins_is task (ResumeInterrupt core other) = refl
begins_is task (Pass units) = refl

-- steps that are like a call of the task are calls of it
call_alike : (task core : ℕ) (call : Call) (other : Step) → is_finish call ≡ false → is_alike (steps.Call core task call) other ≡ begins_call task other
call_alike task core call (steps.Call at_core own made) begins =
    ap (λ b. eqb task own && not b && not (is_finish made)) begins ∙ at (is_finish made)
  where
    at : (b : Bool) → (eqb task own && not false && not b) ≡ (eqb own task && not b)
    at true = grind (arith, nat_tests)
    at false = grind (arith, nat_tests)
call_alike task core call Tick begins = refl
call_alike task core call (Switch at_core) begins = refl
call_alike task core call (Interrupt at_core note) begins = refl
call_alike task core call (QueueInterrupt at_core queue direction) begins = refl
call_alike task core call (ResumeInterrupt at_core own) begins = refl
call_alike task core call (Pass units) begins = refl

pub alike_begins : (task : ℕ) (step other : Step) → begun_task step ≡ Some task → is_alike step other ≡ begins_call task other
alike_begins task step other is =
    let it = begun_call task step is in
    ap (λ step. is_alike step other) it.is ∙ call_alike task it.core it.call other it.begins

-- a step that passes the test of a task's calls begins one
pub begins_begun : (task : ℕ) (step : Step) → begins_call task step ≡ true → begun_task step ≡ Some task
begins_begun task step is = at (begun_task step) (sym (begins_is task step) ∙ is)
  where
    at : (o : Option ℕ) → option_map_or (λ own. eqb own task) o false ≡ true → o ≡ Some task
    at (Some own) same = let own_is : own ≡ task = grind (arith, nat_tests, same) in ap Some own_is
    at None same = absurd (cc same)

pub call_event : (task : ℕ) (step : Step) → IsCallOf task step → is_event step ≡ true
call_event task step it = ap is_event it.is ∙ ap not it.begins

pub call_task : (task : ℕ) (step : Step) → IsCallOf task step → task_of step ≡ Some task
call_task task step it = ap task_of it.is

-- ---- calls of the document

module _ (document : List Step) (task : ℕ) (item : Item) (begins : begun_task item.step ≡ Some task) where
  pub was_there : (step : Step) → slice_get document item.anchor ≡ Some step → item.inserted ≡ false → begins_call task step ≡ was_call document item
  was_there step there own =
      sym ((λ i. not (own i) && option_map_or (is_alike item.step) (there i) false) ∙ alike_begins task item.step step begins)

  pub was_nowhere : slice_get document item.anchor ≡ None → false ≡ was_call document item
  was_nowhere none = sym (ap (λ o. not item.inserted && option_map_or (is_alike item.step) o false) none ∙ at (not item.inserted))
    where
      at : (b : Bool) → (b && false) ≡ false
      at true = refl
      at false = refl
