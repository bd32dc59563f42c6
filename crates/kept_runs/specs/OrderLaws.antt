-- What comes next in a run that keeps work, by what can be made. Each is a clause of a public
-- function.
use Rattle.std.specs.Prelude.{◌≡◌, ◌≢◌, ◌⊎◌, ◌<◌, ℕ, true, false, List, [], ◌∷◌, ◌++◌, All, Contains, Some, None}
use Rattle.bench_types.specs.declared.step.Call.{Call}
use Rattle.bench_types.specs.declared.step.Step.TheVariants as steps
use Rattle.bench_model.specs.Sound.{IsSound}
use Rattle.settled_runs.specs.Settled.{is_finish, is_timely, on_its_core, quiet_step}
use Rattle.kept_runs.specs.declared.call_order.CallOrder.TheVariants.{Oldest, LeastCore}
use Rattle.kept_runs.specs.Rule.{Progress, firsts, has_worked, is_within_tick, next_step, outside_step}
use Rattle.kept_runs.specs.declared.works.Unmade.{Unmade}

-- it is no `finish`
abbrev pub HasBegun : Unmade → Type 0
HasBegun one = (call : Call) → one.call ≡ Some call → is_finish call ≡ false

-- of these calls none is due that can be made
abbrev pub NoneCanBeMade : Progress → List Unmade → Type 0
NoneCanBeMade now calls =
    (one : Unmade) (call : Call) → Contains (firsts calls) one → one.call ≡ Some call
    → has_worked now one ≡ true →
    is_timely now.table (on_its_core now.table (record { task = one.task; call = call })) ≡ false

-- where no core switches and none has a `finish` the oldest due call that can be made is next
abbrev pub OldestCallComesFirst : Type 0
OldestCallComesFirst =
    (now : Progress) (before behind : List Unmade) (one : Unmade) (call : Call)
    → now.order ≡ Oldest → quiet_step now.table [] ≡ None → is_within_tick now ≡ false
    → now.unmade ≡ before ++ one ∷ behind → All (λ other. other.task ≢ one.task) before
    → one.call ≡ Some call → has_worked now one ≡ true
    → let step = on_its_core now.table (record { task = one.task; call = call }) in
    is_timely now.table step ≡ true → NoneCanBeMade now before → next_step now ≡ Some step

-- where the least core goes first, that of the least core that can make one is next
abbrev pub LeastCoreCallComesFirst : Type 0
LeastCoreCallComesFirst =
    (now : Progress) (core : ℕ) (one : Unmade) (call : Call) → now.order ≡ LeastCore
    → IsSound now.table → quiet_step now.table [] ≡ None → is_within_tick now ≡ false
    → All HasBegun now.unmade → core < now.table.settings.cores
    → Contains (firsts now.unmade) one → one.call ≡ Some call → has_worked now one ≡ true
    → let step = steps.Call core one.task call in
    is_timely now.table step ≡ true
    → ((less : ℕ) (other : Unmade) (made : Call) → less < core
    → Contains (firsts now.unmade) other → other.call ≡ Some made → has_worked now other ≡ true
    → is_timely now.table (steps.Call less other.task made) ≡ false) →
    next_step now ≡ Some step

-- where none is due that can be made, or a tick is next whose last unit went by, the next step from
-- outside comes
abbrev pub OutsideComesLast : Type 0
OutsideComesLast =
    (now : Progress) → quiet_step now.table [] ≡ None
    → (is_within_tick now ≡ true) ⊎ NoneCanBeMade now now.unmade → next_step now ≡ outside_step now
