-- A core opens and closes its own holds alone.
use Rattle.bench_types.specs.Step.{core_of}
use Rattle.std.proofs.Common.{◌≡◌, ℕ, ◌+◌, ◌-◌, Bool, true, false, cond, eqb, Option, Some, None, refl, sym, ap, ◌∙◌, arith}
use Rattle.std.specs.Prelude.{◌≢◌}
use Rattle.std.specs.Option.{option_map_or}
use Rattle.std.proofs.lemmas.Bool.Decides.{nat_tests}
use Rattle.bench_types.specs.declared.kernel_data.Hold.{Hold}
use Rattle.bench_types.specs.declared.reply.Refusal.{Refusal}
use Rattle.bench_types.specs.declared.reply.Reply.{Reply}
use Rattle.bench_types.specs.declared.reply.Reply.TheVariants.{Refused}
use Rattle.bench_types.specs.declared.step.Step.{Step}
use Rattle.bench_types.specs.declared.step.Step.TheVariants as steps
use Rattle.bench_types.specs.declared.step.Call.{Call}
use Rattle.bench_types.specs.declared.step.Call.TheVariants.{HoldOpen, HoldClose}
use Rattle.bench_model.specs.Holds.{is_held_by, is_held_elsewhere, depth_of, depth_by, hold_opened, hold_closed}
use Rattle.bench_model.specs.Refusals.{refusal}
use Rattle.bench_model.specs.Session.{step_of}
use Rattle.bench_model.specs.Sound.{IsSound}
use Rattle.bench_model.specs.Steps.{performed, called, after}
use Rattle.bench_model.specs.Table.{Table, stamp_queues}
use Rattle.step_laws.proofs.Holds.{accepted}
use Rattle.step_laws.proofs.Nears.{performed_near, keeps_step}

-- a core holds nothing while only another one may
none_held : (core acting : ℕ) (hold : Option Hold) → core ≢ acting → is_held_elsewhere acting hold ≡ false → depth_by core hold ≡ 0
none_held core acting None apart free = refl
none_held core acting (Some hold) apart free = ap (λ b. cond b hold.depth 0) (other (grind (arith, nat_tests, free)))
  where
    other : hold.core ≡ acting → eqb hold.core core ≡ false
    other own = grind (arith, nat_tests, own, apart)

-- the hold of the acting core, if it has one
abbrev hold_by : ℕ → ℕ → Bool → Option Hold
hold_by acting depth none = cond none None (Some (record { core = acting; depth = depth }))

its_own : (acting depth : ℕ) (none : Bool) → is_held_elsewhere acting (hold_by acting depth none) ≡ false
its_own acting depth true = refl
its_own acting depth false = grind (arith, nat_tests)

never_held : (core acting depth : ℕ) (none : Bool) (old : Option Hold) → core ≢ acting → is_held_elsewhere acting old ≡ false → depth_by core
    (hold_by acting depth none) ≡ depth_by core old
never_held core acting depth none old apart free = none_held core acting (hold_by acting depth none) apart (its_own acting depth none) ∙ sym
    (none_held core acting old apart free)

kept_depth : (core : ℕ) (step : Step) (table : Table) → IsSound table → keeps_step step ≡ true → depth_by core (performed stamp_queues step table).1.hold ≡
    depth_by core table.hold
kept_depth core step table sound keeps =
    let sized = sound.consistent.sized in
    ap (depth_by core) ((performed_near step table (omega arith)).3 keeps)

performed_depth : (core : ℕ) (step : Step) (table : Table) → IsSound table → core ≢ core_of step → refusal stamp_queues step table ≡ None → depth_by core
    (performed stamp_queues step table).1.hold ≡ depth_by core table.hold
unfolding performed called hold_opened hold_closed
performed_depth core (steps.Call acting task HoldOpen) table sound apart none =
    never_held core acting (depth_of table.hold + 1) false table.hold apart (accepted stamp_queues acting task HoldOpen table none).free
performed_depth core (steps.Call acting task HoldClose) table sound apart none =
    let left = depth_of table.hold - 1 in
    never_held core acting left (eqb left 0) table.hold apart (accepted stamp_queues acting task HoldClose table none).free
performed_depth core step table sound apart none = kept_depth core step table sound refl

pub others_depth : (table : Table) (step : Step) (core : ℕ) → IsSound table → core ≢ core_of step → depth_by core (step_of step table).1.hold ≡ depth_by core
    table.hold
unfolding after
others_depth table step core sound apart = at (refusal stamp_queues step table) refl
  where
    at : (why : Option Refusal) → refusal stamp_queues step table ≡ why → depth_by core
        (option_map_or {U = Reply × Table} (λ why. (Refused why, table)) why (performed stamp_queues step table)).1.hold ≡ depth_by core table.hold
    at None none = performed_depth core step table sound apart none
    at (Some why) is = refl

-- a step that opens and closes no hold leaves it
performed_hold : (step : Step) (table : Table) → IsSound table → keeps_step step ≡ true → (performed stamp_queues step table).1.hold ≡ table.hold
performed_hold step table sound keeps =
    let sized = sound.consistent.sized in
    (performed_near step table (omega arith)).3 keeps

pub kept_hold : (table : Table) (step : Step) → IsSound table → keeps_step step ≡ true → (step_of step table).1.hold ≡ table.hold
unfolding after
kept_hold table step sound keeps = at (refusal stamp_queues step table)
  where
    at : (why : Option Refusal) → (option_map_or {U = Reply × Table} (λ why. (Refused why, table)) why (performed stamp_queues step table)).1.hold ≡ table.hold
    at None = performed_hold step table sound keeps
    at (Some why) = refl

-- a call leaves no hold of another core than its own, where there was none
performed_own : (acting task : ℕ) (call : Call) (table : Table) → IsSound table → is_held_elsewhere acting table.hold ≡ false → is_held_elsewhere acting
    (performed stamp_queues (steps.Call acting task call) table).1.hold ≡ false
unfolding performed called hold_opened hold_closed
performed_own acting task HoldOpen table sound free = its_own acting (depth_of table.hold + 1) false
performed_own acting task HoldClose table sound free = let left = depth_of table.hold - 1 in its_own acting left (eqb left 0)
performed_own acting task call table sound free = ap (is_held_elsewhere acting) (performed_hold (steps.Call acting task call) table sound refl) ∙ free

pub call_holds_own : (table : Table) (acting task : ℕ) (call : Call) → IsSound table → is_held_elsewhere acting table.hold ≡ false → is_held_elsewhere acting
    (step_of (steps.Call acting task call) table).1.hold ≡ false
unfolding after
call_holds_own table acting task call sound free = at (refusal stamp_queues (steps.Call acting task call) table)
  where
    at : (why : Option Refusal) → is_held_elsewhere acting (option_map_or {U = Reply × Table} (λ why. (Refused why, table)) why
        (performed stamp_queues (steps.Call acting task call) table)).1.hold ≡ false
    at None = performed_own acting task call table sound free
    at (Some why) = free

-- a core is no holder while only another one may be
not_held : (core acting : ℕ) (hold : Option Hold) → core ≢ acting → is_held_elsewhere acting hold ≡ false → is_held_by core hold ≡ false
not_held core acting None apart free = refl
not_held core acting (Some hold) apart free = grind (arith, nat_tests, free, apart)

performed_held : (core : ℕ) (step : Step) (table : Table) → IsSound table → core ≢ core_of step → refusal stamp_queues step table ≡ None → is_held_by core
    (performed stamp_queues step table).1.hold ≡ is_held_by core table.hold
performed_held core (steps.Call acting task call) table sound apart none =
    let free = (accepted stamp_queues acting task call table none).free in
    not_held core acting (performed stamp_queues (steps.Call acting task call) table).1.hold apart (performed_own acting task call table sound free)
    ∙ sym (not_held core acting table.hold apart free)
performed_held core step table sound apart none = ap (is_held_by core) (performed_hold step table sound refl)

-- no step makes another core the holder, or ends its hold
pub others_held : (table : Table) (step : Step) (core : ℕ) → IsSound table → core ≢ core_of step → is_held_by core (step_of step table).1.hold ≡ is_held_by core
    table.hold
unfolding after
others_held table step core sound apart = at (refusal stamp_queues step table) refl
  where
    at : (why : Option Refusal) → refusal stamp_queues step table ≡ why → is_held_by core
        (option_map_or {U = Reply × Table} (λ why. (Refused why, table)) why (performed stamp_queues step table)).1.hold ≡ is_held_by core table.hold
    at None none = performed_held core step table sound apart none
    at (Some why) is = refl
