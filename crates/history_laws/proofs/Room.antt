-- The room that a step leaves, and that an open hold can always be closed.
use Rattle.std.proofs.Common.{◌≡◌, ℕ, suc, ◌+◌, ◌-◌, ◌<◌, ◌≤◌, Bool, true, false, cond, not, eqb, ◌&&◌, List, length, Option, Some, None, refl, ap, subst, ◌∙◌}
use Rattle.std.proofs.Common.{arith}
use Rattle.std.specs.Option.{option_or, option_map_or}
use Rattle.std.proofs.lemmas.Bool.Decides.{nat_tests}
use Rattle.bench_types.specs.declared.entry.Entry.{Entry}
use Rattle.bench_types.specs.declared.kernel_data.Hold.{Hold}
use Rattle.bench_types.specs.declared.reply.Refusal.{Refusal}
use Rattle.bench_types.specs.declared.reply.Refusal.TheVariants.{Held, Displaced, SwitchDue, NoHold}
use Rattle.bench_types.specs.declared.reply.Reply.{Reply}
use Rattle.bench_types.specs.declared.reply.Reply.TheVariants.{Done, Refused}
use Rattle.bench_types.specs.declared.step.Step.{Step}
use Rattle.bench_types.specs.declared.step.Step.TheVariants.{Tick, Switch, Interrupt}
use Rattle.bench_types.specs.declared.step.Step.TheVariants as steps
use Rattle.bench_types.specs.declared.step.Call.TheVariants.{HoldOpen, HoldClose}
use Rattle.bench_types.specs.declared.step.Unfinished.{Unfinished}
use Rattle.bench_model.specs.Control.{current, is_due}
use Rattle.bench_model.specs.History.{free_places, places_of, IsByCurrent}
use Rattle.bench_model.specs.Holds.{is_held_by, is_held_elsewhere, depth_of, hold_opened, hold_closed}
use Rattle.bench_model.specs.Refusals.{call_refusal, would_block, refusal}
use Rattle.bench_model.specs.Session.{step_of}
use Rattle.bench_model.specs.Sound.{IsSound}
use Rattle.bench_model.specs.State.{call_at}
use Rattle.bench_model.specs.Steps.{performed, called, after}
use Rattle.bench_model.specs.Table.{Table, stamp_queues}
use Rattle.step_laws.proofs.Holds.{its_hold}
use Rattle.step_laws.proofs.Nears.{performed_near, keeps_step}

not_elsewhere : (core : ℕ) (hold : Option Hold) → is_held_by core hold ≡ true → is_held_elsewhere core hold ≡ false
not_elsewhere core None is = refl
not_elsewhere core (Some hold) is = ap not is

-- the refusals of a call that closes a hold, in their order
close_clear : (elsewhere runs due held : Bool) (unfinished : Option Unfinished) → elsewhere ≡ false → runs ≡ true → held ≡ true → unfinished ≡ None → cond
    elsewhere (Some Held) (cond (not runs) (Some Displaced) (cond (due && not held) (Some SwitchDue)
    (option_or (call_refusal unfinished HoldClose) (option_or (cond held None (Some NoHold)) None)))) ≡ None
close_clear true runs due held unfinished free runs_it holds none = absurd (cc free)
close_clear false false due held unfinished free runs_it holds none = absurd (cc runs_it)
close_clear false true due false unfinished free runs_it holds none = absurd (cc holds)
close_clear false true due true (Some call) free runs_it holds none = absurd (cc none)
close_clear false true true true None free runs_it holds none = refl
close_clear false true false true None free runs_it holds none = refl

close_accepted : (table : Table) (core task : ℕ) → IsSound table → is_held_by core table.hold ≡ true → current table.control core ≡ task → refusal stamp_queues
    (steps.Call core task HoldClose) table ≡ None
unfolding refusal would_block
close_accepted table core task sound held runs =
    let it = its_hold core table.hold held in
    let none : call_at table.calls task ≡ None = subst (λ i. call_at table.calls i ≡ None) (ap (current table.control) it.2 ∙ runs)
    (sound.held it.0 it.1).no_call in
    close_clear (is_held_elsewhere core table.hold) (eqb (current table.control core) task) (is_due table.control core) (is_held_by core table.hold)
    (call_at table.calls task)
    (not_elsewhere core table.hold held) (grind (arith, nat_tests, runs)) held none

abbrev known : Option Refusal → Step → Table → Reply × Table
known why step table = option_map_or (λ why. (Refused why, table)) why (performed stamp_queues step table)

pub close_done : (table : Table) (core task : ℕ) → IsSound table → is_held_by core table.hold ≡ true → current table.control core ≡ task → step_of
    (steps.Call core task HoldClose) table ≡ (Done, hold_closed core table)
unfolding after performed called
close_done table core task sound held runs = ap (λ why. known why (steps.Call core task HoldClose) table) (close_accepted table core task sound held runs)

depth_left : (core left : ℕ) → depth_of (cond (eqb left 0) None (Some (record { core = core; depth = left }))) ≡ left
depth_left core left = at (eqb left 0) refl
  where
    at : (b : Bool) → eqb left 0 ≡ b → depth_of (cond b None (Some (record { core = core; depth = left }))) ≡ left
    at true none = grind (arith, nat_tests, none)
    at false some = refl

some_depth : (core : ℕ) (table : Table) → IsSound table → is_held_by core table.hold ≡ true → 0 < depth_of table.hold
some_depth core table sound held =
    let it = its_hold core table.hold held in
    omega (arith, (sound.held it.0 it.1).depth.0, ap depth_of it.1)

-- a step that opens and closes no hold
kept_fits : (step : Step) (table : Table) → IsSound table → keeps_step step ≡ true → 1 ≤ places_of table.hold step → 1 + depth_of
    (performed stamp_queues step table).1.hold ≤ depth_of table.hold + places_of table.hold step
kept_fits step table sound keeps place =
    let sized = sound.consistent.sized in
    let near = performed_near step table (omega arith) in
    omega (arith, ap depth_of (near.3 keeps), place)

-- what a step that is not refused adds to the holds fits its places
performed_fits : (step : Step) (table : Table) → IsSound table → 1 + depth_of (performed stamp_queues step table).1.hold ≤ depth_of table.hold + places_of
    table.hold step
unfolding performed called hold_opened hold_closed
performed_fits (steps.Call core task HoldOpen) table sound = omega arith
performed_fits (steps.Call core task HoldClose) table sound = at (is_held_by core table.hold) refl
  where
    at : (b : Bool) → is_held_by core table.hold ≡ b → 1 + depth_of (cond (eqb (depth_of table.hold - 1) 0) None
        (Some (record { core = core; depth = depth_of table.hold - 1 }))) ≤ depth_of table.hold + cond b 0 1
    at true held = omega (arith, depth_left core (depth_of table.hold - 1), some_depth core table sound held)
    at false free = omega (arith, depth_left core (depth_of table.hold - 1))
performed_fits step table sound = kept_fits step table sound refl (omega arith)

-- a step that is refused needs a place for its entry
refused_fits : (why : Refusal) (step : Step) (table : Table) → IsSound table → IsByCurrent table.control step → refusal stamp_queues step table ≡ Some why → 1 ≤
    places_of table.hold step
refused_fits why (steps.Call core task HoldClose) table sound runs is = at (is_held_by core table.hold) refl
  where
    at : (b : Bool) → is_held_by core table.hold ≡ b → 1 ≤ cond b 0 1
    at true held = absurd (cc (close_accepted table core task sound held runs, is))
    at false free = omega arith
refused_fits why step table sound runs is = omega arith

step_fits : (step : Step) (table : Table) → IsSound table → IsByCurrent table.control step → 1 + depth_of (step_of step table).1.hold ≤ depth_of table.hold +
    places_of table.hold step
unfolding after
step_fits step table sound runs = at (refusal stamp_queues step table) refl
  where
    at : (why : Option Refusal) → refusal stamp_queues step table ≡ why → 1 + depth_of (known why step table).1.hold ≤ depth_of table.hold + places_of
        table.hold step
    at None none = performed_fits step table sound
    at (Some why) is = omega (arith, refused_fits why step table sound runs is)

pub fits_room : (limit : ℕ) (entries : List Entry) (table : Table) (step : Step) → IsSound table → IsByCurrent table.control step → length entries + depth_of
    table.hold ≤ limit → places_of table.hold step ≤ free_places limit entries table.hold → suc (length entries) + depth_of (step_of step table).1.hold ≤ limit
fits_room limit entries table step sound runs room places = omega (arith, step_fits step table sound runs)
