-- The tests of what changed tell of any two values whether they are equal.
use Rattle.std.proofs.Common.{◌≡◌, Bool, ◌&&◌, true, false, Some, None, refl, ap, sym, true≢false}
use Rattle.std.specs.Prelude.{Decides, nat_eq}
use Rattle.std.proofs.lemmas.Bool.Decides.{Decides-eqb, Decides-and, Decides-like}
use Rattle.bench_types.specs.declared.cause.Cause.TheVariants as cause
use Rattle.bench_types.specs.declared.step.Direction.TheVariants.{Send, Receive}
use Rattle.bench_types.specs.declared.note.NoteState.TheVariants.{NotWaiting, Waiting, Received}
use Rattle.bench_model.specs.SameTest.{are_same_bools, are_same_directions, are_same_options, are_same_states, are_same_holds}
use Rattle.run_views.specs.declared.look.Standing.TheVariants.{Ready, Blocked, Suspended}
use Rattle.run_views.specs.Changes.{are_same_causes, are_same_numbers, are_same_standings}

abbrev pub Tells : {X : Type 0} → (X → X → Bool) → Type 0
Tells {X} same = (x y : X) → Decides (same x y) (x ≡ y)

-- two values that the test never finds equal, and that are not
apart : {P : Type 0} → (P → ⊥) → Decides false P
apart never = (λ e. absurd (true≢false (sym e)), λ p. absurd (never p))

pub bools_decided : Tells are_same_bools
bools_decided true true = (λ e. refl, λ e. refl)
bools_decided true false = (λ e. absurd (true≢false (sym e)), λ e. absurd (true≢false e))
bools_decided false true = (λ e. absurd (true≢false (sym e)), λ e. absurd (true≢false (sym e)))
bools_decided false false = (λ e. refl, λ e. refl)

options_decided : {X : Type 0} (same : X → X → Bool) → Tells same → Tells (are_same_options same)
options_decided same tells None None = (λ e. refl, λ e. refl)
options_decided same tells (Some x) (Some y) = Decides-like (same x y) (λ e. ap Some e) (λ e. cc e) (tells x y)
options_decided same tells None (Some y) = apart (λ e. cc e)
options_decided same tells (Some x) None = apart (λ e. cc e)

pub numbers_decided : Tells are_same_numbers
numbers_decided = options_decided _ Decides-eqb

pub holds_decided : Tells (are_same_options are_same_holds)
holds_decided = options_decided are_same_holds (λ a b. Decides-like (are_same_holds a b)
    (λ h i. record { core = h.0 i; depth = h.1 i })
    (λ e. (λ i. (e i).core, λ i. (e i).depth))
    (Decides-and _ _ (Decides-eqb a.core b.core) (Decides-eqb a.depth b.depth)))

directions_decided : Tells are_same_directions
directions_decided Send Send = (λ e. refl, λ e. refl)
directions_decided Receive Receive = (λ e. refl, λ e. refl)
directions_decided a b = apart (λ e. cc e)

one_cause : Tells are_same_causes
one_cause cause.Delay cause.Delay = (λ e. refl, λ e. refl)
one_cause cause.Notification cause.Notification = (λ e. refl, λ e. refl)
one_cause (cause.Mutex mutex) (cause.Mutex other) = Decides-like (nat_eq mutex other) (λ e. ap cause.Mutex e) (λ e. cc e) (Decides-eqb mutex other)
one_cause (cause.Queue queue direction) (cause.Queue other way) =
    Decides-like (nat_eq queue other && are_same_directions direction way)
    (λ e i. cause.Queue (e.0 i) (e.1 i))
    (λ e. (cc e, cc e))
    (Decides-and _ _ (Decides-eqb queue other) (directions_decided direction way))
one_cause a b = apart (λ e. cc e)

pub causes_decided : Tells (are_same_options are_same_causes)
causes_decided = options_decided are_same_causes one_cause

pub states_decided : Tells are_same_states
states_decided NotWaiting NotWaiting = (λ e. refl, λ e. refl)
states_decided Waiting Waiting = (λ e. refl, λ e. refl)
states_decided Received Received = (λ e. refl, λ e. refl)
states_decided a b = apart (λ e. cc e)

pub standings_decided : Tells are_same_standings
standings_decided Ready Ready = (λ e. refl, λ e. refl)
standings_decided (Blocked wake) (Blocked later) = Decides-like (are_same_numbers wake later) (λ e. ap Blocked e) (λ e. cc e) (numbers_decided wake later)
standings_decided Suspended Suspended = (λ e. refl, λ e. refl)
standings_decided a b = apart (λ e. cc e)
