-- The tests of what bands show tell of any two values whether they are one.
use Rattle.std.specs.Prelude.{◌≡◌, ℕ, List, [], ◌∷◌, Bool, Decides, None, Option, nat_eq, false, true, ◌&&◌, ◌==◌}
use Rattle.std.proofs.Common.{ap, refl, sym, true≢false}
use Rattle.std.proofs.lemmas.Bool.Decides.{Decides-and, Decides-eqb, Decides-like}
use Rattle.bench_types.specs.declared.cause.Cause.{Cause}
use Rattle.bench_types.specs.declared.kernel_data.Hold.{Hold}
use Rattle.bench_model.specs.SameTest.{are_same_bools, are_same_holds, are_same_lists, are_same_options}
use Rattle.run_views.proofs.Tests as tests
use Rattle.run_pictures.specs.declared.hindrance.Hindrance.{Hindrance}
use Rattle.run_pictures.specs.declared.hindrance.Obstacle.{Obstacle}
use Rattle.run_pictures.specs.declared.hindrance.Obstacle.TheVariants as obstacle
use Rattle.run_pictures.specs.declared.pose.Pose.{Pose}
use Rattle.run_pictures.specs.declared.shown.Due.{Due}
use Rattle.run_pictures.specs.declared.shown.Priorities.{Priorities}
use Rattle.run_pictures.specs.declared.stance.Stance.{Stance}
use Rattle.run_pictures.specs.declared.stance.Stance.TheVariants.{Runs, Ready, Blocked, Suspended}
use Rattle.run_pictures.specs.declared.task_names.Terms.{Terms}
use Rattle.run_views.specs.Changes.{are_same_causes, are_same_numbers}
use Rattle.run_pictures.specs.Same.{are_same_dues, are_same_hindrances, are_same_obstacles, are_same_poses, are_same_priorities, are_same_stances}
use Rattle.run_pictures.specs.Same.{are_same_terms}

pub numbers_decided : (m n : ℕ) → Decides (nat_eq m n) (m ≡ n)
numbers_decided = Decides-eqb

pub holds_decided : (a b : Option Hold) → Decides (are_same_options are_same_holds a b) (a ≡ b)
holds_decided = tests.holds_decided

pub dues_decided : (a b : Due) → Decides (are_same_dues a b) (a ≡ b)
dues_decided a b = Decides-like (are_same_dues a b)
    (λ h i. record { pend = h.0 i; asked = h.1 i })
    (λ e. (λ i. (e i).pend, λ i. (e i).asked))
    (Decides-and _ _ (tests.bools_decided a.pend b.pend) (tests.bools_decided a.asked b.asked))

pub priorities_decided : (a b : Priorities) → Decides (are_same_priorities a b) (a ≡ b)
priorities_decided a b = Decides-like (are_same_priorities a b)
    (λ h i. record { in_use = h.0 i; base = h.1 i })
    (λ e. (λ i. (e i).in_use, λ i. (e i).base))
    (Decides-and _ _ (Decides-eqb a.in_use b.in_use) (Decides-eqb a.base b.base))

pub terms_decided : (a b : Terms) → Decides (are_same_terms a b) (a ≡ b)
terms_decided a b = Decides-like (are_same_terms a b)
    (λ h i. record { base = h.0 i; mask = h.1 i })
    (λ e. (λ i. (e i).base, λ i. (e i).mask))
    (Decides-and _ _ (Decides-eqb a.base b.base) (Decides-eqb a.mask b.mask))

pub holders_decided : (a b : Option ℕ) → Decides (are_same_numbers a b) (a ≡ b)
holders_decided = tests.numbers_decided

pub flags_decided : (a b : Bool) → Decides (are_same_bools a b) (a ≡ b)
flags_decided = tests.bools_decided

-- two values that the test never finds equal, and that are not
apart : {P : Type 0} → (P → ⊥) → Decides false P
apart never = (λ e. absurd (true≢false (sym e)), λ p. absurd (never p))

abbrev runs_on : Stance → ℕ
runs_on (Runs core) = core
runs_on stance = 0

abbrev wakes_at : Stance → Option ℕ
wakes_at (Blocked wake cause) = wake
wakes_at stance = None

abbrev waits_for : Stance → Option Cause
waits_for (Blocked wake cause) = cause
waits_for stance = None

pub stances_decided : (a b : Stance) → Decides (are_same_stances a b) (a ≡ b)
stances_decided (Runs core) (Runs other) = Decides-like (nat_eq core other)
    (λ e. ap Runs e) (λ e. ap runs_on e) (Decides-eqb core other)
stances_decided Ready Ready = (λ e. refl, λ e. refl)
stances_decided (Blocked wake cause) (Blocked other reason) = Decides-like
    (are_same_numbers wake other && are_same_options are_same_causes cause reason)
    (λ e i. Blocked (e.0 i) (e.1 i))
    (λ e. (ap wakes_at e, ap waits_for e))
    (Decides-and _ _ (tests.numbers_decided wake other) (tests.causes_decided cause reason))
stances_decided Suspended Suspended = (λ e. refl, λ e. refl)
stances_decided a b = apart (λ e. cc e)

-- of two numbers each
both_decided : (task other priority level : ℕ)
    → Decides (task == other && priority == level) ((task ≡ other) × (priority ≡ level))
both_decided task other priority level =
    Decides-and _ _ (Decides-eqb task other) (Decides-eqb priority level)

pub obstacles_decided : (a b : Obstacle) → Decides (are_same_obstacles a b) (a ≡ b)
obstacles_decided obstacle.Masked obstacle.Masked = (λ e. refl, λ e. refl)
obstacles_decided obstacle.Due obstacle.Due = (λ e. refl, λ e. refl)
obstacles_decided (obstacle.Held holder) (obstacle.Held other) =
    Decides-like (nat_eq holder other) (λ e. ap obstacle.Held e) (λ e. cc e)
    (Decides-eqb holder other)
obstacles_decided (obstacle.Unpreempted task priority) (obstacle.Unpreempted other level) =
    Decides-like (task == other && priority == level)
    (λ e i. obstacle.Unpreempted (e.0 i) (e.1 i)) (λ e. (cc e, cc e))
    (both_decided task other priority level)
obstacles_decided (obstacle.Outranked task priority) (obstacle.Outranked other level) =
    Decides-like (task == other && priority == level)
    (λ e i. obstacle.Outranked (e.0 i) (e.1 i)) (λ e. (cc e, cc e))
    (both_decided task other priority level)
obstacles_decided (obstacle.Lower task priority) (obstacle.Lower other level) =
    Decides-like (task == other && priority == level)
    (λ e i. obstacle.Lower (e.0 i) (e.1 i)) (λ e. (cc e, cc e))
    (both_decided task other priority level)
obstacles_decided a b = apart (λ e. cc e)

hindrances_decided : (a b : Hindrance) → Decides (are_same_hindrances a b) (a ≡ b)
hindrances_decided a b = Decides-like (are_same_hindrances a b)
    (λ e i. record { core = e.0 i; by = e.1 i })
    (λ e. (λ i. (e i).core, λ i. (e i).by))
    (Decides-and _ _ (Decides-eqb a.core b.core) (obstacles_decided a.by b.by))

lists_decided :
    (xs ys : List Hindrance) → Decides (are_same_lists are_same_hindrances xs ys) (xs ≡ ys)
lists_decided [] [] = (λ e. refl, λ e. refl)
lists_decided (x ∷ xs) (y ∷ ys) =
    Decides-like (are_same_hindrances x y && are_same_lists are_same_hindrances xs ys)
    (λ e i. e.0 i ∷ e.1 i) (λ e. (cc e, cc e))
    (Decides-and (are_same_hindrances x y) (are_same_lists are_same_hindrances xs ys)
    (hindrances_decided x y) (lists_decided xs ys))
lists_decided [] (y ∷ ys) = apart (λ e. cc e)
lists_decided (x ∷ xs) [] = apart (λ e. cc e)

pub poses_decided : (a b : Pose) → Decides (are_same_poses a b) (a ≡ b)
poses_decided a b = Decides-like (are_same_poses a b)
    (λ e i. record { stance = e.0 i; hindrances = e.1 i })
    (λ e. (λ i. (e i).stance, λ i. (e i).hindrances))
    (Decides-and _ _ (stances_decided a.stance b.stance) (lists_decided a.hindrances b.hindrances))
