-- A switch with the seek after it.
use Rattle.std.proofs.Common.{◌≡◌, ◌≢◌, ℕ, ◌<◌, Bool, true, cond, not, eqb, ◌&&◌, length, sym, ap, ◌∙◌, arith}
use Rattle.std.proofs.lemmas.Bool.Decides.{nat_tests}
use Rattle.list_orders.specs.Search.{has}
use Rattle.bench_model.specs.Control.{Control, current}
use Rattle.bench_model.specs.State.{after_select}
use Rattle.bench_model.specs.Lists.{View, list_queues}
use Rattle.bench_model.specs.Seek.{seek, may_move, after_eviction, after_switch}
use Rattle.bench_model.specs.Cores.{CoresView, cores_of, bare_view, cores_rule}
use Rattle.ready_core.proofs.Asks.{seek_agrees}

-- the view after seeking a core for a task that lost this one
abbrev moved : ℕ → ℕ → CoresView → CoresView
moved core loser view = record view { control = seek core loser (may_move view.control loser (current view.control core) core) view.control }

abbrev is_moved : ℕ → ℕ → CoresView → Bool
is_moved core loser view = not (eqb (current view.control core) loser) && has loser view.ready

moved_test : (core left runs : ℕ) (view : CoresView) → runs ≡ current view.control core → runs ≢ left → has left view.ready ≡ true → is_moved core left view ≡
    true
moved_test core left runs view is other ready = grind (arith, nat_tests, is, other, ready)

after_eviction_at : (core loser : ℕ) (view : View) → is_moved core loser (cores_of view) ≡ true → moved core loser (cores_of view) ≡ cores_of
    (after_eviction list_queues core loser view)
unfolding after_eviction
after_eviction_at core loser view test = ap (λ b. cores_of
    (cond b (record view { control = seek core loser (may_move view.control loser (current view.control core) core) view.control }) view)) (sym test)

-- a core is sought for the task that lost this one, where it is another than the new one and is ready
pub sought_after : (core left runs : ℕ) (among : ℕ → Bool) (view later : CoresView) → later ≡ cores_rule (after_select list_queues core) view → left ≡ current
    view.control core → runs ≡ current later.control core → runs ≢ left → has left later.ready ≡ true →
    ((c : ℕ) → c < length later.control.cores → among c ≡ may_move later.control left runs core c) → record later
    { control = seek core left among later.control } ≡ cores_rule (after_switch list_queues core) view
unfolding after_switch
sought_after core left runs among view later switches is_left is_run other ready agrees =
    ap (λ (control : Control). record later { control = control }) (seek_agrees core later.control left among (may_move later.control left runs core) agrees)
    ∙ ap (λ r. record later { control = seek core left (may_move later.control left r core) later.control }) is_run
    ∙ ap (moved core left) switches
    ∙ after_eviction_at core left (after_select list_queues core (bare_view view))
    (ap (is_moved core left) (sym switches) ∙ moved_test core left runs later is_run other ready)
    ∙ ap (λ l. cores_of (after_eviction list_queues core l (after_select list_queues core (bare_view view)))) is_left
