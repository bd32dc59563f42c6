use Rattle.std.proofs.Common.{◌≡◌, ℕ, true, false, cond, ◌∙◌, ap, sym}
use Rattle.list_orders.specs.Search.{placed, without, has}
use Rattle.list_orders.proofs.Listings.{has-without}
use Rattle.bench_model.specs.Lists.{list_queues, add_to_ready_list, outranks}
use Rattle.bench_model.specs.ControlFields.{with_in_use, in_use_set}
use Rattle.bench_model.specs.Cores.{CoresView, cores_of, bare_view, cores_rule}
use Rattle.ready_core.proofs.cores.Cores.set_in_use.Goals as goal

abbrev changed : ℕ → ℕ → CoresView → CoresView
changed task priority view = record view { control = with_in_use task priority view.control }

abbrev last : ℕ → CoresView → CoresView
last task view = record view { ready = placed (outranks view.control) task view.ready }

abbrev gone : ℕ → CoresView → CoresView
gone task view = record view { ready = without task view.ready }

set_ready : (task priority : ℕ) (view : CoresView) → has task view.ready ≡ true → last task (changed task priority (gone task view)) ≡ cores_rule
    (in_use_set list_queues task priority) view
unfolding in_use_set add_to_ready_list
set_ready task priority view ready =
    let control = with_in_use task priority view.control in
    ap (λ b. cores_of (record (bare_view view) {
      control = control;
      orders = cond b (add_to_ready_list control task (bare_view view).orders)
          (bare_view view).orders;
    })) (sym ready)

set_unready : (task priority : ℕ) (view : CoresView) → has task view.ready ≡ false → changed task priority view ≡ cores_rule
    (in_use_set list_queues task priority) view
unfolding in_use_set add_to_ready_list
set_unready task priority view absent =
    let control = with_in_use task priority view.control in
    ap (λ b. cores_of (record (bare_view view) {
      control = control;
      orders = cond b (add_to_ready_list control task (bare_view view).orders)
          (bare_view view).orders;
    })) (sym absent)

pub put_in_use-requires-clause-free : goal.put_in_use-requires-clause-free
put_in_use-requires-clause-free c = ap (λ (v : CoresView). has c.args.task v.ready) c.unready.ensures ∙ has-without c.args.task c.args.self.now.ready

pub push-requires-clause-free : goal.push-requires-clause-free
push-requires-clause-free c = ap (λ (v : CoresView). has c.args.task v.ready)
    (c.put_in_use.ensures ∙ ap (changed c.args.task c.args.priority) c.unready.ensures) ∙ has-without c.args.task c.args.self.now.ready

pub returns-then-ready : goal.returns-then-ready
returns-then-ready c =
    c.push.ensures ∙ ap (last c.args.task) (c.put_in_use.ensures ∙ ap (changed c.args.task c.args.priority) c.unready.ensures)
    ∙ set_ready c.args.task c.args.priority c.args.self.now (sym c.ready.ensures ∙ c.if-ready.true)

pub returns-else-ready : goal.returns-else-ready
returns-else-ready c =
    c.put_in_use-else-ready.ensures ∙ set_unready c.args.task c.args.priority c.args.self.now (sym c.ready.ensures ∙ c.if-ready.false)
