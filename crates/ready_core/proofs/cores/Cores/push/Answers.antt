use Rattle.std.proofs.Common.{◌≡◌, ◌<◌, ℕ, ◌∙◌, eqb, false, length, Option, Some, None, refl, ap, sym, arith}
use Rattle.std.specs.Prelude.{is_some}
use Rattle.std.proofs.lemmas.List.{get_or_read}
use Rattle.list_orders.specs.Search.{has, placed}
use Rattle.list_orders.proofs.Ranks.{list_any-placed}
use Rattle.bench_model.specs.Lists.{outranks}
use Rattle.bench_model.specs.Cores.{CoresView}
use Rattle.ready_core.specs.Fields.{control_from, ready_below}
use Rattle.ready_core.proofs.ReadyLists.{rank, with_ready, ready_listed, placed_last}
use Rattle.ready_core.proofs.Shapes.{shape_push}
use Rattle.ready_core.proofs.Flags.{flags_pushed}
use Rattle.ready_core.proofs.cores.Cores.push.Goals as goal

none_of : (o : Option ℕ) → is_some o ≡ false → o ≡ None
none_of None absent = refl
none_of (Some x) absent = absurd (cc (absent))

pub push_last-requires-clause-free : goal.push_last-requires-clause-free
push_last-requires-clause-free c =
    let lists = c.self.inside.lists in
    let free = ap (λ (v : CoresView). has c.args.task v.ready) c.self.view_is ∙ c.requires.free in
    none_of _ (sym (ready_listed lists c.args.task c.self.inside.priorities c.self.invariant.shape.each) ∙ free)

pub invariant_of-self : goal.invariant_of-self
invariant_of-self c =
    let view = c.self.view_is in
    let free = ap (λ (v : CoresView). has c.args.task v.ready) view ∙ c.requires.free in
    let control = control_from c.self.inside.cores.items c.self.inside.tasks.items in
    let is = c.in_use-priority.ensures.in_use ∙ ap (λ (v : CoresView). rank v.control c.args.task) (sym view) in
    let low : c.in_use-priority.result < c.self.inside.priorities = omega (arith, c.in_use-priority.ensures.below, ap (λ (v : CoresView). v.priorities) view) in
    let under : c.args.task < length c.self.inside.tasks.items = omega (arith, c.requires.task, ap (λ (v : CoresView). length v.control.tasks) view) in
    let seated : c.args.task < length c.self.inside.seats.items = omega (arith, under, c.self.invariant.shape.seated) in
    let last = placed_last control c.self.inside.lists.lists c.in_use-priority.result c.args.task c.self.inside.priorities c.self.invariant.shape.at_home
    (omega (arith, c.self.invariant.shape.each)) low (sym is) in
    rw c.push_last.ensures (record {
      shape = shape_push _ _ _ _ _ _ c.self.invariant.shape c.args.task c.in_use-priority.result is low under free;
      flags = flags_pushed _ _ _ _ c.self.invariant.flags c.args.task c.index.result.now _
          (get_or_read c.self.inside.seats.items c.args.task c.index.result.now seated c.index.ensures 0) seated
          (λ s. ap (has s) last ∙ list_any-placed (outranks control) (λ m. eqb m s) c.args.task
          (ready_below c.self.inside.lists.lists c.self.inside.priorities));
      marks = c.self.invariant.marks;
    })

pub returns : goal.returns
returns c =
    let view = c.self.view_is in
    let control = control_from c.self.inside.cores.items c.self.inside.tasks.items in
    let placed_so = placed_last control c.self.inside.lists.lists c.in_use-priority.result c.args.task c.self.inside.priorities c.self.invariant.shape.at_home
    (omega (arith, c.self.invariant.shape.each)) (omega (arith, c.in_use-priority.ensures.below, ap (λ (v : CoresView). v.priorities) view))
    (ap (λ (v : CoresView). rank v.control c.args.task) view ∙ sym c.in_use-priority.ensures.in_use) in
    rw c.push_last.ensures
    (ap (with_ready c.self.inside.priorities c.self.inside.slicing control) placed_so
    ∙ ap (λ (v : CoresView). record v { ready = placed (outranks v.control) c.args.task v.ready }) view)
