use Rattle.std.proofs.Common.{◌≡◌, ◌<◌, ltb, ◌&&◌, Bool, true, false, length, refl, ◌∙◌, ap, sym, subst, arith}
use Rattle.std.specs.List.{AllByRecursion}
use Rattle.std.proofs.lemmas.List.{length-map}
use Rattle.list_orders.specs.Search.{has}
use Rattle.index_lists.specs.Listed.{Listed}
use Rattle.bench_model.specs.Control.{task_at}
use Rattle.bench_model.specs.Lists.{list_queues}
use Rattle.bench_model.specs.Seek.{ready_in}
use Rattle.bench_model.specs.Cores.{CoresView, bare_view}
use Rattle.ready_core.specs.Fields.{control_from, tasks_of, ready_list}
use Rattle.ready_core.proofs.ReadyLists.{row_at, rank, ready_of, tasks_low}
use Rattle.ready_core.proofs.Slices.{company}
use Rattle.ready_core.proofs.cores.Cores.has_company.Goals as goal

-- a ready task has company where its list has more than one
with_company : (c : goal.After-len) → has c.args.task c.args.self.now.ready ≡ true → ltb 1 c.len.result ≡ ltb 1
    (length (ready_in list_queues (task_at c.args.self.now.control c.args.task).in_use (bare_view c.args.self.now)))
with_company c ready =
    let now = c.args.self.now in
    let task = c.args.task in
    let view = c.self.view_is in
    let lists = c.self.inside.lists.lists in
    let n = c.self.inside.priorities in
    let control = control_from c.self.inside.cores.items c.self.inside.tasks.items in
    let r = c.in_use.result in
    let is : r ≡ rank now.control task = c.in_use.ensures.in_use in
    let low : r < n = omega (arith, c.in_use.ensures.below, ap (λ (v : CoresView). v.priorities) view) in
    let shown : ready_list (rank now.control task) now ≡ tasks_of lists r = ap (λ p. ready_list p now) (sym is) ∙ ap (ready_list r) (sym view) ∙ ready_of
    control lists r n c.self.invariant.shape.at_home low in
    let within = subst (λ (v : CoresView). AllByRecursion (λ t. t < length v.control.tasks) v.ready) view
    (tasks_low (length c.self.inside.tasks.items) lists n c.self.invariant.shape.listings) in
    ap (ltb 1) (c.len.ensures ∙ sym (length-map (row_at lists r) (λ (e : Listed). e.item)))
    ∙ sym (company now (tasks_of lists r) task shown (c.self.invariant.shape.listings r low).once within c.requires ready)

pub returns : goal.returns
returns c = at (has c.args.task c.args.self.now.ready) refl
  where
    shared : Bool
    shared = ltb 1 (length (ready_in list_queues (task_at c.args.self.now.control c.args.task).in_use (bare_view c.args.self.now)))

    at : (b : Bool) → has c.args.task c.args.self.now.ready ≡ b → (c.ready.result && ltb 1 c.len.result) ≡ (has c.args.task c.args.self.now.ready && shared)
    at true ready = ap (λ b. b && ltb 1 c.len.result) (c.ready.ensures ∙ ready) ∙ with_company c ready ∙ ap (λ b. b && shared) (sym ready)
    at false absent = ap (λ b. b && ltb 1 c.len.result) (c.ready.ensures ∙ absent) ∙ ap (λ b. b && shared) (sym absent)
