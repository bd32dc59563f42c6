use Rattle.std.proofs.Common.{◌≡◌, ℕ, ◌<◌, Bool, true, List, ◌∙◌, filter, refl, ap, sym, arith, inl, inr}
use Rattle.std.proofs.lemmas.Bool.{cases_eq}
use Rattle.bench_model.specs.Control.{Control}
use Rattle.bench_model.specs.Cores.{CoresView}
use Rattle.index_lists.specs.Listed.{ListsView}
use Rattle.bench_types.specs.declared.kernel_data.CoreLook.{CoreLook}
use Rattle.bench_types.specs.declared.kernel_data.TaskControl.{TaskControl}
use Rattle.ready_core.specs.Fields.{control_from, tasks_of, ready_below, has_priority, ready_list, seen_of}
use Rattle.ready_core.specs.Shape.{IsShape}
use Rattle.ready_core.proofs.ReadyLists.{ready_of, ready_kept}
use Rattle.ready_core.proofs.cores.Cores.has_same_lists.Goals as goal

-- the ready list of a priority is the list of the fields
shown : (n : ℕ) (slicing : Bool) (cores : List CoreLook) (tasks : List TaskControl) (lists : ListsView) (listed : ℕ) (seats : List ℕ) (p : ℕ) (view : CoresView)
    → seen_of n slicing (control_from cores tasks) lists ≡ view → IsShape n cores tasks lists listed seats → p < view.priorities → ready_list p view ≡ tasks_of
    lists.lists p
shown n slicing cores tasks lists listed seats p view is shape low =
    sym (ap (ready_list p) is) ∙ ready_of (control_from cores tasks) lists.lists p n shape.at_home (omega (arith, low, ap (λ (v : CoresView). v.priorities) is))

pub returns-then-not-has_same_list : goal.returns-then-not-has_same_list
returns-then-not-has_same_list c =
    let p = c.loop-priority.priority in
    let low : p < c.args.self.now.priorities = omega (
      arith,
      c.loop-priority-test.true,
      c.loop-priority.auto.priority-end,
      ap (λ (v : CoresView). v.priorities)
          c.self.view_is,
    ) in
    let mine = shown _ _ _ _ _ _ _ p c.args.self.now c.self.view_is c.self.invariant.shape low in
    let theirs = shown _ _ _ _ _ _ _ p c.args.other.now c.other.view_is c.other.invariant.shape (omega (arith, low, c.requires.priorities)) in (
      λ no. absurd (cc (no)),
      λ same. absurd (cc (
        c.if-not-has_same_list.true,
        c.has_same_list.ensures.1 (sym mine ∙ ap (λ (control : Control). filter (has_priority control p) c.args.self.now.ready)
            c.requires.control ∙ ap (filter (has_priority c.args.other.now.control p)) same ∙ theirs),
      )),
    )

pub loop-priority-preserved : goal.loop-priority-preserved
loop-priority-preserved c = λ p below.
    let low : c.loop-priority.priority < c.args.self.now.priorities = omega
    (arith, c.loop-priority-test.true, c.loop-priority.auto.priority-end, ap (λ (v : CoresView). v.priorities) c.self.view_is) in
    let mine = shown _ _ _ _ _ _ _ c.loop-priority.priority c.args.self.now c.self.view_is c.self.invariant.shape low in
    let theirs = shown _ _ _ _ _ _ _ c.loop-priority.priority c.args.other.now c.other.view_is c.other.invariant.shape
    (omega (arith, low, c.requires.priorities)) in
    let yes : c.has_same_list.result ≡ true = grind (arith, c.if-not-has_same_list.false) in
    elim (cases_eq p c.loop-priority.priority) [
      | inl same ↦ rw same (mine ∙ c.has_same_list.ensures.0 yes ∙ sym theirs)
      | inr away ↦ c.loop-priority.invariant p (omega (arith, below, away))
    ]

pub returns : goal.returns
returns c =
    let n = c.self.inside.priorities in
    let more = c.other.inside.priorities in
    let mine = ap (λ (v : CoresView). v.priorities) c.self.view_is in
    let theirs = ap (λ (v : CoresView). v.priorities) c.other.view_is in
    let same : n ≡ more = mine ∙ c.requires.priorities ∙ sym theirs in
    let all = λ (p : ℕ) (low : p < n).
    sym (shown _ _ _ _ _ _ _ p c.args.self.now c.self.view_is c.self.invariant.shape (omega (arith, low, mine)))
    ∙ c.loop-priority.invariant p (omega (arith, low, c.loop-priority-test.false, c.loop-priority.auto.priority-end))
    ∙ shown _ _ _ _ _ _ _ p c.args.other.now c.other.view_is c.other.invariant.shape (omega (arith, low, same, theirs)) in (
      λ yes. sym (ap (λ (v : CoresView). v.ready) c.self.view_is) ∙ ready_kept c.self.inside.lists.lists c.other.inside.lists.lists n all ∙ ap
          (ready_below c.other.inside.lists.lists) same ∙ ap (λ (v : CoresView). v.ready) c.other.view_is,
      λ same. refl,
    )
