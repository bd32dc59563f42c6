use Rattle.std.proofs.Common.{◌≡◌, ℕ, zero, suc, ◌+◌, ◌<◌, Bool, true, false, eqb, cond, List, [], ◌∷◌, length, drop, get_or, Some, None, refl, ap, sym, ◌∙◌}
use Rattle.std.proofs.Common.{arith}
use Rattle.std.specs.List.{find}
use Rattle.std.proofs.lemmas.List.{drop_all, length-map}
use Rattle.std.proofs.lemmas.List.Folds.{list_any_at}
use Rattle.std.proofs.lemmas.Bool.Decides.{nat_tests}
use Rattle.list_orders.specs.Search.{has}
use Rattle.bench_model.specs.Control.{may_select}
use Rattle.bench_model.specs.Cores.{CoresView}
use Rattle.index_lists.specs.Listed.{Listed, items_of}
use Rattle.ready_core.specs.Fields.{control_from, tasks_of, ready_list}
use Rattle.ready_core.proofs.ReadyLists.{row_at, ready_of, row_listed}
use Rattle.ready_core.proofs.Picks.{head_of, head_first}
use Rattle.ready_core.proofs.cores.Cores.pick_of.Goals as goal

-- what stands from a place on
head_drop : (xs : List ℕ) (i x : ℕ) → head_of (drop i xs) ≡ Some x → (i < length xs) × (get_or xs i 0 ≡ x) × (drop i xs ≡ x ∷ drop (suc i) xs)
head_drop [] zero x is = absurd (cc (is))
head_drop [] (suc i) x is = absurd (cc (is))
head_drop (y ∷ xs) zero x is = let same : y ≡ x = some_same y x is in (omega arith, same, ap (λ z. z ∷ xs) same)
  where
    some_same : (a b : ℕ) → Some a ≡ Some b → a ≡ b
    some_same a b same = cc (same)
head_drop (y ∷ xs) (suc i) x is = let rest = head_drop xs i x is in (omega (arith, rest.0), rest.1, rest.2)

drop_items : (row : List Listed) (i : ℕ) → items_of (drop i row) ≡ drop i (items_of row)
drop_items row zero = refl
drop_items [] (suc i) = refl
drop_items (entry ∷ row) (suc i) = drop_items row i

headless : (p : ℕ → Bool) (xs : List ℕ) → None ≡ head_of xs → None ≡ find p xs
headless p [] none = refl
headless p (x ∷ xs) none = absurd (cc (none))

passed : (p : ℕ → Bool) (x : ℕ) (xs : List ℕ) → p x ≡ false → find p (x ∷ xs) ≡ find p xs
passed p x xs fails = ap (λ b. cond b (Some x) (find p xs)) fails

pub returns-in_err-task-clause-first : goal.returns-in_err-task-clause-first
returns-in_err-task-clause-first c =
    let view = c.self.view_is in
    let control = control_from c.self.inside.cores.items c.self.inside.tasks.items in
    let lists = c.self.inside.lists.lists in
    let p = c.args.priority in
    let passes = may_select c.args.self.now.control c.args.core in
    let low : p < c.self.inside.priorities = omega (arith, c.requires.priority, ap (λ (v : CoresView). v.priorities) view) in
    let shown : ready_list p c.args.self.now ≡ tasks_of lists p = ap (ready_list p) (sym view) ∙ ready_of control lists p c.self.inside.priorities
    c.self.invariant.shape.at_home low in
    c.from_residual.ensures ∙ headless passes (ready_list p c.args.self.now)
    (c.in_err-task.ensures.first ∙ head_first (row_at lists p) ∙ ap head_of (sym shown))

pub loop-place-init : goal.loop-place-init
loop-place-init c =
    let view = c.self.view_is in
    let control = control_from c.self.inside.cores.items c.self.inside.tasks.items in
    let lists = c.self.inside.lists.lists in
    let low : c.args.priority < c.self.inside.priorities = omega (arith, c.requires.priority, ap (λ (v : CoresView). v.priorities) view) in
    let shown : ready_list c.args.priority c.args.self.now ≡ tasks_of lists c.args.priority = ap (ready_list c.args.priority) (sym view) ∙ ready_of control
    lists c.args.priority c.self.inside.priorities c.self.invariant.shape.at_home low in
    record {
      next = c.in_ok-task.ensures.first ∙ head_first (row_at lists c.args.priority) ∙ ap head_of (sym shown);
      first = refl;
      in_range = omega (arith, c.in_ok-task.ensures.item, c.self.invariant.shape.items, ap (λ (v : CoresView). length v.control.tasks) view);
    }

pub next_listed-requires-clause-listed : goal.next_listed-requires-clause-listed
next_listed-requires-clause-listed c =
    let view = c.self.view_is in
    let control = control_from c.self.inside.cores.items c.self.inside.tasks.items in
    let lists = c.self.inside.lists.lists in
    let p = c.args.priority in
    let i = c.loop-place._place in
    let task = c.loop-place.task in
    let low : p < c.self.inside.priorities = omega (arith, c.requires.priority, ap (λ (v : CoresView). v.priorities) view) in
    let shown : ready_list p c.args.self.now ≡ tasks_of lists p = ap (ready_list p) (sym view) ∙ ready_of control lists p c.self.inside.priorities
    c.self.invariant.shape.at_home low in
    let here = head_drop (ready_list p c.args.self.now) i task (sym c.loop-place.invariant.next) in
    let same : eqb (get_or (ready_list p c.args.self.now) i 0) task ≡ true = grind (arith, nat_tests, here.1) in
    let among : has task (tasks_of lists p) ≡ true = ap (λ (xs : List ℕ). has task xs) (sym shown) ∙ list_any_at (λ (m : ℕ). eqb m task)
    (ready_list p c.args.self.now) i 0 here.0 same in
    row_listed c.self.inside.lists task p c.self.inside.priorities c.self.invariant.shape.each low among

pub returns-in_err-task-2-clause-first : goal.returns-in_err-task-2-clause-first
returns-in_err-task-2-clause-first c =
    let view = c.self.view_is in
    let control = control_from c.self.inside.cores.items c.self.inside.tasks.items in
    let lists = c.self.inside.lists.lists in
    let p = c.args.priority in
    let i = c.loop-place._place in
    let passes = may_select c.args.self.now.control c.args.core in
    let low : p < c.self.inside.priorities = omega (arith, c.requires.priority, ap (λ (v : CoresView). v.priorities) view) in
    let shown : ready_list p c.args.self.now ≡ tasks_of lists p = ap (ready_list p) (sym view) ∙ ready_of control lists p c.self.inside.priorities
    c.self.invariant.shape.at_home low in
    let here = head_drop (ready_list p c.args.self.now) i c.loop-place.task (sym c.loop-place.invariant.next) in
    let within : i < length (row_at lists p) = omega (
      arith,
      here.0,
      ap (λ (xs : List ℕ). length xs) shown,
      length-map (row_at lists p)
          (λ (e : Listed). e.item),
    ) in
    let one : suc i ≡ i + 1 = omega arith in
    let after = c.in_err-task-2.ensures.place p i (omega (arith, low, c.self.invariant.shape.each)) within
    (ap (λ (xs : List ℕ). get_or xs i 0) (sym shown) ∙ here.1) in
    let fails : c.is_selectable.result ≡ false = grind (arith, c.if-is_selectable.false) in
    let past = passed passes c.loop-place.task (drop (i + 1) (ready_list p c.args.self.now)) (sym c.is_selectable.ensures ∙ fails) in
    c.from_residual-in_err-task-2.ensures
    ∙ headless passes (drop (i + 1) (ready_list p c.args.self.now)) (after ∙ head_first (drop (i + 1) (row_at lists p)) ∙ ap head_of
    (drop_items (row_at lists p) (i + 1)) ∙ ap (λ (xs : List ℕ). head_of (drop (i + 1) xs)) (sym shown))
    ∙ sym past ∙ ap (find passes) (sym (here.2 ∙ ap (λ k. c.loop-place.task ∷ drop k (ready_list p c.args.self.now)) one)) ∙ c.loop-place.invariant.first

pub loop-place-preserved : goal.loop-place-preserved
loop-place-preserved c =
    let view = c.self.view_is in
    let control = control_from c.self.inside.cores.items c.self.inside.tasks.items in
    let lists = c.self.inside.lists.lists in
    let p = c.args.priority in
    let i = c.loop-place._place in
    let passes = may_select c.args.self.now.control c.args.core in
    let low : p < c.self.inside.priorities = omega (arith, c.requires.priority, ap (λ (v : CoresView). v.priorities) view) in
    let shown : ready_list p c.args.self.now ≡ tasks_of lists p = ap (ready_list p) (sym view) ∙ ready_of control lists p c.self.inside.priorities
    c.self.invariant.shape.at_home low in
    let here = head_drop (ready_list p c.args.self.now) i c.loop-place.task (sym c.loop-place.invariant.next) in
    let within : i < length (row_at lists p) = omega (
      arith,
      here.0,
      ap (λ (xs : List ℕ). length xs) shown,
      length-map (row_at lists p)
          (λ (e : Listed). e.item),
    ) in
    let one : suc i ≡ i + 1 = omega arith in
    let after = c.in_ok-task-2.ensures.place p i (omega (arith, low, c.self.invariant.shape.each)) within
    (ap (λ (xs : List ℕ). get_or xs i 0) (sym shown) ∙ here.1) in
    let fails : c.is_selectable.result ≡ false = grind (arith, c.if-is_selectable.false) in
    record {
      next = after ∙ head_first (drop (i + 1) (row_at lists p)) ∙ ap head_of (drop_items (row_at lists p) (i + 1)) ∙ ap
          (λ (xs : List ℕ). head_of (drop (i + 1) xs)) (sym shown);
      first = sym (passed passes c.loop-place.task (drop (i + 1) (ready_list p c.args.self.now)) (sym c.is_selectable.ensures ∙ fails)) ∙ ap (find passes)
          (sym (here.2 ∙ ap (λ k. c.loop-place.task ∷ drop k (ready_list p c.args.self.now)) one)) ∙ c.loop-place.invariant.first;
      in_range = omega (arith, c.in_ok-task-2.ensures.item, c.self.invariant.shape.items, ap (λ (v : CoresView). length v.control.tasks) view);
    }

pub returns-clause-first : goal.returns-clause-first
returns-clause-first c =
    let view = c.self.view_is in
    let control = control_from c.self.inside.cores.items c.self.inside.tasks.items in
    let lists = c.self.inside.lists.lists in
    let p = c.args.priority in
    let i = c.loop-place._place in
    let passes = may_select c.args.self.now.control c.args.core in
    let low : p < c.self.inside.priorities = omega (arith, c.requires.priority, ap (λ (v : CoresView). v.priorities) view) in
    let shown : ready_list p c.args.self.now ≡ tasks_of lists p = ap (ready_list p) (sym view) ∙ ready_of control lists p c.self.inside.priorities
    c.self.invariant.shape.at_home low in
    let sized = ap (λ (xs : List ℕ). length xs) shown in
    let end = length-map (row_at lists p) (λ (e : Listed). e.item) in
    let none = drop_all i (ready_list p c.args.self.now) (omega (arith, sized, end, c.len-len.ensures, c.loop-place-test.false, c.loop-place.auto._place-end))
    in
    ap (find passes) (sym none) ∙ c.loop-place.invariant.first
