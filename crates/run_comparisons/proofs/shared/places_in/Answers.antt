use Rattle.std.proofs.Common.{◌≡◌, ℕ, ◌+◌, ◌++◌, [], ◌∷◌, List, Bool, cond, get_or, map, ap, ap₂, sym, ◌∙◌, arith}
use Rattle.std.proofs.lemmas.List.FromFn.{map-range_with_len_more}
use Rattle.list_orders.specs.Search.{numbers}
use Rattle.bench_types.specs.declared.step.Step.TheVariants.{Tick}
use Rattle.run_comparisons.specs.Shared.{is_event, place_in}
use Rattle.run_comparisons.proofs.Walks.{come_on, few_come}
use Rattle.run_comparisons.proofs.shared.places_in.Goals.{then-has, else-has}
use Rattle.run_comparisons.proofs.shared.places_in.Goals as goal

pub overflow_add-come : goal.overflow_add-come
overflow_add-come c =
    let few = few_come (is_event c.args.kind) c.args.session.now c.loop-step.step-index in
    omega (arith, few, c.loop-step.invariant.come, c.loop-step-test.true)

pub loop-step-preserved : goal.loop-step-preserved
loop-step-preserved c =
    let index = c.loop-step.step-index in
    let session = c.args.session.now in
    let here : c.place_at.result ≡ place_in (is_event c.args.kind) c.args.run.now session index =
    c.place_at.ensures ∙ ap₂ (λ (list : List ℕ) (n : ℕ). get_or list n 0) (c.as_slice.ensures.value ∙ c.in_ok-events.ensures) c.loop-step.invariant.come in
    let start : 0 + index ≡ index = omega arith in
    let more = come_on (is_event c.args.kind) session index Tick c.loop-step-test.true in
    let count : Bool → ℕ = λ b. cond b 1 0 in
    record {
      placed = c.in_ok-push.ensures.items
          ∙ ap (λ (items : List ℕ). items ++ c.place_at.result ∷ []) c.loop-step.invariant.placed
          ∙ ap (λ place. map (place_in (is_event c.args.kind) c.args.run.now session) (numbers index) ++ place ∷ []) here
          ∙ sym (map-range_with_len_more (place_in (is_event c.args.kind) c.args.run.now session) 0 index index start);
      come = elim c.if-has.branch [
        | then-has w ↦
            let one : count (is_event c.args.kind (get_or session index Tick)) ≡ 1 = ap count (sym c.has.ensures ∙ w.if-has.true) in
            omega (arith, w.come-is, more, one, c.loop-step.invariant.come)
        | else-has w ↦
            let none : count (is_event c.args.kind (get_or session index Tick)) ≡ 0 = ap count (sym c.has.ensures ∙ w.if-has.false)
            in
            omega (arith, w.come-is, more, none, c.loop-step.invariant.come)
      ];
    }
