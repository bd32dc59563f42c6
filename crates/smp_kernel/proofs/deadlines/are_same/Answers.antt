use Rattle.std.proofs.Common.{◌≡◌, ◌<◌, ◌∙◌, length, None, get_or, refl, sym, ap, arith, List, Option, ℕ, Bool, true, false, not}
use Rattle.std.proofs.lemmas.Bool.Decides.{Decides-eqb}
use Rattle.std.proofs.lemmas.List.{ext_get_or, get_or-map, length-map}
use Rattle.bench_types.proofs.Equalities.{option_decides}
use Rattle.smp_kernel.specs.Deadlines.{left_after, lefts}
use Rattle.smp_kernel.proofs.deadlines.are_same.Goals as goal

differ : (b : Bool) → true ≡ not b → b ≡ true → ⊥
differ true unlike like = absurd (cc unlike)
differ false unlike like = absurd (cc like)

pub returns-then-ne : goal.returns-then-ne
returns-then-ne c =
    let ends = c.args.ends.now in
    let others = c.args.others.now in
    let task = c.loop-task.task in
    let low : task < length ends = omega (arith, c.loop-task-test.true, c.loop-task.auto.task-end) in
    let low' : task < length others = omega (arith, low, c.if-ends-others.false) in
    let mine = get_or-map (left_after c.args.passed) ends task None None low in
    let theirs = get_or-map (left_after c.args.other_passed) others task None None low' in (
      λ no. absurd (cc no),
      λ same.
          let alike : c.left_after.result ≡ c.left_after-in-loop-task.result = c.left_after.ensures ∙ sym mine ∙ ap
          (λ (lefts : List (Option ℕ)). get_or lefts task None) same ∙ theirs ∙ sym c.left_after-in-loop-task.ensures in
          let equal = (option_decides Decides-eqb c.left_after.result c.left_after-in-loop-task.result).1 alike in
          absurd (differ _ c.if-ne.ensures equal),
    )

pub returns : goal.returns
returns c =
    let ends = c.args.ends.now in
    let others = c.args.others.now in
    let lengths : length (lefts c.args.passed ends) ≡ length (lefts c.args.other_passed others) = omega
    (arith, c.if-ends-others.false, length-map ends (left_after c.args.passed), length-map others (left_after c.args.other_passed)) in (
      λ yes. ext_get_or None (lefts c.args.passed ends) (lefts c.args.other_passed others) lengths
          (λ task low. let low' : task < c.loop-task.task = omega (
            arith,
            low,
            c.loop-task-test.false,
            c.loop-task.auto.task-end,
            length-map ends
                (left_after c.args.passed),
          ) in c.loop-task.invariant task low'),
      λ same. refl,
    )
