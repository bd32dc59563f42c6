use Rattle.std.proofs.Common.{◌≡◌, ◌+◌, ◌<◌, [], ℕ, None, length, get_or, sym, subst, ap, ◌∙◌, Global, Vec, arith}
use Rattle.std.proofs.lemmas.List.{get_or_read}
use Rattle.bench_types.specs.declared.step.Step.TheVariants.{Tick}
use Rattle.known_limits.specs.Before.{answer_in, row_at}
use Rattle.known_limits.specs.Limits.{limit_by, sooner}
use Rattle.known_limits.proofs.Counts.{count_low, counts_on, counts_pass, AreCounts}
use Rattle.known_limits.proofs.Firsts.{first_on, first_pass}
use Rattle.known_limits.proofs.known.first_answer_limit.Goals.{in-Some, in_default}
use Rattle.known_limits.proofs.known.first_answer_limit.Goals as goal

pub next-before-requires : goal.next-before-requires
next-before-requires c =
    let run = c.args.run.now in
    let tasks = length c.args.rows.now in
    let place = c.loop-place.place in
    let task = c.in-Some.task in
    let come = c.loop-place.come.items in
    let begins = sym c.begun_task.ensures ∙ c.in-Some.is in
    let low : task < tasks = c.requires.tasks place Tick c.loop-place-test.true task begins in
    let counts = c.loop-place.invariant.come in
    let read : c.index_mut.result.now ≡ get_or come task 0 =
    get_or_read come task c.index_mut.result.now (omega (arith, low, counts.many)) c.index_mut.ensures.value 0 in
    let few = count_low tasks run place task come counts low (omega (arith, c.loop-place-test.true)) in
    record { few = omega (arith, read, few, c.loop-place-test.true, c.requires.few) }

pub loop-place-preserved : goal.loop-place-preserved
loop-place-preserved c =
    let run = c.args.run.now in
    let rows = c.args.rows.now in
    let answers = c.args.answers.now in
    let tasks = length rows in
    let place = c.loop-place.place in
    let come = c.loop-place.come.items in
    let counts = c.loop-place.invariant.come in
    record {
      come = elim c.match-begun_task.branch [
        | in-Some w ↦
            let task = w.in-Some.task in
            let begins = sym c.begun_task.ensures ∙ w.in-Some.is in
            let low : task < tasks = c.requires.tasks place Tick c.loop-place-test.true task begins in
            let read : w.index_mut.result.now ≡ get_or come task 0 =
            get_or_read come task w.index_mut.result.now (omega (arith, low, counts.many)) w.index_mut.ensures.value 0 in
            subst (λ (come : Vec ℕ Global). AreCounts tasks run (place + 1) come.items) (sym w.come-is)
            (counts_on tasks run place Tick c.loop-place-test.true come task w.next-before.new.come begins low
            (w.next-before.ensures.come ∙ ap (λ (n : ℕ). n + 1) read) counts)
        | in_default w ↦
            subst (λ (come : Vec ℕ Global). AreCounts tasks run (place + 1) come.items) (sym w.come-is)
            (counts_pass tasks run place Tick c.loop-place-test.true come (sym c.begun_task.ensures ∙ w.in_default.is) counts)
      ];
      first = λ session edits settled are answered.
          let first = c.loop-place.invariant.first session edits settled are answered in
          elim c.match-begun_task.branch [
            | in-Some w ↦
                let task = w.in-Some.task in
                let begins = sym c.begun_task.ensures ∙ w.in-Some.is in
                let low : task < tasks = c.requires.tasks place Tick c.loop-place-test.true task begins in
                let read : w.index_mut.result.now ≡ get_or come task 0 =
                get_or_read come task w.index_mut.result.now (omega (arith, low, counts.many)) w.index_mut.ensures.value 0 in
                let own : w.index-rows-row.result ≡ row_at rows task =
                get_or_read rows task w.index-rows-row.result low w.index-rows-row.is [] in
                w.first-is ∙ w.sooner-first.ensures
                ∙ ap (sooner c.loop-place.first) w.limit_by.ensures
                ∙ ap (λ before. sooner c.loop-place.first (limit_by task before (get_or answers place None))) w.next-before.ensures.answer
                ∙ (λ i. sooner c.loop-place.first (limit_by task (answer_in (own i) (read i)) (get_or answers place None)))
                ∙ first_on session edits settled run place Tick c.loop-place-test.true tasks task (get_or come task 0) rows answers c.loop-place.first begins low
                (counts.each task low) are answered first
            | in_default w ↦
                w.first-is
                ∙ first_pass session edits settled run place Tick c.loop-place-test.true c.loop-place.first (sym c.begun_task.ensures ∙ w.in_default.is) first
          ];
    }
