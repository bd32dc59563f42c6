use Rattle.std.proofs.Common.{◌≡◌, ℕ, ◌⊎◌, subst, sym, ◌∙◌, arith, inl, inr}
use Rattle.run_numbers.specs.Counters.{past_of, took_in, HasRoomFor}
use Rattle.run_numbers.specs.Progress.{subject_in}
use Rattle.run_numbers.specs.Looks.{look_of, IsKnown}
use Rattle.task_jobs.specs.Works.{HasRoom}
use Rattle.run_numbers.specs.Taking.{AreTurned, IsWorked, IsWorkKept}
use Rattle.run_numbers.specs.Turns.{turn_in}
use Rattle.run_numbers.proofs.Turning.{times_on, turned_more}
use Rattle.run_numbers.proofs.Visits.{all_looked, all_taken, visited_more, AreVisitedTo}
use Rattle.run_numbers.proofs.taking.take_all.Goals as goal

pub visit-requires-clause-room : goal.visit-requires-clause-room
visit-requires-clause-room c k within is =
    subst (HasRoomFor (past_of c.args.made.now) (subject_in c.args.plan.now.subjects.now k)) (sym (c.loop-task.invariant.visited.later k (omega (arith, is))))
    (c.requires.room c.loop-task.task k within is)

pub loop-task-preserved : goal.loop-task-preserved
loop-task-preserved c =
    let made = c.args.made.now in
    let task = c.loop-task.task in
    let before = c.loop-task.invariant in
    let known : IsKnown c.loop-task.looks task (look_of made.after.now task) → IsKnown c.args.looks.now task (look_of made.after.now task) =
    λ it. sym (before.visited.unseen task (omega arith)) ∙ it in
    let own : IsWorked made task c.loop-task.works c.visit.new.works
    ⊎ (IsKnown c.args.looks.now task (look_of made.after.now task) × IsWorkKept task c.loop-task.works c.visit.new.works) =
    elim c.visit.ensures.worked.own [
      | inl turned ↦ inl turned
      | inr kept ↦ inr (known kept.0, kept.1)
    ] in
    record {
      visited =
          visited_more (took_in made) made.after.now c.args.plan.now c.args.counters.now c.args.looks.now task c.loop-task.counters c.visit.new.counters
          c.loop-task.looks c.visit.new.looks before.visited c.visit.ensures.visited c.visit.ensures.looked;
      turned =
          turned_more (turn_in made) (λ task. IsKnown c.args.looks.now task (look_of made.after.now task)) c.args.works.now task c.loop-task.works
          c.visit.new.works before.turned own c.visit.ensures.worked.others;
      takers = c.visit.ensures.takers;
      times = λ mutex low. times_on (before.times mutex low) (c.visit.ensures.times mutex (omega (arith, low, c.loop-task.auto.crowds)));
    }

pub visit-requires-clause-work_room : goal.visit-requires-clause-work_room
visit-requires-clause-work_room c =
    let task = c.loop-task.task in
    subst HasRoom (sym (c.loop-task.invariant.turned.later task (omega arith))) (c.requires.work_room task c.loop-task-test.true)

pub returns-clause-taken : goal.returns-clause-taken
returns-clause-taken c =
    let plan = c.args.plan.now in
    let f = took_in c.args.made.now in
    let after = c.args.made.now.after.now in
    let all : c.loop-task.task ≡ plan.tasks = omega (arith, c.loop-task-test.false, c.loop-task.auto.task-end) in
    all_taken f after plan c.args.counters.now c.args.looks.now c.loop-task.counters c.take_row.new.counters c.loop-task.looks
    (subst (λ task. AreVisitedTo f after plan task c.args.counters.now c.loop-task.counters c.args.looks.now c.loop-task.looks) all c.loop-task.invariant.visited)
    c.take_row.ensures

pub returns-clause-looked : goal.returns-clause-looked
returns-clause-looked c =
    let plan = c.args.plan.now in
    let f = took_in c.args.made.now in
    let after = c.args.made.now.after.now in
    let all : c.loop-task.task ≡ plan.tasks = omega (arith, c.loop-task-test.false, c.loop-task.auto.task-end) in
    all_looked f after plan c.args.counters.now c.args.looks.now c.loop-task.counters c.loop-task.looks (c.loop-task.auto.looks ∙ c.requires.looks)
    (subst (λ task. AreVisitedTo f after plan task c.args.counters.now c.loop-task.counters c.args.looks.now c.loop-task.looks) all c.loop-task.invariant.visited)

pub returns-clause-worked : goal.returns-clause-worked
returns-clause-worked c =
    let plan = c.args.plan.now in
    let made = c.args.made.now in
    let all : c.loop-task.task ≡ plan.tasks = omega (arith, c.loop-task-test.false, c.loop-task.auto.task-end) in
    subst (λ tasks. AreTurned (turn_in made) (λ task. IsKnown c.args.looks.now task (look_of made.after.now task)) tasks c.args.works.now c.loop-task.works) all
    c.loop-task.invariant.turned.done
