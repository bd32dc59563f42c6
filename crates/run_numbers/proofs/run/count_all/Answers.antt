use Rattle.std.proofs.Common.{◌≡◌, ◌++◌, List, length, drop, take, subst, sym, ap, ◌∙◌, arith, rules}
use Rattle.std.proofs.lemmas.List.FromFn.{length-map-range_with_len}
use Rattle.run_numbers.specs.Turns.{work_before}
use Rattle.std.proofs.lemmas.List.{length-replicate, take-append-le, take_all}
use Rattle.std.specs.Prelude.{[], Option, None, map, replicate}
use Rattle.bench_types.specs.declared.header.Header.{Header}
use Rattle.bench_types.specs.Step.{settings_of}
use Rattle.bench_model.specs.Equal.{StandsFor}
use Rattle.bench_model.specs.Start.{start}
use Rattle.run_numbers.specs.declared.counter.Counter.{Counter}
use Rattle.run_numbers.specs.declared.look.Look.{Look}
use Rattle.run_numbers.specs.Counted.{AreCrowded, AreTold, AreWorked}
use Rattle.run_numbers.specs.Looks.{IsKnown, IsRow}
use Rattle.run_numbers.specs.Past.{past}
use Rattle.run_numbers.proofs.Known.{never_yet}
use Rattle.task_jobs.specs.declared.crowd.Crowd.{Crowd}
use Rattle.task_jobs.specs.declared.work.Work.{Work}
use Rattle.task_jobs.specs.Crowds.{first_crowd}
use Rattle.list_orders.specs.Search.{numbers}
use Rattle.bench_types.specs.declared.kernel_data.Settings.{Settings}
use Rattle.run_numbers.specs.Taking.{takers_in}
use Rattle.run_numbers.proofs.Runs.{start_counted}
use Rattle.run_numbers.proofs.Working.{first_crowded, first_worked}
use Rattle.run_numbers.proofs.run.count_all.Goals as goal

pub run_all-requires-clause-begun : goal.run_all-requires-clause-begun
run_all-requires-clause-begun c =
    let session = c.args.session.now in
    let kernel = c.in-Ok.kernel in
    let tasks = c.settings-tasks.result.tasks in
    let looks : c.deref_mut-2.result.now ≡ replicate tasks None =
    c.deref_mut-2.ensures.value ∙ c.in_ok-looks.ensures.items_if_clones_equal (λ y e. search rules) in
    start_counted session kernel _ c.deref_mut.result.now c.deref_mut-2.result.now c.deref_mut-5.result.now _
    (subst (λ (header : Header). StandsFor kernel (start header)) c.header.ensures.header c.in-Ok.ensures.started)
    (c.in-Ok.ensures.shape ∙ ap settings_of c.header.ensures.header)
    (c.deref_mut.ensures.value ∙ c.in_ok-counters.ensures)
    (ap (λ (looks : List (Option Look)). length looks) looks ∙ length-replicate tasks None)
    (λ task look known. never_yet tasks task look (subst (λ (looks : List (Option Look)). IsKnown looks task look) looks known))
    (subst (λ row. IsRow row kernel) (sym c.deref_mut-5.ensures.value) c.in_ok-row.ensures)
    (ap (past 0) c.in_ok-with_capacity.ensures.items)

pub returns-clause-told : goal.returns-clause-told
returns-clause-told c =
    let made = c.run_all.new.counters in
    let n = c.in_ok-counters.counters.len in
    let size : length made ≡ n = omega (arith, c.run_all.auto.counters, c.deref_mut.ensures.len) in
    let all : take n (made ++ drop (length made) c.in_ok-counters.counters.items) ≡ made =
    take-append-le n made _ (omega (arith, size)) ∙ take_all n made (omega (arith, size)) in
    subst (λ (counters : List Counter). AreTold c.args.session.now c.args.subjects.now
    (past c.run_all.new.clock.elapsed c.run_all.new.clock.places.items) counters) (sym all) c.run_all.ensures.counted

pub run_all-requires-clause-worked : goal.run_all-requires-clause-worked
run_all-requires-clause-worked c =
    let session = c.args.session.now in
    let kernel = c.in-Ok.kernel in
    subst (λ ticks. AreWorked session 0 c.deref_mut-3.result.now ticks) (sym c.in_ok-with_capacity-2.ensures.items)
    (first_worked session kernel c.deref_mut-3.result.now
    (subst (λ (header : Header). StandsFor kernel (start header)) c.header.ensures.header c.in-Ok.ensures.started)
    (c.in-Ok.ensures.shape ∙ ap settings_of c.header.ensures.header)
    (c.deref_mut-3.ensures.value ∙ c.in_ok-works.ensures))

pub returns-clause-worked : goal.returns-clause-worked
returns-clause-worked c =
    let made = c.run_all.new.works in
    let n = c.in_ok-works.works.len in
    let size : length made ≡ n = omega (arith, c.run_all.auto.works, c.deref_mut-3.ensures.len) in
    let all : take n (made ++ drop (length made) c.in_ok-works.works.items) ≡ made =
    take-append-le n made _ (omega (arith, size)) ∙ take_all n made (omega (arith, size)) in
    subst (λ (works : List Work). AreWorked c.args.session.now (length c.args.session.now.steps) works c.run_all.new.clock.ticks.items) (sym all)
    c.run_all.ensures.worked

pub run_all-requires-clause-crowded : goal.run_all-requires-clause-crowded
run_all-requires-clause-crowded c =
    let session = c.args.session.now in
    let kernel = c.in-Ok.kernel in
    let works = c.in_ok-works.works.items in
    let settings = c.in-Ok.ensures.shape ∙ ap settings_of c.header.ensures.header in
    let worked =
    first_worked session kernel works (subst (λ (header : Header). StandsFor kernel (start header)) c.header.ensures.header c.in-Ok.ensures.started) settings
    c.in_ok-works.ensures in
    first_crowded session works [] c.deref_mut-4.result.now c.settings.result.mutexes worked
    (ap (λ (settings : Settings). settings.mutexes) (c.settings.ensures.settings ∙ settings))
    (c.deref_mut-4.ensures.value ∙ c.in_ok-crowds.ensures
    ∙ ap (λ works. map (λ mutex. first_crowd (takers_in works mutex)) (numbers c.settings.result.mutexes)) c.as_slice.ensures.value)

pub returns-clause-crowded : goal.returns-clause-crowded
returns-clause-crowded c =
    let made = c.run_all.new.crowds in
    let n = c.in_ok-crowds.crowds.len in
    let size : length made ≡ n = omega (arith, c.run_all.auto.crowds, c.deref_mut-4.ensures.len) in
    let all : take n (made ++ drop (length made) c.in_ok-crowds.crowds.items) ≡ made =
    take-append-le n made _ (omega (arith, size)) ∙ take_all n made (omega (arith, size)) in
    subst (λ (crowds : List Crowd). AreCrowded c.args.session.now (length c.args.session.now.steps) crowds) (sym all) c.run_all.ensures.crowded

pub first_crowds-requires : goal.first_crowds-requires
first_crowds-requires c =
    let tasks = c.settings-tasks.result.tasks in
    omega (
      arith,
      ap (λ (works : List Work). length works) (c.as_slice.ensures.value ∙ c.in_ok-works.ensures),
      length-map-range_with_len (work_before c.in-Ok.kernel) 0 c.in-Ok.kernel.settings.tasks,
      ap (λ (settings : Settings). settings.tasks) c.settings-tasks.ensures.settings,
    )
