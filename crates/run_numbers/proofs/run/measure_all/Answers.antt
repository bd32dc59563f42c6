use Rattle.std.proofs.Common.{◌∙◌, List, ap, length, map}
use Rattle.std.proofs.lemmas.List.Elements.{All-weaker}
use Rattle.list_orders.specs.Search.{numbers}
use Rattle.bench_types.specs.declared.step.Step.{Step}
use Rattle.run_numbers.specs.Past.{past}
use Rattle.run_numbers.specs.Progress.{measured_at}
use Rattle.bench_types.specs.Step.{settings_of}
use Rattle.run_numbers.specs.Counted.{IsWorkOf}
use Rattle.run_numbers.specs.Readings.{IsSubjectOf}
use Rattle.task_jobs.specs.declared.work.Work.{Work}
use Rattle.run_numbers.proofs.Answered.{all_answered}
use Rattle.run_numbers.proofs.Runs.{all_measured}
use Rattle.run_numbers.proofs.Working.{is_work_of}
use Rattle.run_numbers.proofs.run.measure_all.Goals as goal

pub returns-clause-numbers : goal.returns-clause-numbers
returns-clause-numbers c =
    let session = c.args.session.now in
    let counted = c.in_ok-counted.counted in
    let so_far = past counted.clock.elapsed counted.clock.places.items in
    let left = c.args.left.now in
    let subjects = c.args.subjects.now in
    let counters = counted.counters.items in
    let works = counted.works.items in
    let crowds = counted.crowds.items in
    c.in_ok-measured.ensures
    ∙ ap (λ (steps : List Step). map (measured_at (length steps) so_far works crowds counters left subjects) (numbers (length subjects))) c.steps.ensures.steps
    ∙ all_measured session so_far works counted.clock.ticks.items crowds counters left subjects c.in_ok-counted.ensures.told
    c.in_ok-counted.ensures.worked c.in_ok-counted.ensures.crowded c.requires.known

pub returns-clause-responses : goal.returns-clause-responses
returns-clause-responses c =
    let counted = c.in_ok-counted.counted in
    c.in_ok-responses.ensures ∙ ap (λ (works : List Work). map (λ (work : Work). work.histogram) works) c.as_slice.ensures.value
    ∙ all_answered c.args.session.now counted.works.items counted.clock.ticks.items c.in_ok-counted.ensures.worked

pub all_measured-requires-clause-works : goal.all_measured-requires-clause-works
all_measured-requires-clause-works c =
    let session = c.args.session.now in
    let counted = c.in_ok-counted.counted in
    All-weaker (IsSubjectOf (settings_of session.header)) (IsWorkOf counted.works.items counted.crowds.items)
    (is_work_of session counted.works.items counted.clock.ticks.items counted.crowds.items c.in_ok-counted.ensures.worked
    c.in_ok-counted.ensures.crowded c.steps.ensures.checked.few) c.args.subjects.now c.requires.known
