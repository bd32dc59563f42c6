-- How long the answers of tasks take.
use Rattle.std.proofs.Common.{◌≡◌, ℕ, ◌+◌, ◌<◌, Bool, true, false, not, List, [], ◌∷◌, ◌++◌, get_or, length, length-append, map, ext_get_or, refl, sym, ap, ◌∙◌, arith}
use Rattle.std.specs.Prelude.{if◌then◌else◌}
use Rattle.std.proofs.lemmas.List.{get_or-map, length-map}
use Rattle.std.proofs.lemmas.List.FromFn.{get_or-map-range_with_len, length-map-range_with_len}
use Rattle.list_orders.specs.Search.{numbers}
use Rattle.bench_types.specs.Session.{Session}
use Rattle.bench_types.specs.Step.{settings_of}
use Rattle.bench_model.specs.Tallied.{one_if}
use Rattle.task_jobs.specs.declared.histogram.Histogram.{Histogram}
use Rattle.task_jobs.specs.declared.work.Work.{Work}
use Rattle.task_jobs.specs.Durations.{Thing}
use Rattle.task_jobs.specs.Histograms.{histogram_of}
use Rattle.task_jobs.specs.Jobs.{response_at, responses}
use Rattle.task_jobs.specs.Works.{first_work}
use Rattle.task_jobs.proofs.Histograms.{counts_are_all}
use Rattle.run_numbers.specs.Counted.{AreWorked}
use Rattle.run_numbers.specs.Progress.{nothing_known, work_in}
use Rattle.run_numbers.specs.Responses.{all_responses_of, responses_of, CountsAreJobs}
use Rattle.run_numbers.specs.TaskCourse.{course_of}

-- the histograms of the work of all tasks are theirs
pub all_answered : (session : Session) (works : List Work) (ticks : List ℕ) → AreWorked session (length session.steps) works ticks
    → map (λ (work : Work). work.histogram) works ≡ all_responses_of session.header session.steps
all_answered session works ticks worked =
    let of : Work → Histogram = λ work. work.histogram in
    let own : ℕ → Histogram = responses_of session.header session.steps in
    let tasks = (settings_of session.header).tasks in
    let none : Histogram = histogram_of [] in
    ext_get_or none (map of works) (map own (numbers tasks))
    (length-map works of ∙ worked.size ∙ sym (length-map-range_with_len own 0 tasks))
    (λ task low.
    let within : task < length works = omega (arith, low, length-map works of) in
    let below : task < tasks = omega (arith, within, worked.size) in
    get_or-map of works task (first_work nothing_known) none within
    ∙ ap of (worked.each task within)
    ∙ sym (get_or-map-range_with_len own 0 tasks task task none below (omega arith)))

pub counts_are_jobs : CountsAreJobs
counts_are_jobs header steps task =
    let course = course_of header steps task in
    let place = length steps in
    at (course.rests place) (responses course place) (response_at course place)
    ∙ ap (λ n. n + one_if (not (course.rests place))) (sym (counts_are_all (responses course place)))
  where
    at : (rests : Bool) (things : List Thing) (thing : Thing) → length (things ++ (if rests then [] else thing ∷ [])) ≡ length things + one_if (not rests)
    at true things thing = length-append things []
    at false things thing = length-append things (thing ∷ [])
