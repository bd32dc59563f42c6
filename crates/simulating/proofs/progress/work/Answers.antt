use Rattle.std.proofs.Common.{◌≡◌, ◌+◌, ◌<◌, [], ap, arith, cond, length}
use Rattle.std.specs.Prelude.{slice_index_or}
use Rattle.bench_types.specs.declared.kernel_data.Settings.{Settings}
use Rattle.workload_runs.specs.Courses.{first_course, worked}
use Rattle.workload_runs.specs.Situations.{course_at, is_working}
use Rattle.simulating.proofs.Searches.{each_by_number}
use Rattle.simulating.proofs.progress.work.Goals as goal

pub returns-clause-done : goal.returns-clause-done
returns-clause-done c table stands =
    let old = c.args.courses.now in
    let cores = ap (λ (settings : Settings). settings.cores) c.settings-settings.ensures.settings in
    let tasks = ap (λ (settings : Settings). settings.tasks) c.settings-settings.ensures.settings in
    let many = c.loop-user.invariant.many in
    each_by_number
    (λ user. cond (is_working table (table.settings.cores + user)) (worked (slice_index_or c.args.programs.now user []) c.args.units (course_at old user))
    (course_at old user)) c.loop-user.courses (length old) (first_course 0 []) many (λ user below.
    c.loop-user.invariant.done table stands user (omega (arith, cores, tasks, c.requires.tasks, below, c.loop-user-test.false)))
