use Rattle.std.proofs.Common.{◌≡◌, ℕ, ◌+◌, ◌<◌, ◌≤◌, cond, length, []}
use Rattle.std.specs.Prelude.{slice_index_or}
use Rattle.bench_model.specs.Equal.{StandsFor}
use Rattle.bench_model.specs.Table.{Table}
use Rattle.workload_runs.specs.Courses.{worked}
use Rattle.workload_runs.specs.Situations.{course_at, is_working}
use Rattle.simulating.proofs.progress.work.Given as goal

-- the user tasks so far have worked where they do
abbrev pub invariant-loop-user : goal.invariant-loop-user
invariant-loop-user l = record {
  many : length l.courses ≡ length l.fn.courses;
  done :
      (table : Table) → StandsFor l.kernel table → (user : ℕ) → user < l.user
      → course_at l.courses user
      ≡ cond (is_working table (table.settings.cores + user)) (worked (slice_index_or l.programs user []) l.units (course_at l.fn.courses user))
      (course_at l.fn.courses user);
  rest : (user : ℕ) → l.user ≤ user → course_at l.courses user ≡ course_at l.fn.courses user;
}
