use Rattle.std.proofs.Common.{◌≡◌, ◌<◌, ◌≤◌, ◌-◌, ◌+◌, ◌∙◌, List, ap, arith, length, map, sym, min, nat_lt}
use Rattle.std.specs.List.{filter, range_with_len}
use Rattle.bench_types.specs.declared.kernel_data.Settings.{Settings}
use Rattle.workload_runs.specs.Courses.{Course}
use Rattle.workload_runs.specs.Rule.{least}
use Rattle.simulating.specs.Simulations.{left_of, now_in}
use Rattle.simulating.proofs.Here.{many_tasks}
use Rattle.simulating.proofs.Searches.{least_end, least_some, least_zero}
use Rattle.simulating.proofs.simulation.Simulation.least_work.Goals.{then-left-eq0, else-left-eq0}
use Rattle.simulating.proofs.simulation.Simulation.least_work.Goals as goal

pub left_of-requires-clause-tasks : goal.left_of-requires-clause-tasks
left_of-requires-clause-tasks c = many_tasks c.args.workload.now c.args.self.now c.requires

pub left_of-requires-clause-user : goal.left_of-requires-clause-user
left_of-requires-clause-user c =
    let cores = ap (λ (settings : Settings). settings.cores) c.settings-settings.ensures.settings in
    let tasks = ap (λ (settings : Settings). settings.tasks) c.settings-settings.ensures.settings in
    omega (arith, cores, tasks, many_tasks c.args.workload.now c.args.self.now c.requires, c.loop-user-test.true)

pub loop-user-preserved : goal.loop-user-preserved
loop-user-preserved c =
    let now = now_in c.args.workload.now c.args.self.now in
    let f = left_of now.table now.courses in
    let user = c.loop-user.user in
    let cores = ap (λ (settings : Settings). settings.cores) c.settings-settings.ensures.settings in
    let tasks = ap (λ (settings : Settings). settings.tasks) c.settings-settings.ensures.settings in
    let courses = c.requires.keeps.courses in
    let below : user < length now.courses =
    omega (arith, cores, tasks, ap length courses, many_tasks c.args.workload.now c.args.self.now c.requires, c.loop-user-test.true) in
    let left = c.left_of.ensures now.table c.requires.stands ∙ ap (λ (courses : List Course). left_of now.table courses user) courses in
    elim c.if-left-eq0.branch [
      | then-left-eq0 w ↦
          rw (w.least-is) (sym (least_zero f c.loop-user.least user (length now.courses) below (sym left ∙ sym c.from-left.ensures ∙ w.if-left-eq0.true))
          ∙ c.loop-user.invariant)
      | else-left-eq0 w ↦
          let numbers_left = filter (nat_lt 0) (map f (range_with_len (user + 1) (length now.courses - (user + 1)))) in
          rw (w.least-is) (ap (λ bound. least bound numbers_left) (w.min-least.ensures ∙ ap (min c.loop-user.least) (c.from-left.ensures ∙ left))
          ∙ sym (least_some f c.loop-user.least user (length now.courses) below (λ none. w.if-left-eq0.false (c.from-left.ensures ∙ left ∙ none)))
          ∙ c.loop-user.invariant)
    ]

pub returns : goal.returns
returns c =
    let now = now_in c.args.workload.now c.args.self.now in
    let cores = ap (λ (settings : Settings). settings.cores) c.settings-settings.ensures.settings in
    let tasks = ap (λ (settings : Settings). settings.tasks) c.settings-settings.ensures.settings in
    let end : length now.courses ≤ c.loop-user.user =
    omega (arith, cores, tasks, ap length c.requires.keeps.courses, many_tasks c.args.workload.now c.args.self.now c.requires, c.loop-user-test.false) in
    sym (least_end (left_of now.table now.courses) c.loop-user.least c.loop-user.user (length now.courses) end) ∙ c.loop-user.invariant
