use Rattle.std.proofs.Common.{◌≡◌, ◌<◌, ◌+◌, ◌∙◌, [], List, ap, arith, length, sym}
use Rattle.std.specs.Prelude.{slice_index_or}
use Rattle.std.proofs.lemmas.List.{get_or_read}
use Rattle.bench_types.specs.declared.kernel_data.Settings.{Settings}
use Rattle.task_programs.specs.declared.instruction.Instruction.{Instruction}
use Rattle.workload_runs.specs.Courses.{first_course, Course}
use Rattle.workload_runs.specs.Situations.{course_at, program_at}
use Rattle.simulating.specs.Simulations.{now_in}
use Rattle.simulating.proofs.Calls.{call_known}
use Rattle.simulating.proofs.Here.{many_programs, same_settings}
use Rattle.simulating.proofs.simulation.Simulation.call_of_user.Goals as goal

pub bounds-programs-user : goal.bounds-programs-user
bounds-programs-user c =
    omega (arith, ap length c.programs.ensures.programs, many_programs c.args.workload.now c.args.self.now c.requires.here, c.requires.user)

pub returns-in-Some : goal.returns-in-Some
returns-in-Some c =
    let workload = c.args.workload.now in
    let self = c.args.self.now in
    let here = c.requires.here in
    let task = ap (λ (settings : Settings). settings.cores + c.args.user) (c.settings-settings.ensures.settings ∙ sym (same_settings workload self here)) in
    let low : c.args.user < length c.programs.result.now = omega (arith, ap length c.programs.ensures.programs, many_programs workload self here, c.requires.user) in
    let program =
    c.as_slice-program.ensures ∙ get_or_read c.programs.result.now c.args.user c.index-programs-user.result low c.index-programs-user.is []
    ∙ ap (λ (programs : List (List Instruction)). slice_index_or programs c.args.user []) c.programs.ensures.programs in
    let course =
    get_or_read self.progress.courses.items c.args.user c.index.result.now c.requires.user c.index.ensures (first_course 0 [])
    ∙ ap (λ (courses : List Course). course_at courses c.args.user) here.keeps.courses in
    call_known workload (now_in workload self) c.args.core c.args.user _ c.as_slice-program.result.now c.index.result.now _ program task course
    (sym c.in-Some.is ∙ c.next_call.ensures)

pub returns-in-None : goal.returns-in-None
returns-in-None c =
    let workload = c.args.workload.now in
    let self = c.args.self.now in
    let here = c.requires.here in
    let task = ap (λ (settings : Settings). settings.cores + c.args.user) (c.settings-settings.ensures.settings ∙ sym (same_settings workload self here)) in
    let low : c.args.user < length c.programs.result.now = omega (arith, ap length c.programs.ensures.programs, many_programs workload self here, c.requires.user) in
    let program =
    c.as_slice-program.ensures ∙ get_or_read c.programs.result.now c.args.user c.index-programs-user.result low c.index-programs-user.is []
    ∙ ap (λ (programs : List (List Instruction)). slice_index_or programs c.args.user []) c.programs.ensures.programs in
    let course =
    get_or_read self.progress.courses.items c.args.user c.index.result.now c.requires.user c.index.ensures (first_course 0 [])
    ∙ ap (λ (courses : List Course). course_at courses c.args.user) here.keeps.courses in
    call_known workload (now_in workload self) c.args.core c.args.user _ c.as_slice-program.result.now c.index.result.now _ program task course
    (sym c.in-None.is ∙ c.next_call.ensures)
