-- Which tasks are at the end of their programs.
use Rattle.std.proofs.Common.{◌≡◌, ℕ, ◌+◌, List, [], ◌∷◌, ◌++◌, map, Bool, sym, ap, ◌∙◌}
use Rattle.std.specs.Prelude.{slice_index_or}
use Rattle.std.proofs.lemmas.List.{map-append}
use Rattle.list_orders.proofs.Stamped.{numbers_more}
use Rattle.list_orders.specs.Search.{numbers}
use Rattle.task_programs.specs.declared.instruction.Instruction.{Instruction}
use Rattle.task_programs.specs.declared.workload.Workload.{Workload}
use Rattle.workload_runs.specs.Courses.{Course}
use Rattle.workload_runs.specs.Ends.{ends_in, is_at_end}
use Rattle.workload_runs.specs.Situations.{course_at}
use Rattle.simulating.specs.declared.simulation.Simulation.{Simulation}
use Rattle.simulating.specs.Progress.{ends_at}
use Rattle.simulating.specs.Simulations.{now_in, IsAt}
use Rattle.simulating.proofs.Here.{many_courses}

-- whether the user task is at the end of its program
abbrev pub end_of : List (List Instruction) → List Course → ℕ → Bool
end_of programs courses user = is_at_end (slice_index_or programs user []) (course_at courses user)

pub ends_more : (programs : List (List Instruction)) (courses : List Course) (user : ℕ) (ends : List Bool) (course : Course) (end : Bool)
    → ends ≡ map (end_of programs courses) (numbers user) → course ≡ course_at courses user → end ≡ is_at_end (slice_index_or programs user []) course
    → ends ++ end ∷ [] ≡ map (end_of programs courses) (numbers (user + 1))
ends_more programs courses user ends course end so_far here is =
    let own : end ≡ end_of programs courses user = is ∙ ap (is_at_end (slice_index_or programs user [])) here in
    (λ i. so_far i ++ own i ∷ []) ∙ sym (map-append (end_of programs courses) (numbers user) (user ∷ []))
    ∙ sym (ap (map (end_of programs courses)) (numbers_more user))

pub ends_known : (workload : Workload) (simulation : Simulation) → IsAt workload simulation → (programs : List (List Instruction)) (courses : List Course)
    (ends : List Bool) → programs ≡ workload.programs → courses ≡ simulation.progress.courses.items → ends ≡ ends_at programs courses
    → ends ≡ ends_in workload (now_in workload simulation)
ends_known workload simulation here programs courses ends same items is =
    is ∙ (λ i. ends_at (same i) (items i))
    ∙ (λ i. map (end_of workload.programs (here.keeps.courses i)) (numbers (many_courses workload simulation here i)))
