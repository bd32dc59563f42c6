-- Why the run of a workload was not made.
use Rattle.std.proofs.Common.{◌≡◌, ℕ, Option, Result, Err, refl}
use Rattle.simulating.specs.declared.run.SimulateFault.{SimulateFault}
use Rattle.simulating.specs.declared.run.SimulateFault.TheVariants.{TooManySteps, NoMemory}
use Rattle.simulating.specs.Callers.{IsTooLongBy}
use Rattle.simulating.specs.Simulated.{SimulatedView}
use Rattle.task_programs.specs.declared.workload.Workload.{Workload}
use Rattle.run_sources.specs.declared.source.Source.TheVariants as source
use Rattle.run_sources.specs.Sources.{fault_of, IsFaultOf}

pub true_fault : (workload : Workload) (result : Result SimulatedView SimulateFault) (fault : SimulateFault)
    → ((caller : Option ℕ) → result ≡ Err (TooManySteps caller) → IsTooLongBy workload caller) → result ≡ Err fault
    → IsFaultOf (source.Workload workload) (fault_of fault)
true_fault workload result (TooManySteps caller) long is = long caller is
true_fault workload result NoMemory long is = tt
