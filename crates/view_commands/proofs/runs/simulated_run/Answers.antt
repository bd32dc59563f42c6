use Rattle.std.proofs.Common.{rules, ◌≡◌, ◌∙◌, ℕ, Option, Err, ap}
use Rattle.bench_types.specs.declared.header.Header.{Header}
use Rattle.simulating.specs.declared.run.SimulateFault.TheVariants.{TooManySteps}
use Rattle.view_commands.specs.Refusals.{simulated_too_long}
use Rattle.view_commands.proofs.runs.simulated_run.Goals as goal

pub returns-in_ok-refusal-in-Err-TooManySteps-clause-fault : goal.returns-in_ok-refusal-in-Err-TooManySteps-clause-fault
returns-in_ok-refusal-in-Err-TooManySteps-clause-fault c =
    let caller = c.in-Err-TooManySteps.caller in
    let why : c.simulate.result ≡ Err (TooManySteps caller) = search rules in
    let told = c.in_ok-refusal-in-Err-TooManySteps.ensures in
    record {
      caller = caller;
      is_long = c.simulate.ensures.long caller why;
      is_told = told ∙ ap (λ (by : Option ℕ). simulated_too_long c.header.result.now by) c.in-Err-TooManySteps.caller-is
          ∙ ap (λ (header : Header). simulated_too_long header caller) c.header.ensures.header;
    }
