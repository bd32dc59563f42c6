-- What becomes of a status where refusals count.
use Rattle.std.specs.Prelude.{◌≡◌, ◌⊎◌, Bool, true, false}
use Rattle.program_io.specs.declared.output.OutputStatus.{OutputStatus}
use Rattle.program_io.specs.declared.output.OutputStatus.TheVariants.{Fine, Failed, Unknown}
use Rattle.program_io.specs.Outputs.{Printed}
use Rattle.run_comparisons.specs.Refusals.{HasRefusal}
use Rattle.run_sources.specs.Sources.{IsRunOfSource}
use Rattle.session_runs.specs.Run.{RunView}
use Rattle.view_commands.specs.declared.edited.EditedSource.{EditedSource}
use Rattle.view_commands.specs.EditedSources.{after_of, refused_of}

-- an edit is refused, or a step of the run of what the edits leave
pub record IsRefusing (source : EditedSource) : Type 0 where
  pub run : RunView
  pub is_run : IsRunOfSource (after_of source) run
  pub has_refusal : HasRefusal run (refused_of source)

-- The same is told. Its status fails exactly where it was fine and something is refused.
abbrev pub IsStrict : Type 0 → OutputStatus → Printed → Printed → Type 0
IsStrict Refused Fine printed judged =
    (Refused × (judged ≡ record printed { status = Failed })) ⊎ ((¬ Refused) × (judged ≡ printed))
IsStrict Refused Failed printed judged = judged ≡ printed
IsStrict Refused Unknown printed judged = judged ≡ printed

-- by whether refusals count
abbrev pub IsJudged : Bool → Type 0 → Printed → Printed → Type 0
IsJudged false Refused printed judged = judged ≡ printed
IsJudged true Refused printed judged = IsStrict Refused printed.status printed judged
