-- Worked command lines.
use Rattle.std.specs.Prelude.{◌≡◌, List, [], ◌∷◌, Some, None, true, false, codes}
use Rattle.clap.specs.Words.{Text}
use Rattle.bench_commands.specs.declared.execution.Mode.TheVariants.{Replay, WhatIf}
use Rattle.bench_commands.specs.Command.{Asked, a_run, a_recording, help, a_mistake, asked}

-- by the words after the program's name
abbrev pub asked_after : List Text → Asked
asked_after words = asked (Some (codes "smp_bench" ∷ words))

pub record WorkedRuns : Type 0 where
  pub bare : asked_after (codes "replay" ∷ []) ≡ a_run (Replay 64 false)
  pub span : asked_after (codes "replay" ∷ codes "--span" ∷ codes "7" ∷ []) ≡ a_run (Replay 7 false)
  pub span_with_zeros : asked_after (codes "replay" ∷ codes "--span=007" ∷ []) ≡ a_run (Replay 7 false)
  pub span_with_plus : asked_after (codes "replay" ∷ codes "--span=+5" ∷ []) ≡ a_run (Replay 5 false)
  pub tally : asked_after (codes "replay" ∷ codes "--tally" ∷ []) ≡ a_run (Replay 64 true)
  pub tally_and_span :
      asked_after (codes "replay" ∷ codes "--tally" ∷ codes "--span" ∷ codes "7" ∷ []) ≡ a_run (Replay 7 true)
  pub span_and_tally :
      asked_after (codes "replay" ∷ codes "--span=7" ∷ codes "--tally" ∷ []) ≡ a_run (Replay 7 true)
  pub end_of_options :
      asked_after (codes "replay" ∷ codes "--tally" ∷ codes "--" ∷ []) ≡ a_run (Replay 64 true)

pub record WorkedTrials : Type 0 where
  pub bare : asked_after (codes "whatif" ∷ []) ≡ a_run (WhatIf 64)
  pub span : asked_after (codes "whatif" ∷ codes "--span" ∷ codes "7" ∷ []) ≡ a_run (WhatIf 7)
  pub span_with_plus : asked_after (codes "whatif" ∷ codes "--span=+5" ∷ []) ≡ a_run (WhatIf 5)
  pub end_of_options : asked_after (codes "whatif" ∷ codes "--" ∷ []) ≡ a_run (WhatIf 64)

pub record WorkedRecordings : Type 0 where
  pub bare : asked_after (codes "record" ∷ []) ≡ a_recording
  pub end_of_options : asked_after (codes "record" ∷ codes "--" ∷ []) ≡ a_recording

pub record WorkedHelp : Type 0 where
  pub of_program : asked_after (codes "--help" ∷ []) ≡ help
  pub by_letter : asked_after (codes "-h" ∷ codes "again" ∷ []) ≡ help
  pub of_replay : asked_after (codes "replay" ∷ codes "--tally" ∷ codes "--help" ∷ []) ≡ help
  pub of_what_if : asked_after (codes "whatif" ∷ codes "--help" ∷ []) ≡ help
  pub of_record : asked_after (codes "record" ∷ codes "--help" ∷ []) ≡ help

pub record WorkedMistakes : Type 0 where
  pub no_command : asked_after [] ≡ a_mistake
  pub help_as_command : asked_after (codes "help" ∷ []) ≡ a_mistake
  pub another_word : asked_after (codes "replay" ∷ codes "again" ∷ []) ≡ a_mistake
  pub no_value : asked_after (codes "replay" ∷ codes "--span" ∷ []) ≡ a_mistake
  pub span_of_none : asked_after (codes "replay" ∷ codes "--span" ∷ codes "0" ∷ []) ≡ a_mistake
  pub span_too_long : asked_after (codes "replay" ∷ codes "--span" ∷ codes "1001" ∷ []) ≡ a_mistake
  pub two_spans :
      asked_after (codes "replay" ∷ codes "--span" ∷ codes "7" ∷ codes "--span=7" ∷ []) ≡ a_mistake
  pub two_tallies : asked_after (codes "replay" ∷ codes "--tally" ∷ codes "--tally" ∷ []) ≡ a_mistake
  pub tally_with_value : asked_after (codes "replay" ∷ codes "--tally=x" ∷ []) ≡ a_mistake
  pub tally_of_what_if : asked_after (codes "whatif" ∷ codes "--tally" ∷ []) ≡ a_mistake
  pub span_of_none_of_what_if :
      asked_after (codes "whatif" ∷ codes "--span" ∷ codes "0" ∷ []) ≡ a_mistake
  pub word_of_what_if : asked_after (codes "whatif" ∷ codes "again" ∷ []) ≡ a_mistake
  pub span_of_record : asked_after (codes "record" ∷ codes "--span" ∷ codes "7" ∷ []) ≡ a_mistake
  pub tally_of_record : asked_after (codes "record" ∷ codes "--tally" ∷ []) ≡ a_mistake
  pub word_of_record : asked_after (codes "record" ∷ codes "again" ∷ []) ≡ a_mistake
  pub two_commands : asked_after (codes "record" ∷ codes "replay" ∷ []) ≡ a_mistake
  pub no_text : asked None ≡ a_mistake
