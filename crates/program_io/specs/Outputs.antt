-- What a program tells of an input.
use Rattle.std.specs.Prelude.{ℕ, List, []}
use Rattle.program_io.specs.declared.output.OutputStatus.{OutputStatus}
use Rattle.program_io.specs.declared.output.OutputStatus.TheVariants.{Fine, Failed, Unknown}

pub record Printed : Type 0 where
  -- how it went
  pub status : OutputStatus
  -- what standard output is told
  pub text : List ℕ
  -- what standard error is told
  pub note : List ℕ

-- what was asked for, and a note beside it
abbrev pub printed_with : List ℕ → List ℕ → Printed
printed_with text note = record { status = Fine; text = text; note = note }

-- what was asked for, and nothing beside it
abbrev pub fine : List ℕ → Printed
fine text = printed_with text []

-- a refusal with its line on standard output, and what people are told of it on standard error
abbrev pub refused_with : List ℕ → List ℕ → Printed
refused_with line hint = record { status = Failed; text = line; note = hint }

-- a refusal of which standard output is told nothing
abbrev pub refusal : List ℕ → Printed
refusal lines = refused_with [] lines

-- by how it went, a note beside it; a refusal has its own
abbrev pub noted_by : OutputStatus → Printed → List ℕ → Printed
noted_by Fine printed note = printed_with printed.text note
noted_by Failed printed note = printed
noted_by Unknown printed note = printed

-- a note beside what is told, unless it is a refusal
abbrev pub noted : Printed → List ℕ → Printed
noted printed note = noted_by printed.status printed note

abbrev pub status_code : OutputStatus → ℕ
status_code Fine = 0
status_code Failed = 1
status_code Unknown = 2
