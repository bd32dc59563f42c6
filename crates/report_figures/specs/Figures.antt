-- The figures that numbers of a run are told by.
use Rattle.std.specs.Prelude.{ℕ, ◌==◌, ◌&&◌, not, Bool, true, false, List, [], ◌∷◌, ◌++◌, Option, Some, None, if◌then◌else◌}
use Rattle.run_numbers.specs.declared.subject.Measured.{Measured}
use Rattle.run_numbers.specs.declared.subject.Reading.{Reading}
use Rattle.run_numbers.specs.declared.subject.Subject.{Subject}
use Rattle.run_numbers.specs.declared.subject.Subject.TheVariants.{Time, Job}
use Rattle.run_numbers.specs.declared.subject.JobNumber.TheVariants as job
use Rattle.report_figures.specs.declared.figures.Figure.{Figure}
use Rattle.report_figures.specs.declared.figures.Part.TheVariants.{Total, Longest}

-- a subject that has a longest stretch or time
abbrev pub has_longest : Subject → Bool
has_longest (Time condition) = true
has_longest (Job task job.Response) = true
has_longest (Job task job.Latency) = true
has_longest (Job task job.Period) = true
has_longest subject = false

-- a subject that is told by that alone
abbrev pub has_total : Subject → Bool
has_total (Job task job.Latency) = false
has_total (Job task job.Period) = false
has_total subject = true

-- where the longest stretch begins, if it takes some time
abbrev pub place_in : Subject → Reading → Option ℕ
place_in subject reading =
    if has_longest subject && not (reading.longest == 0) then Some reading.from else None

-- the total of a subject
abbrev pub total_in : Measured → Figure
total_in measured = record {
  subject = measured.subject;
  part = Total;
  value = measured.reading.total;
  from = place_in measured.subject measured.reading;
}

-- the longest stretch of a subject
abbrev pub stretch_in : Measured → Figure
stretch_in measured = record {
  subject = measured.subject;
  part = Longest;
  value = measured.reading.longest;
  from = place_in measured.subject measured.reading;
}

-- the figures of a subject: its total, and its longest stretch
abbrev pub figures_in : Measured → List Figure
figures_in measured =
    (if has_total measured.subject then total_in measured ∷ [] else [])
    ++ (if has_longest measured.subject then stretch_in measured ∷ [] else [])
