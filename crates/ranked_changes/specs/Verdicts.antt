-- By what a source is judged.
use Rattle.std.specs.Prelude.{◌≡◌, ℕ, ◌*◌, ◌≤◌, Bool, true, false, length}
use Rattle.bench_types.specs.Limits.{max_steps}
use Rattle.session_runs.specs.Run.{RunView}
use Rattle.smp_kernel.specs.Counting.{meter_after, CountsUpTo}
use Rattle.run_numbers.specs.declared.subject.Reading.{Reading}
use Rattle.run_numbers.specs.Readings.{reading_of}
use Rattle.run_sources.specs.declared.source.Source.{Source}
use Rattle.run_sources.specs.declared.source.Source.TheVariants as source
use Rattle.run_sources.specs.Sources.{most_of, IsCounted, IsRunOfSource, IsSourceTooLong}
use Rattle.ranked_changes.specs.declared.judge.Judge.{Judge}
use Rattle.ranked_changes.specs.declared.judge.Measure.{Measure}
use Rattle.ranked_changes.specs.declared.judge.Measure.TheVariants.{Total, Longest}
use Rattle.ranked_changes.specs.declared.judge.Verdict.{Verdict}
use Rattle.ranked_changes.specs.declared.judge.Verdict.TheVariants.{Number, TooLong}

-- the number that is looked at
abbrev pub number_of : Measure → Reading → ℕ
number_of Total reading = reading.total
number_of Longest reading = reading.longest

-- that of the subject in a run
abbrev pub number_in : Judge → RunView → ℕ
number_in judge run =
    number_of judge.measure
    (reading_of run.session.header run.session.steps run.left judge.subject)

-- it is the number of the source's run, or there is none that is not too long
abbrev pub IsVerdict : Judge → Source → Verdict → Type 0
IsVerdict judge source (Number number) =
    (run : RunView) × IsRunOfSource source run × (length run.session.steps ≤ max_steps)
    × (number ≡ number_in judge run)
IsVerdict judge source TooLong = IsSourceTooLong source

-- the run is made before it is measured; the steps of a session as they stand are only measured
abbrev pub is_made_first : Source → Bool
is_made_first (source.Session session) = false
is_made_first source = true

-- the kernel made the steps of the run to judge it, behind those that made the run
abbrev pub IsJudged : Source → RunView → ℕ → ℕ → Type 0
IsJudged (source.Session session) run old new = new ≡ meter_after (length run.session.steps) old
IsJudged source run old new =
    (made : ℕ) × IsCounted source run old made
    × (new ≡ meter_after (length run.session.steps) made)

-- at most so many steps the kernel makes where no verdict is given in the end
abbrev pub most_judged : Source → ℕ
most_judged (source.Session session) = max_steps
most_judged (source.Settled session) = 2 * max_steps
most_judged (source.Workload workload) = 3 * max_steps
most_judged (source.Kept made order) = 4 * max_steps

-- they were counted; of a run that is too long, at most as many as are made for none
abbrev pub CountsVerdict : Source → Verdict → ℕ → ℕ → Type 0
CountsVerdict source (Number number) old new =
    (run : RunView) × IsRunOfSource source run × IsJudged source run old new
CountsVerdict source TooLong old new = CountsUpTo (most_of source) old new
