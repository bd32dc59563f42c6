-- What a change costs the tasks.
use Rattle.std.specs.Prelude.{◌≡◌, ℕ, ◌==◌, ◌&&◌, not, Bool, true, false, is_some, List, [], ◌++◌, length, flat_map, codes, Option, Some, None, slice_get, if◌then◌else◌}
use Rattle.std.specs.Option.{option_map_or}
use Rattle.list_orders.specs.Search.{numbers}
use Rattle.run_numbers.specs.declared.subject.Cause.TheVariants.{AnyMutex, AnyQueue}
use Rattle.run_numbers.specs.declared.subject.Condition.TheVariants.{Running, WantsCore, Inverted, Blocked}
use Rattle.run_numbers.specs.declared.subject.Event.TheVariants.{TimesOut}
use Rattle.run_numbers.specs.declared.subject.Subject.{Subject}
use Rattle.run_numbers.specs.declared.subject.Subject.TheVariants.{Time, Steps, NotMade}
use Rattle.ranked_changes.specs.declared.change.Change.{Change}
use Rattle.ranked_changes.specs.declared.judge.Verdict.{Verdict}
use Rattle.ranked_changes.specs.declared.judge.Verdict.TheVariants.{Number, TooLong}
use Rattle.ranked_changes.specs.Changed.{changed}
use Rattle.report_figures.specs.declared.figures.Figure.{Figure}
use Rattle.report_figures.specs.declared.figures.Part.{Part}
use Rattle.report_figures.specs.declared.figures.Part.TheVariants.{Total, Longest}
use Rattle.report_figures.specs.Table.{name_at, value_at}
use Rattle.session_reports.specs.Figures.{run_figures}
use Rattle.session_runs.specs.Run.{RunView}
use Rattle.run_sources.specs.Sources.{header_of, IsRunOfSource}
use Rattle.session_advice.specs.Basis.{Basis}
use Rattle.session_advice.specs.Words.{number_words}

abbrev pub is_total : Part → Bool
is_total Total = true
is_total Longest = false

-- the task that bears what the subject tells: it runs, waits for a core, for a mutex or at a queue,
-- its wait runs out, or its calls are not made
abbrev pub bearer : Subject → Option ℕ
bearer (Time (Running task)) = Some task
bearer (Time (WantsCore task)) = Some task
bearer (Time (Inverted task)) = Some task
bearer (Time (Blocked task AnyMutex)) = Some task
bearer (Time (Blocked task AnyQueue)) = Some task
bearer (Steps (TimesOut task)) = Some task
bearer (NotMade task) = Some task
bearer subject = None

-- both tell the same of the same task
abbrev pub are_same : Subject → Subject → Bool
are_same (Time (Running task)) (Time (Running other)) = task == other
are_same (Time (WantsCore task)) (Time (WantsCore other)) = task == other
are_same (Time (Inverted task)) (Time (Inverted other)) = task == other
are_same (Time (Blocked task AnyMutex)) (Time (Blocked other AnyMutex)) = task == other
are_same (Time (Blocked task AnyQueue)) (Time (Blocked other AnyQueue)) = task == other
are_same (Steps (TimesOut task)) (Steps (TimesOut other)) = task == other
are_same (NotMade task) (NotMade other) = task == other
are_same subject other = false

-- it is the judged number
abbrev pub is_judged : Figure → Subject → Bool
is_judged judged subject = is_total judged.part && are_same judged.subject subject

-- it is a total that a task bears, and not the judged number
abbrev pub is_cost : Figure → Subject → Part → Bool
is_cost judged subject part =
    is_total part && is_some (bearer subject) && not (is_judged judged subject)

-- so is the figure at an index
abbrev pub is_cost_at : Figure → List Figure → ℕ → Bool
is_cost_at judged figures index =
    option_map_or (λ figure. is_cost judged figure.subject figure.part) (slice_get figures index)
    false

-- the values at an index differ
abbrev pub is_changed_at : List Figure → List Figure → ℕ → Bool
is_changed_at before after index = not (value_at before index == value_at after index)

-- the line of a cost that is not as it was
unfoldable pub cost_line : Basis → List Figure → ℕ → List ℕ
cost_line basis after index =
    if is_cost_at basis.judged basis.figures index
    && is_changed_at basis.figures after index
    then codes "   " ++ name_at (header_of basis.source) basis.figures index ++ codes " "
    ++ number_words (value_at basis.figures index) (value_at after index) ++ codes "\n"
    else []

-- those of all costs, in the order of the figures
abbrev pub cost_lines : Basis → List Figure → List ℕ
cost_lines basis after = flat_map (cost_line basis after) (numbers (length basis.figures))

-- the lines tell the figures of the run of the source with the change made; of a run that is too
-- long there are none
abbrev pub AreCosts : Basis → Change → Verdict → List ℕ → Type 0
AreCosts basis made (Number number) lines =
    (run : RunView) × IsRunOfSource (changed basis.source made) run
    × (lines ≡ cost_lines basis (run_figures run))
AreCosts basis made TooLong lines = lines ≡ []
