-- The picture of one run, or of two.
use Rattle.std.specs.Prelude.{ℕ, List, [], ◌++◌, Option, None, codes, decimal, nat_lt, if◌then◌else◌}
use Rattle.std.specs.Prelude.{string_bytes, Result, Ok, Err, String}
use Rattle.std.specs.declared.alloc.Global.{Global}
use Rattle.bench_types.specs.declared.step.Step.{Step}
use Rattle.bench_types.specs.Session.{Session}
use Rattle.run_views.specs.declared.places.Places.{Places}
use Rattle.run_columns.specs.TimeSlots.{tick_columns, time_columns}
use Rattle.run_comparisons.specs.declared.columns.Side.{Side}
use Rattle.run_comparisons.specs.declared.columns.Side.TheVariants.{Before, After}
use Rattle.run_comparisons.specs.declared.rows.Row.{Row}
use Rattle.run_comparisons.specs.Columns.{columns_of}
use Rattle.run_comparisons.specs.Pairs.{known_place, left_lines, run_of, PairView}
use Rattle.run_pictures.specs.declared.frame.Axis.{Axis}
use Rattle.run_pictures.specs.declared.frame.Axis.TheVariants as by
use Rattle.run_pictures.specs.declared.picture.Extent.{Extent}
use Rattle.run_pictures.specs.declared.picture.TooLong.{TooLong}
use Rattle.run_pictures.specs.Drawn.{Drawn}
use Rattle.run_pictures.specs.Limits.{max_places}
use Rattle.run_pictures.specs.Picture.{count_of, count_of_both, picture_text, pictures_text}
use Rattle.program_io.specs.Outputs.{Printed, fine, noted, refusal}
use Rattle.shown_runs.specs.declared.ask.Making.{Making}
use Rattle.shown_runs.specs.declared.ask.Making.TheVariants.{AsWritten, Settled, Simulated, Kept}
use Rattle.shown_runs.specs.declared.shown.Shown.{Shown}
use Rattle.shown_runs.specs.declared.shown.Shown.TheVariants.{One, Two}
use Rattle.shown_runs.specs.Traces.{note_of}

-- how many places a picture shows at most, as texts tell it
abbrev pub most_places : List ℕ
most_places = codes "4000"

-- a picture would show more places than it may
abbrev pub refused_long : ℕ → Printed
refused_long count =
    refusal
    (codes "refused range of " ++ decimal count ++ codes " places"
    ++ codes ", and a picture shows at most " ++ most_places
    ++ codes ": name fewer by --from and --to\n")

abbrev pub answer_output : Result (String Global) TooLong → Printed
answer_output (Ok picture) = fine (string_bytes picture)
answer_output (Err why) = refused_long why.places

-- a picture of so many places, or that these are too many
abbrev pub picture_or : ℕ → List ℕ → Printed
picture_or count picture =
    if nat_lt max_places count then refused_long count else fine picture

-- where the places of one of two runs stand: in these columns, or by the ticks of both, or by the
-- time of both, where a tick has so many units
abbrev pub columns_by : Axis → Places → ℕ → List ℕ → List Step → List Step → List Step → List ℕ
columns_by by.Places places units columns before after run = columns
columns_by by.Ticks places units columns before after run = tick_columns before after run
columns_by by.Time places units columns before after run =
    time_columns units places.from places.to before after run

-- one of two runs as it is drawn, by its places in these columns, and known up to a place
abbrev pub drawn_in : Extent → List ℕ → Option ℕ → Session → Session → Session → Drawn
drawn_in extent columns known before after session = record {
  header = session.header;
  steps = session.steps;
  columns = columns_by extent.axis extent.places before.header.config.units columns before.steps
      after.steps session.steps;
  known = known;
}

-- by their places, those of runs as their steps stand are at their numbers, and those of other runs
-- in the columns of the rows
abbrev pub row_columns : Making → Side → List Row → List ℕ
row_columns AsWritten side rows = []
row_columns Settled side rows = columns_of side rows
row_columns Simulated side rows = columns_of side rows
row_columns Kept side rows = columns_of side rows

-- the run before the edits is known wholly, and the run after them up to where the pair says
abbrev pub known_in : Side → PairView → Option ℕ
known_in Before pair = None
known_in After pair = known_place pair

-- the one run of a pair as it is drawn
abbrev pub drawn_of : Making → Extent → PairView → Side → Drawn
drawn_of making extent pair side =
    drawn_in extent (row_columns making side pair.rows) (known_in side pair) pair.before.session
    pair.after.session (run_of side pair).session

-- a picture of a run, which stands by itself
abbrev pub picture_of_run : Extent → Session → Printed
picture_of_run extent session =
    let run = drawn_in extent [] None session session session in
    picture_or (count_of extent.places run) (picture_text extent.places extent.axis run)

-- a picture of two runs
abbrev pub picture_of_runs : Extent → Drawn → Drawn → Printed
picture_of_runs extent before after =
    picture_or (count_of_both extent.places before after)
    (pictures_text extent.places extent.axis before after)

abbrev pub picture_of_pair : Making → Extent → PairView → Printed
picture_of_pair making extent pair =
    picture_of_runs extent (drawn_of making extent pair Before) (drawn_of making extent pair After)

-- the picture, and the calls that were not made
abbrev pub picture_of : Making → Extent → Shown → Printed
picture_of making extent (One run) = noted (picture_of_run extent run.session) (note_of run)
picture_of making extent (Two pair) =
    noted (picture_of_pair making extent pair) (left_lines pair.before pair.after)
