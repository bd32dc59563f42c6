-- The picture of a run, or of two runs one above the other.
use Rattle.std.specs.Prelude.{◌≡◌, ◌<◌, ◌≤◌, ℕ, suc, ◌+◌, ◌-◌, ◌*◌, ◌/◌, List, [], ◌++◌, flat_map, length, min, max, codes, decimal, MatchResult, Option, None, Some, Result}
use Rattle.std.specs.Prelude.{String, string_bytes}
use Rattle.std.specs.declared.alloc.Global.{Global}
use Rattle.bench_types.specs.declared.header.Header.{Header}
use Rattle.list_orders.specs.Search.{numbers}
use Rattle.run_views.specs.declared.look.Look.{Look}
use Rattle.run_views.specs.declared.places.Places.{Places}
use Rattle.run_pictures.specs.declared.frame.Axis.{Axis}
use Rattle.run_pictures.specs.declared.frame.Frame.{Frame}
use Rattle.run_pictures.specs.declared.frame.Scale.{Scale}
use Rattle.run_pictures.specs.declared.frame.TheConstants.{CORE_ROW, MUTEX_ROW, QUEUE_ROW, TASK_ROW}
use Rattle.run_pictures.specs.declared.picture.TooLong.{TooLong}
use Rattle.run_pictures.specs.declared.signs.Sign.{Sign}
use Rattle.run_pictures.specs.declared.style.TheConstants.{OPENING, STYLE}
use Rattle.run_pictures.specs.Axis.{axis_row, tick_rules}
use Rattle.run_pictures.specs.CoreBands.{core_row}
use Rattle.run_pictures.specs.RunLooks.{run_looks}
use Rattle.run_pictures.specs.Drawn.{Drawn}
use Rattle.run_pictures.specs.Frame.{column_of, pixels, scale_for}
use Rattle.run_pictures.specs.Limits.{max_places}
use Rattle.run_pictures.specs.Marks.{step_at}
use Rattle.run_pictures.specs.MutexLines.{taken_mutexes, taken_rows}
use Rattle.run_pictures.specs.Poses.{detail_for}
use Rattle.run_pictures.specs.QueueLines.{changed_queues, changed_rows}
use Rattle.run_pictures.specs.Shown.{Shown}
use Rattle.run_pictures.specs.Signs.{entries_text, legend_height, signs_of, signs_of_both}
use Rattle.run_pictures.specs.TaskBands.{task_row}
use Rattle.run_pictures.specs.TimeRow.{time_height, time_row}
use Rattle.run_pictures.specs.Unknown.{pale_text, unknown_in}
use Rattle.run_columns.specs.TimeSlots.{times_of}

-- as wide as so many columns, between the names and the last label
abbrev pub width_of : Scale → ℕ → ℕ
width_of scale count = max (200 + pixels scale count) 860

-- how narrow a picture of that width may become, so that its letters can be read
abbrev pub least_width : ℕ → ℕ
least_width width = width * 3 / 4

-- as wide as the page, but no narrower than so many pixels
unfoldable pub least_text : ℕ → List ℕ
least_text least =
    codes " width='100%' style='min-width:" ++ decimal least ++ codes "px;height:auto'"

-- of so many pixels in its own measure
unfoldable pub width_text : ℕ → List ℕ
width_text width = codes " viewBox='0 0 " ++ decimal width

unfoldable pub height_text : ℕ → List ℕ
height_text height = codes " " ++ decimal height ++ codes "'>\n"

unfoldable pub size_text : ℕ → ℕ → List ℕ
size_text width height =
    least_text (least_width width) ++ width_text width ++ height_text height

-- the picture opens, of so many pixels, with its colours and its ground
unfoldable pub opening_text : ℕ → ℕ → List ℕ
opening_text width height = OPENING.now ++ size_text width height ++ STYLE.now

-- what the signs mean, and the end
unfoldable pub legend_text : ℕ → List Sign → List ℕ
legend_text y signs = entries_text y signs ++ codes "</svg>\n"

abbrev pub heading_text : ℕ → List ℕ → List ℕ
heading_text y heading =
    codes "<text class='k' x='8' y='" ++ decimal y ++ codes "'>" ++ heading ++ codes "</text>\n"

-- the rows of tasks begin so many pixels below the top of a run
abbrev pub tasks_down : Header → ℕ
tasks_down header = 44 + CORE_ROW * header.config.cores

abbrev pub mutexes_down : Header → ℕ
mutexes_down header = tasks_down header + TASK_ROW * length header.tasks

abbrev pub queues_down : Header → List Look → ℕ
queues_down header looks =
    mutexes_down header + MUTEX_ROW * length (taken_mutexes header looks)

-- the rows of a run but that of time take so many pixels from top to bottom
abbrev pub panel_height : Header → List Look → ℕ
panel_height header looks =
    queues_down header looks + QUEUE_ROW * length (changed_queues header looks)

-- and with that row
abbrev pub run_height : Header → List Look → ℕ
run_height header looks = time_height header + panel_height header looks

abbrev pub core_rows : Header → Frame → ℕ → List Look → List ℕ
core_rows header frame y looks =
    flat_map (λ core. core_row header frame (y + CORE_ROW * core) looks core)
    (numbers header.config.cores)

-- of the user tasks
abbrev pub task_rows : Header → Frame → ℕ → List Look → List ℕ
task_rows header frame y looks =
    let detail = detail_for header frame.first looks in
    flat_map (λ user. task_row header frame (y + TASK_ROW * user) looks detail
    (header.config.cores + user))
    (numbers (length header.tasks))

-- the rows of a run but that of time, from the top on
unfoldable pub bands_text : Shown → ℕ → List ℕ
bands_text shown top =
    let header = shown.header in
    let frame = shown.frame in
    let looks = shown.run_looks.looks in
    axis_row frame top looks ++ core_rows header frame (top + 36) looks
    ++ task_rows header frame (top + tasks_down header) looks
    ++ taken_rows header frame (top + mutexes_down header) looks
    ++ changed_rows header frame (top + queues_down header looks) looks

-- what its steps are, and where its ticks begin
unfoldable pub marks_text : Shown → ℕ → List ℕ
marks_text shown top =
    let header = shown.header in
    let frame = shown.frame in
    let looks = shown.run_looks.looks in
    flat_map (step_at header frame top shown.run_looks.made) (numbers (length looks))
    ++ tick_rules frame top (top + panel_height header looks) looks

-- the row of time, from the top on
unfoldable pub time_text : Shown → ℕ → List ℕ
time_text shown top =
    time_row shown.header shown.frame top shown.times (length shown.run_looks.looks)

abbrev pub pale_behind : Shown → ℕ → Option ℕ → List ℕ
pale_behind shown top None = []
pale_behind shown top (Some place) =
    let looks = shown.run_looks.looks in
    pale_text shown.frame (length looks) place top (run_height shown.header looks)

-- where it is not known what its tasks do, over all its rows
unfoldable pub unknown_text : Shown → ℕ → List ℕ
unknown_text shown top = pale_behind shown top (unknown_in shown)

-- a run, from the top on
unfoldable pub panel_text : Shown → ℕ → List ℕ
panel_text shown top =
    let below = top + time_height shown.header in
    time_text shown top ++ bands_text shown below ++ marks_text shown below
    ++ unknown_text shown top

-- the picture of a run that is so many columns wide
unfoldable pub drawn_run : ℕ → Shown → List ℕ
drawn_run count shown =
    let height = run_height shown.header shown.run_looks.looks in
    let signs = signs_of shown in
    opening_text (width_of shown.frame.scale count) (height + legend_height (length signs) + 20)
    ++ panel_text shown 4 ++ legend_text (height + 16) signs

-- the first column that is shown of two runs on one axis
abbrev pub left_of : Places → Drawn → Drawn → ℕ
left_of places before after =
    min (column_of before.columns places.from) (column_of after.columns places.from)

-- the column behind the last place that is shown
abbrev pub end_of : Places → Drawn → ℕ
end_of places run = column_of run.columns (suc (min places.to (length run.steps)))

-- how many columns are shown of one run
abbrev pub count_of : Places → Drawn → ℕ
count_of places run = end_of places run - column_of run.columns places.from

-- how many columns are shown of two runs on one axis
abbrev pub count_of_both : Places → Drawn → Drawn → ℕ
count_of_both places before after =
    max (end_of places before) (end_of places after) - left_of places before after

-- of a run that is shown from this column on
abbrev pub frame_of : Places → Axis → Scale → ℕ → Drawn → Frame
frame_of places axis scale left run = record {
  first = places.from;
  scale = scale;
  left = left;
  columns = run.columns;
  axis = axis;
}

abbrev pub shown_at : Places → Axis → Scale → ℕ → Drawn → Shown
shown_at places axis scale left run = record {
  header = run.header;
  frame = frame_of places axis scale left run;
  run_looks = run_looks places run.header run.steps;
  times = times_of run.header.config.units run.steps;
  known = run.known;
}

-- a run alone
abbrev pub shown_alone : Places → Axis → Drawn → Shown
shown_alone places axis run =
    shown_at places axis (scale_for (count_of places run)) (column_of run.columns places.from) run

-- the picture of one run
unfoldable pub picture_text : Places → Axis → Drawn → List ℕ
picture_text places axis run = drawn_run (count_of places run) (shown_alone places axis run)

-- a run below its heading
unfoldable pub headed_text : ℕ → List ℕ → Shown → List ℕ
headed_text top heading shown = heading_text (top + 12) heading ++ panel_text shown (top + 18)

-- the two runs, of which the upper takes so many pixels from top to bottom
unfoldable pub both_text : Shown → Shown → ℕ → List ℕ
both_text before after height =
    headed_text 4 (codes "before the edits") before
    ++ headed_text (height + 32) (codes "after the edits") after

-- the picture of two runs that are so many columns wide
unfoldable pub drawn_runs : ℕ → Shown → Shown → List ℕ
drawn_runs count before after =
    let height = run_height before.header before.run_looks.looks in
    let whole = height + run_height after.header after.run_looks.looks in
    let signs = signs_of_both before after in
    opening_text (width_of before.frame.scale count) (whole + legend_height (length signs) + 66)
    ++ both_text before after height ++ legend_text (whole + 62) signs

-- the picture of a run before the edits and of that after them
unfoldable pub pictures_text : Places → Axis → Drawn → Drawn → List ℕ
pictures_text places axis before after =
    let count = count_of_both places before after in
    let scale = scale_for count in
    let left = left_of places before after in
    drawn_runs count (shown_at places axis scale left before)
    (shown_at places axis scale left after)

-- a picture of so many columns, or that these are too many
abbrev pub Answers : ℕ → List ℕ → Result (String Global) TooLong → Type 0
Answers count picture answer = MatchResult answer
    (λ text. (count ≤ max_places) × (string_bytes text ≡ picture))
    (λ why. (max_places < count) × (why.places ≡ count))
