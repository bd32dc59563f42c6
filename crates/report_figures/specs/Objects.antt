-- Figures as JSON.
use Rattle.std.specs.Prelude.{ℕ, ℤ, pos, ◌-◌, ◌-ℤ◌, ◌^◌, ◌==◌, min, if◌then◌else◌, Bool, List, ◌++◌, length, fold, codes, Option, Some}
use Rattle.list_orders.specs.Search.{numbers}
use Rattle.serde_json.specs.Data.{Data, Members, number, unsigned, boolean, object, no_members, member, put}
use Rattle.serde_json.specs.Find.{of_integer}
use Rattle.serde_json.specs.Written.{compact_text}
use Rattle.bench_types.specs.declared.header.Header.{Header}
use Rattle.report_figures.specs.declared.figures.Figure.{Figure}
use Rattle.report_figures.specs.declared.figures.Part.{Part}
use Rattle.report_figures.specs.declared.figures.Part.TheVariants.{Longest}
use Rattle.report_figures.specs.Names.{figure_name}
use Rattle.report_figures.specs.Table.{name_at, value_at}

-- the members with the value of a figure under its name, in ascending order of the names
abbrev pub with_value : Header → Members → Figure → Members
with_value header members figure =
    put (figure_name header figure.subject figure.part) (number (unsigned figure.value)) members

-- the members with the place under the name, where a longest stretch has one
abbrev pub put_place : Part → Option ℕ → List ℕ → Members → Members
put_place Longest (Some place) name members = put name (number (unsigned place)) members
put_place part from name members = members

-- the members with the place of a figure under its name
abbrev pub with_place : Header → Members → Figure → Members
with_place header members figure =
    put_place figure.part figure.from (figure_name header figure.subject figure.part) members

-- the value, or the greatest one that has a sign, which no number of a run reaches
abbrev pub signed : ℕ → ℕ
signed value = min value (2 ^ 63 - 1)

-- what the second run has more at an index
abbrev pub change_at : List Figure → List Figure → ℕ → ℤ
change_at before after index =
    pos (signed (value_at after index)) -ℤ pos (signed (value_at before index))

-- the members with the change at an index, under the name that it has in the first run
abbrev pub with_change : Header → List Figure → List Figure → Members → ℕ → Members
with_change header before after members index =
    put (name_at header before index) (number (of_integer (change_at before after index))) members

-- the value of each figure
abbrev pub values_data : Header → List Figure → Data
values_data header figures = object (fold (with_value header) no_members figures)

-- the place of each longest stretch
abbrev pub places_data : Header → List Figure → Data
places_data header figures = object (fold (with_place header) no_members figures)

-- the change of each figure
abbrev pub changes_data : Header → List Figure → List Figure → Data
changes_data header before after =
    object (fold (with_change header before after) no_members (numbers (length before)))

-- a run, with these places and values
abbrev pub run_object : Data → Bool → Data → Data
run_object places settled values =
    object (member (codes "places") places (member (codes "settled") (boolean settled)
    (member (codes "values") values no_members)))

-- the same, of times in so many units a tick
abbrev pub run_object_in : ℕ → Data → Bool → Data → Data
run_object_in units places settled values =
    object (member (codes "places") places (member (codes "settled") (boolean settled)
    (member (codes "units") (number (unsigned units))
    (member (codes "values") values no_members))))

-- a run of figures, with the units of a tick where it has more than one
abbrev pub run_data : Header → List Figure → Bool → Data
run_data header figures settled =
    if header.config.units == 1
    then run_object (places_data header figures) settled (values_data header figures)
    else run_object_in header.config.units (places_data header figures) settled
    (values_data header figures)

-- the places and values of figures
abbrev pub figures_data : Header → List Figure → Data
figures_data header figures =
    object (member (codes "places") (places_data header figures)
    (member (codes "values") (values_data header figures) no_members))

-- two runs and their changes
abbrev pub runs_object : Data → Data → Data → Bool → Data
runs_object after before change settled =
    object (member (codes "after") after (member (codes "before") before
    (member (codes "change") change (member (codes "settled") (boolean settled) no_members))))

-- the same, of times in so many units a tick
abbrev pub runs_object_in : ℕ → Data → Data → Data → Bool → Data
runs_object_in units after before change settled =
    object (member (codes "after") after (member (codes "before") before
    (member (codes "change") change (member (codes "settled") (boolean settled)
    (member (codes "units") (number (unsigned units)) no_members)))))

-- two runs of figures, with the units of a tick where it has more than one
abbrev pub pair_data : Header → List Figure → List Figure → Bool → Data
pair_data header before after settled =
    if header.config.units == 1
    then runs_object (figures_data header after) (figures_data header before)
    (changes_data header before after) settled
    else runs_object_in header.config.units (figures_data header after)
    (figures_data header before) (changes_data header before after) settled

-- a run, written without spaces, and a line feed
unfoldable pub run_json : Header → List Figure → Bool → List ℕ
run_json header figures settled =
    compact_text (run_data header figures settled) ++ codes "\n"

-- two runs, written without spaces, and a line feed
unfoldable pub runs_json : Header → List Figure → List Figure → Bool → List ℕ
runs_json header before after settled =
    compact_text (pair_data header before after settled) ++ codes "\n"
