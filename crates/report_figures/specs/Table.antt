-- Tables of figures.
use Rattle.std.specs.Prelude.{ℕ, ◌-◌, ◌==◌, ◌&&◌, nat_lt, List, [], ◌++◌, length, flat_map, codes, decimal, replicate, slice_get, if◌then◌else◌}
use Rattle.std.specs.Option.{option_map_or}
use Rattle.list_orders.specs.Search.{numbers}
use Rattle.bench_types.specs.declared.header.Header.{Header}
use Rattle.report_figures.specs.declared.figures.Figure.{Figure}
use Rattle.report_figures.specs.declared.figures.Part.{Part}
use Rattle.report_figures.specs.declared.figures.Part.TheVariants.{Total, Longest}
use Rattle.report_figures.specs.Names.{figure_name, units_line}

-- so many spaces
abbrev pub spaces : ℕ → List ℕ
spaces count = replicate count 32

-- a text in a column of ten
unfoldable pub right_aligned : List ℕ → List ℕ
right_aligned cell = spaces (10 - length cell) ++ cell

-- where a stretch begins, after its name
abbrev pub place_text : Figure → List ℕ
place_text figure = text_of figure.part
  where
    text_of : Part → List ℕ
    text_of Total = []
    text_of Longest =
        option_map_or (λ place. codes " from place " ++ decimal place) figure.from []

-- a line with the value, unless it is 0
unfoldable pub run_line : Header → Figure → List ℕ
run_line header figure = if figure.value == 0 then []
    else right_aligned (decimal figure.value) ++ codes " "
    ++ figure_name header figure.subject figure.part ++ place_text figure ++ codes "\n"

-- the units of time, a line of heads, and the lines of the figures
abbrev pub run_table : Header → List Figure → List ℕ
run_table header figures =
    units_line header ++ codes "     value number\n" ++ flat_map (run_line header) figures

-- the value of the figure at an index, 0 where there is none
abbrev pub value_at : List Figure → ℕ → ℕ
value_at figures index = option_map_or (λ figure. figure.value) (slice_get figures index) 0

-- the name of the figure at an index, nothing where there is none
abbrev pub name_at : Header → List Figure → ℕ → List ℕ
name_at header figures index =
    option_map_or (λ figure. figure_name header figure.subject figure.part)
    (slice_get figures index) []

-- what there is more
abbrev pub change_text : ℕ → ℕ → List ℕ
change_text before after =
    if nat_lt before after then codes "+" ++ decimal (after - before)
    else if nat_lt after before then codes "-" ++ decimal (before - after)
    else codes "0"

-- both values and the change, each with a space after it
unfoldable pub values_text : ℕ → ℕ → List ℕ
values_text before after =
    right_aligned (decimal before) ++ codes " " ++ right_aligned (decimal after) ++ codes " "
    ++ right_aligned (change_text before after) ++ codes " "

-- a line with the values of an index, unless both are 0
unfoldable pub pair_line : Header → List Figure → List Figure → ℕ → List ℕ
pair_line header before after index =
    if value_at before index == 0 && value_at after index == 0 then []
    else values_text (value_at before index) (value_at after index)
    ++ name_at header before index ++ codes "\n"

-- the units of time, a line of heads, and the lines of the indices
abbrev pub runs_table : Header → List Figure → List Figure → List ℕ
runs_table header before after =
    units_line header ++ codes "    before      after     change number\n"
    ++ flat_map (pair_line header before after) (numbers (length before))
