-- Limits that figures keep or do not.
use Rattle.std.specs.Prelude.{ℕ, ◌≤◌, Bool, List, [], ◌++◌, nat_le, bytes_eq, codes, decimal, Option, Some, None, if◌then◌else◌}
use Rattle.bench_types.specs.declared.header.Header.{Header}
use Rattle.report_figures.specs.declared.figures.Figure.{Figure}
use Rattle.report_figures.specs.declared.limits.Bound.{Bound}
use Rattle.report_figures.specs.declared.limits.Bound.TheVariants.{AtMost, AtLeast}
use Rattle.report_figures.specs.declared.limits.Limit.{Limit}
use Rattle.report_figures.specs.Names.{figure_name, unit_text}

-- the figure has the name
abbrev pub has_name : Header → List ℕ → Figure → Bool
has_name header name figure =
    bytes_eq (figure_name header figure.subject figure.part) name

-- the value keeps the bound
abbrev pub Keeps : Bound → ℕ → Type 0
Keeps (AtMost most) value = value ≤ most
Keeps (AtLeast least) value = least ≤ value

-- the value is one that it may be
abbrev pub is_kept : Bound → ℕ → Bool
is_kept (AtMost most) value = nat_le value most
is_kept (AtLeast least) value = nat_le least value

-- what a value may be, after it
abbrev pub bound_text : Bound → List ℕ
bound_text (AtMost most) = codes ", at most " ++ decimal most
bound_text (AtLeast least) = codes ", at least " ++ decimal least

-- where the longest stretch begins, if there is one
abbrev pub from_text : Option ℕ → List ℕ
from_text None = []
from_text (Some place) = codes "; the longest stretch begins at place " ++ decimal place

-- the value of a figure, after its name
unfoldable pub value_text : Header → Figure → List ℕ
value_text header figure =
    figure_name header figure.subject figure.part ++ codes " is " ++ decimal figure.value
    ++ unit_text header figure.subject

-- a line with the value of a figure and what it may be
unfoldable pub unkept_line : Header → Figure → Bound → List ℕ
unkept_line header figure bound =
    value_text header figure ++ bound_text bound ++ from_text figure.from ++ codes "\n"

-- a line with the name of a figure
abbrev pub name_line : Header → Figure → List ℕ
name_line header figure = figure_name header figure.subject figure.part ++ codes "\n"

-- the line of a limit that is not kept
abbrev pub limit_line : Header → Limit → List ℕ
limit_line header limit = if is_kept limit.bound limit.figure.value then []
    else unkept_line header limit.figure limit.bound
