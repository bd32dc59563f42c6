-- Whether a run keeps limits.
use Rattle.std.specs.Prelude.{◌≡◌, ℕ, List, [], ◌∷◌, ◌++◌, find, flat_map, All, Any, Bool, codes, Option, Some, None, is_none}
use Rattle.bench_types.specs.declared.header.Header.{Header}
use Rattle.session_runs.specs.Run.{RunView}
use Rattle.report_figures.specs.declared.figures.Figure.{Figure}
use Rattle.report_figures.specs.declared.limits.Limit.{Limit}
use Rattle.report_figures.specs.Limits.{has_name, limit_line, name_line, Keeps}
use Rattle.session_reports.specs.declared.limits.CheckStatus.TheVariants.{Kept, NotKept, Unknown}
use Rattle.session_reports.specs.Asked.{Asked, Printed}
use Rattle.session_reports.specs.Figures.{run_figures}

-- the figure that is asked for
abbrev pub figure_for : Header → List Figure → Asked → Option Figure
figure_for header figures asked = find (has_name header asked.name) figures

-- no figure has the name
abbrev pub is_unknown : Header → List Figure → Asked → Bool
is_unknown header figures asked = is_none (figure_for header figures asked)

-- the limit with its figure
abbrev pub limit_for : Asked → Option Figure → List Limit
limit_for asked None = []
limit_for asked (Some figure) = record { figure = figure; bound = asked.bound } ∷ []

abbrev pub limits_in : Header → List Figure → Asked → List Limit
limits_in header figures asked = limit_for asked (figure_for header figures asked)

-- that no figure has the name, and the names that figures have
unfoldable pub unknown_text : Header → List Figure → List ℕ → List ℕ
unknown_text header figures name =
    codes "no number is called " ++ name ++ codes "; these are:\n"
    ++ flat_map (name_line header) figures

-- all limits are kept where there are no lines
abbrev pub kept_or : List ℕ → Printed
kept_or [] = record { status = Kept; text = [] }
kept_or (byte ∷ lines) = record { status = NotKept; text = byte ∷ lines }

-- the lines of the limits that are not kept
abbrev pub unkept_lines : Header → List Figure → List Asked → List ℕ
unkept_lines header figures wanted =
    flat_map (limit_line header) (flat_map (limits_in header figures) wanted)

-- what is told where some name is unknown, and where none is
abbrev pub printed_of : Header → List Figure → List Asked → Option Asked → Printed
printed_of header figures wanted (Some asked) =
    record { status = Unknown; text = unknown_text header figures asked.name }
printed_of header figures wanted None = kept_or (unkept_lines header figures wanted)

-- what is told of figures and limits
abbrev pub checked : Header → List Figure → List Asked → Printed
checked header figures wanted =
    printed_of header figures wanted (find (is_unknown header figures) wanted)

-- what is told of a run
abbrev pub check_of : RunView → List Asked → Printed
check_of run wanted = checked run.session.header (run_figures run) wanted

-- the figure of the name is there, and its value keeps the bound
pub record KeepsLimit (header : Header) (figures : List Figure) (asked : Asked) : Type 0 where
  pub figure : Figure
  pub named : figure_for header figures asked ≡ Some figure
  pub kept : Keeps asked.bound figure.value

-- each limit is kept in the run
abbrev pub KeepsAll : RunView → List Asked → Type 0
KeepsAll run wanted = All (KeepsLimit run.session.header (run_figures run)) wanted

-- some limit has a name that no figure of the run has
abbrev pub NamesUnknown : RunView → List Asked → Type 0
NamesUnknown run wanted =
    Any (λ asked. figure_for run.session.header (run_figures run) asked ≡ None) wanted
