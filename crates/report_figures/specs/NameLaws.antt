-- The law of the names of figures.
use Rattle.std.specs.Prelude.{◌≡◌, ◌≢◌, ℕ, List, flat_map, map, AllPairs, Ok}
use Rattle.bench_types.specs.Header.{header_check}
use Rattle.bench_types.specs.declared.header.Header.{Header}
use Rattle.run_numbers.specs.declared.subject.Measured.{Measured}
use Rattle.report_figures.specs.Figures.{figures_in}
use Rattle.report_figures.specs.Names.{figure_name}
use Rattle.report_figures.specs.Subjects.{subjects_of}

-- the names of the figures of what was measured
abbrev pub names_of_figures : Header → List Measured → List (List ℕ)
names_of_figures header measured =
    map (λ figure. figure_name header figure.subject figure.part) (flat_map figures_in measured)

-- of all that a run of a session is measured by, no two figures have one name
abbrev pub NamesAreDifferent : Type 0
NamesAreDifferent =
    (header : Header) (measured : List Measured) → header_check header ≡ Ok tt
    → map (λ one. one.subject) measured ≡ subjects_of header
    → AllPairs (λ one other. one ≢ other) (names_of_figures header measured)
