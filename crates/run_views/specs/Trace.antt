-- A run that explains itself, place by place and step by step.
use Rattle.std.specs.Prelude.{◌≡◌, ℕ, suc, List, [], ◌∷◌, ◌++◌, length, flat_map, codes, decimal, Bool, ◌&&◌, Option, Some, None, if◌then◌else◌}
use Rattle.bench_types.specs.declared.header.Header.{Header}
use Rattle.bench_types.specs.declared.kernel_data.CoreLook.{CoreLook}
use Rattle.bench_types.specs.declared.kernel_data.Hold.{Hold}
use Rattle.bench_types.specs.declared.reply.Reply.{Reply}
use Rattle.bench_types.specs.declared.step.Step.{Step}
use Rattle.bench_types.specs.Header.{name_of}
use Rattle.bench_types.specs.Name.{is_within}
use Rattle.bench_model.specs.Equal.{StandsFor}
use Rattle.bench_model.specs.Lists.{View}
use Rattle.bench_model.specs.Session.{state_after, step_of}
use Rattle.bench_model.specs.Start.{start}
use Rattle.bench_model.specs.Table.{Table}
use Rattle.run_views.specs.declared.change.Change.{Change}
use Rattle.run_views.specs.declared.interest.Interest.{Interest}
use Rattle.run_views.specs.declared.look.Look.{Look}
use Rattle.run_views.specs.declared.places.Places.{Places}
use Rattle.run_views.specs.ChangeWords.{change_text, hold_text}
use Rattle.run_views.specs.Changes.{changes, IsNumbered}
use Rattle.run_views.specs.Interest.{tells}
use Rattle.run_views.specs.Looks.{look_of}
use Rattle.run_views.specs.ReplyWords.{reply_words}
use Rattle.run_views.specs.StepWords.{step_text}

-- by whom a core was asked to switch
abbrev pub due_text : Bool → Bool → List ℕ
due_text pend asked =
    if pend then (if asked then codes ", due by pend and asked" else codes ", due by pend")
    else (if asked then codes ", due by asked" else [])

abbrev pub core_part : Header → ℕ → CoreLook → List ℕ
core_part header core look =
    codes "; core " ++ decimal core ++ codes " " ++ name_of header look.current
    ++ due_text look.pend look.asked

-- the cores, the first of which has the number
abbrev pub cores_part : Header → ℕ → List CoreLook → List ℕ
cores_part header core [] = []
cores_part header core (look ∷ rest) =
    core_part header core look ++ cores_part header (suc core) rest

abbrev pub hold_part : Option Hold → List ℕ
hold_part None = []
hold_part (Some hold) = codes "; held by " ++ hold_text hold

-- a place: the tick count, the cores and the open hold
unfoldable pub place_line : Header → ℕ → Look → List ℕ
place_line header place look =
    codes "place " ++ decimal place ++ codes ", tick " ++ decimal look.tick
    ++ cores_part header 0 look.cores ++ hold_part look.hold ++ codes "\n"

abbrev pub change_line : Header → Change → List ℕ
change_line header change = codes "  " ++ change_text header change ++ codes "\n"

-- a step: its words, its reply, and a line for each thing that it changed
unfoldable pub step_lines : Header → ℕ → Step → Reply → List Change → List ℕ
step_lines header place step reply some =
    codes "step " ++ decimal place ++ codes ": " ++ step_text header step ++ codes "\n  "
    ++ reply_words header step reply ++ codes "\n" ++ flat_map (change_line header) some

-- whether the place is to be shown
abbrev pub shows : Places → ℕ → Bool
shows places place = is_within places.from places.to place

-- the line of a place that is to be shown
unfoldable pub place_part : Places → Header → ℕ → Look → List ℕ
place_part places header place look =
    if shows places place then place_line header place look else []

-- the lines of a step between two places that are to be shown
unfoldable pub step_part : Places → Header → ℕ → Step → Reply → List Change → List ℕ
step_part places header place step reply some =
    if shows places place && shows places (suc place)
    then step_lines header place step reply some else []

-- a place and the step that is made there, where the step is one that is told
unfoldable pub printed_part :
    Places → Interest → Header → ℕ → Look → Step → Reply → List Change → List ℕ
printed_part places interest header place look step reply some =
    if tells interest step some then
    place_part places header place look ++ step_part places header place step reply some
    else []

-- the same of the step from a table
abbrev pub printed_at : Places → Interest → Header → ℕ → Table → Step → List ℕ
printed_at places interest header place table step =
    let outcome = step_of step table in
    printed_part places interest header place (look_of table) step outcome.0
    (changes (look_of table) (look_of outcome.1))

-- steps from a table on, the first of which is made at the place
abbrev pub printed_from : Places → Interest → Header → ℕ → Table → List Step → List ℕ
printed_from places interest header place table [] = []
printed_from places interest header place table (step ∷ steps) =
    printed_at places interest header place table step
    ++ printed_from places interest header (suc place) (step_of step table).1 steps

-- a whole session, to its last place
unfoldable pub trace_text : Places → Interest → Header → List Step → List ℕ
trace_text places interest header steps =
    printed_from places interest header 0 (start header) steps
    ++ place_part places header (length steps) (look_of (state_after (start header) steps))

-- the look is that of the kernel
pub record Shows (kernel : View) (look : Look) : Type 0 where
  pub numbered : IsNumbered look
  pub shown : (table : Table) → StandsFor kernel table → look ≡ look_of table

-- what the steps lead to was told, from each table that the kernel stood for
pub record IsPrinted (places : Places) (interest : Interest) (header : Header) (old new : View)
    (steps : List Step) (before after : List ℕ) : Type 0 where
  pub printed : (table : Table) → StandsFor old table
      → after ≡ before ++ printed_from places interest header 0 table steps
  pub stands : (table : Table) → StandsFor old table → StandsFor new (state_after table steps)
