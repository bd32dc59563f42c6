-- What was read is judged: the first fault of a list, at its place.
use Rattle.std.specs.Prelude.{ℕ, suc, List, [], ◌∷◌, Option, Some, None, option_and_then, Result, Ok, Err, ⊤}
use Rattle.serde_json.specs.Data.{Data}
use Rattle.serde_json.specs.Find as find
use Rattle.bench_types.specs.declared.fault.Fault.TheVariants.{BadHeader}
use Rattle.bench_types.specs.declared.flaw.HeaderFlaw.{HeaderFlaw}
use Rattle.bench_types.specs.declared.step_flaw.StepFlaw.{StepFlaw}
use Rattle.bench_types.specs.StepFlaw.{flaw_fault}
use Rattle.session_text.specs.declared.detail.Detail.TheVariants as detail
use Rattle.session_text.specs.declared.fault.Why.TheVariants.{Bench}
use Rattle.session_text.specs.declared.fault.TextFault.{TextFault}
use Rattle.session_text.specs.ReadingRules.{◌>>=◌}
use Rattle.session_text.specs.Path.{item_path, path_text}
use Rattle.session_text.specs.UnknownName.{detail_of}

-- F1 of the header of the session at a location; the fault itself has none
abbrev pub header_fault : List ℕ → HeaderFlaw → TextFault
header_fault at flaw = record {
  why = Bench BadHeader;
  path = [];
  detail = detail.Header flaw (path_text at);
}

-- F1 to F5 at a location, with what is at fault in the value there
abbrev pub item_fault : List (List ℕ) → List ℕ → Option Data → StepFlaw → TextFault
item_fault names at d flaw =
    record { why = Bench (flaw_fault flaw); path = path_text at; detail = detail_of names d flaw }

abbrev pub item_accepted :
    List (List ℕ) → List ℕ → Option Data → Option StepFlaw → Result ⊤ TextFault
item_accepted names at d None = Ok tt
item_accepted names at d (Some flaw) = Err (item_fault names at d flaw)

-- the item of an array
abbrev pub item_of : ℕ → Option Data → Option Data
item_of index array = option_and_then (find.at index) array

-- the first fault of the items from an index on of the array at a location
abbrev pub items_accepted :
    {A : Type 0} → (A → Option StepFlaw) → List (List ℕ) → List ℕ → Option Data → ℕ → List A
    → Result ⊤ TextFault
items_accepted flaw_of names at array index [] = Ok tt
items_accepted flaw_of names at array index (item ∷ rest) = do
  done ← item_accepted names (item_path at index) (item_of index array) (flaw_of item)
  items_accepted flaw_of names at array (suc index) rest
