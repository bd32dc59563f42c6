-- A session: the whole text is read before the header and the steps are judged.
use Rattle.std.specs.Prelude.{◌≡◌, ◌⊎◌, ℕ, List, [], ◌∷◌, codes, Option, Some, None, Result, Ok, Err, if◌then◌else◌, ⊤}
use Rattle.std.specs.Str.{is_utf8, IsUtf8}
use Rattle.serde_json.specs.Data.{Data}
use Rattle.serde_json.specs.Find.{get}
use Rattle.serde_json.specs.Read.{read}
use Rattle.json_data.specs.declared.document.Refused.{Refused}
use Rattle.json_data.specs.declared.document.Refused.TheVariants as refusal
use Rattle.bench_types.specs.declared.flaw.HeaderFlaw.{HeaderFlaw}
use Rattle.bench_types.specs.declared.header.Header.{Header}
use Rattle.bench_types.specs.declared.step.Step.{Step}
use Rattle.bench_types.specs.Step.{settings_of}
use Rattle.bench_types.specs.StepFlaw.{step_flaw}
use Rattle.session_text.specs.declared.detail.Detail.TheVariants as detail
use Rattle.session_text.specs.declared.fault.Why.TheVariants.{NotJson}
use Rattle.session_text.specs.declared.fault.TextFault.{TextFault}
use Rattle.session_text.specs.declared.format.Format.{Format}
use Rattle.session_text.specs.Format.{format_at, further_members}
use Rattle.session_text.specs.Header.{header_at}
use Rattle.session_text.specs.Member.{object_at, only_at}
use Rattle.session_text.specs.Names.{known_names, user_names}
use Rattle.session_text.specs.Accepted.{header_fault, items_accepted}
use Rattle.session_text.specs.Array.{list_at}
use Rattle.session_text.specs.ReadingRules.{◌>>=◌, no_memory}
use Rattle.session_text.specs.Path.{member_path}
use Rattle.session_text.specs.Step.{step_at}

-- H1
abbrev pub not_json : TextFault
not_json = record { why = NotJson; path = []; detail = detail.None }

-- H1 where the bytes are no UTF-8, or no JSON
abbrev pub json_or_fault : Option Data → Result Data TextFault
json_or_fault (Some d) = Ok d
json_or_fault None = Err not_json

abbrev pub document : List ℕ → Result Data TextFault
document text = json_or_fault (if is_utf8 text then read text else None)

abbrev pub session_members : Format → List (List ℕ)
session_members format =
    codes "format" ∷ codes "cores" ∷ codes "priorities" ∷ codes "slicing" ∷ codes "tick"
    ∷ codes "mutexes" ∷ codes "tasks" ∷ codes "steps" ∷ further_members format

-- the format, the header, accepted or not, and the steps; shapes alone are judged
unfoldable pub session_at :
    List ℕ → Data → Result (Format × Result Header HeaderFlaw × List Step) TextFault
session_at at d = do
  members ← object_at at d
  format ← format_at at d
  header ← header_at format at d
  steps ← list_at (step_at format (known_names header)) at (codes "steps") d
  only ← only_at at (session_members format) members
  Ok (format, header, steps)

-- the first fault of the steps of the session at a location
unfoldable pub steps_accepted : Header → List ℕ → Data → List Step → Result ⊤ TextFault
steps_accepted header at d steps =
    items_accepted (step_flaw (settings_of header)) (user_names header)
    (member_path at (codes "steps")) (get (codes "steps") d) 0 steps

-- F1 of the header comes before the faults of the steps
unfoldable pub session_accepted :
    List ℕ → Data → Result Header HeaderFlaw → List Step → Result (Header × List Step) TextFault
session_accepted at d (Err flaw) steps = Err (header_fault at flaw)
session_accepted at d (Ok header) steps = do
  done ← steps_accepted header at d steps
  Ok (header, steps)

-- the header and the steps of the session at a location
abbrev pub whole_session : List ℕ → Data → Result (Header × List Step) TextFault
whole_session at d = do
  read ← session_at at d
  session_accepted at d read.1 read.2

-- the header and the steps that a text spells, or its first fault
unfoldable pub session : List ℕ → Result (Header × List Step) TextFault
session text = do
  d ← document text
  read ← session_at [] d
  session_accepted [] d read.1 read.2

-- What a call answers: what the reading gives, or that memory ran out.
abbrev pub ReadsAs : {A B : Type 0} → (A → B) → Result A TextFault → Result B TextFault → Type 0
ReadsAs view (Ok x) reading = reading ≡ Ok (view x)
ReadsAs view (Err fault) reading = (reading ≡ Err fault) ⊎ (fault ≡ no_memory)

-- H1, of bytes that are no UTF-8; no memory is taken to find that
abbrev pub IsRefusedAtOnce : {B : Type 0} → List ℕ → Result B TextFault → Type 0
IsRefusedAtOnce text result = ¬ (IsUtf8 text) → result ≡ Err not_json

-- what a caller is told where there is no document
abbrev pub fault_of : Refused → TextFault
fault_of refusal.NotJson = not_json
fault_of refusal.NoMemory = no_memory
