-- A rig document: a session with no steps, how many entries its recording has at most, and what
-- each core does.
use Rattle.std.specs.Prelude.{◌≡◌, ◌≤◌, ℕ, suc, Bool, true, ◌&&◌, ◌==◌, nat_lt, List, [], ◌∷◌, length, get_or, codes, is_some, EachIndex, Option, Result, Ok}
use Rattle.std.specs.Prelude.{Err, if◌then◌else◌, ⊤, All}
use Rattle.serde_json.specs.Data.{Data, Items, no_items, item}
use Rattle.serde_json.specs.Events.{items_len}
use Rattle.serde_json.specs.Find.{as_array, get}
use Rattle.bench_types.specs.CoreAction.{IsCheckedCoreAction}
use Rattle.bench_types.specs.Header.{IsCheckedHeader}
use Rattle.bench_types.specs.Limits.{max_steps}
use Rattle.bench_types.specs.Step.{settings_of}
use Rattle.bench_types.specs.StepFlaw.{core_action_flaw}
use Rattle.bench_types.specs.declared.core_action.CoreAction.{CoreAction}
use Rattle.bench_types.specs.declared.fault.Fault.TheVariants.{BadArgument}
use Rattle.bench_types.specs.declared.flaw.HeaderFlaw.{HeaderFlaw}
use Rattle.bench_types.specs.declared.flaw.HeaderFlaw.TheVariants.{Units}
use Rattle.bench_types.specs.declared.header.Header.{Header}
use Rattle.session_text.specs.declared.detail.Detail.TheVariants as detail
use Rattle.session_text.specs.declared.fault.TextFault.{TextFault}
use Rattle.session_text.specs.declared.fault.Why.TheVariants.{Bench}
use Rattle.session_text.specs.declared.format.Format.{Format}
use Rattle.session_text.specs.declared.rig.RigScript.{RigScript}
use Rattle.session_text.specs.Accepted.{header_fault, item_of, items_accepted}
use Rattle.session_text.specs.CoreAction.{script_at}
use Rattle.session_text.specs.Array.{list_at}
use Rattle.session_text.specs.Format.{format_at}
use Rattle.session_text.specs.Header.{header_of, settings_at}
use Rattle.session_text.specs.Member.{object_at, member_at, array_at, number_at, only_at}
use Rattle.session_text.specs.Names.{TaskNames, known_names, user_names}
use Rattle.session_text.specs.ReadingRules.{◌>>=◌, bad_shape}
use Rattle.session_text.specs.Path.{item_path, member_path, path_text}
use Rattle.session_text.specs.Session.{document, session_members}

-- the array at a location has no items, or H2 there
abbrev pub no_items_at : List ℕ → Items → Result ⊤ TextFault
no_items_at at items =
    if items_len items == 0 then Ok tt else Err (bad_shape at detail.HasSteps)

-- `steps` has no items, or H2 there
unfoldable pub no_steps_at : List ℕ → Data → Result ⊤ TextFault
no_steps_at at d = do
  items ← array_at at (codes "steps") d
  no_items_at (member_path at (codes "steps")) items

-- the format, the number of cores, and the header, accepted or not, of a session with no steps
unfoldable pub stepless_at :
    List ℕ → Data → Result (Format × ℕ × Result Header HeaderFlaw) TextFault
stepless_at at d = do
  members ← object_at at d
  format ← format_at at d
  settings ← settings_at format at d
  header ← header_of settings.0 settings.1 at d
  none ← no_steps_at at d
  only ← only_at at (session_members format) members
  Ok (format, settings.0.cores, header)

-- each item is an array
abbrev pub are_arrays : Items → Bool
are_arrays no_items = true
are_arrays (item d rest) = is_some (as_array d) && are_arrays rest

-- there are so many items, and each is an array
abbrev pub has_arrays : ℕ → Items → Bool
has_arrays count items = (items_len items == count) && are_arrays items

-- a wrong number of scripts, and one that is no array, is H2 at `scripts`
abbrev pub one_per_core : ℕ → List ℕ → Items → Result ⊤ TextFault
one_per_core cores at items =
    if has_arrays cores items then Ok tt else Err (bad_shape at (detail.OnePerCore cores))

-- one script per core
unfoldable pub scripts_at :
    Format → ℕ → TaskNames → List ℕ → Data → Result (List (List CoreAction)) TextFault
scripts_at format cores names at d = do
  items ← array_at at (codes "scripts") d
  done ← one_per_core cores (member_path at (codes "scripts")) items
  list_at (script_at format names) at (codes "scripts") d

abbrev pub rig_members : List (List ℕ)
rig_members = codes "session" ∷ codes "limit" ∷ codes "scripts" ∷ []

-- the header, accepted or not, of the session, the limit and the scripts, which are in its format;
-- shapes alone are judged
unfoldable pub rig_shapes_at :
    List ℕ → Data → Result (Result Header HeaderFlaw × ℕ × List (List CoreAction)) TextFault
rig_shapes_at at d = do
  members ← object_at at d
  inner ← member_at at (codes "session") d
  read ← stepless_at (member_path at (codes "session")) inner
  limit ← number_at at (codes "limit") d
  scripts ← scripts_at read.0 read.1 (known_names read.2) at d
  only ← only_at at rig_members members
  Ok (read.2, limit, scripts)

-- F1 where a tick has more than one unit of time: recordings by threads have no time
abbrev pub units_accepted : List ℕ → Header → Result ⊤ TextFault
units_accepted session header =
    if header.config.units == 1 then Ok tt
    else Err (header_fault session (Units header.config.units))

-- F5 at `limit`, where it is more than the steps that a session may have
abbrev pub limit_accepted : List ℕ → ℕ → Result ⊤ TextFault
limit_accepted at limit =
    if nat_lt max_steps limit
    then Err (record {
      why = Bench BadArgument;
      path = path_text (member_path at (codes "limit"));
      detail = detail.Limit limit;
    })
    else Ok tt

-- the first fault of the script of a core, which stands in the array at a location
abbrev pub script_accepted :
    Header → List ℕ → Option Data → ℕ → List CoreAction → Result ⊤ TextFault
script_accepted header at array core script =
    items_accepted (core_action_flaw (settings_of header) core) (user_names header)
    (item_path at core)
    (item_of core array) 0 script

-- the same of the scripts from a core's on
abbrev pub scripts_accepted :
    Header → List ℕ → Option Data → ℕ → List (List CoreAction) → Result ⊤ TextFault
scripts_accepted header at array core [] = Ok tt
scripts_accepted header at array core (script ∷ rest) = do
  done ← script_accepted header at array core script
  scripts_accepted header at array (suc core) rest

-- F1 of the header comes first; the fault of the limit comes before those of the scripts
unfoldable pub rig_accepted :
    List ℕ → Data → Result Header HeaderFlaw → ℕ → List (List CoreAction)
    → Result RigScript TextFault
rig_accepted at d (Err flaw) limit scripts =
    Err (header_fault (member_path at (codes "session")) flaw)
rig_accepted at d (Ok header) limit scripts = do
  timeless ← units_accepted (member_path at (codes "session")) header
  few ← limit_accepted at limit
  done ← scripts_accepted header (member_path at (codes "scripts")) (get (codes "scripts") d) 0
      scripts
  Ok (record { header = header; limit = limit; scripts = scripts })

unfoldable pub rig_at : List ℕ → Data → Result RigScript TextFault
rig_at at d = do
  read ← rig_shapes_at at d
  rig_accepted at d read.0 read.1 read.2

-- the rig document that a text spells, or its first fault
unfoldable pub rig_text : List ℕ → Result RigScript TextFault
rig_text text = do
  d ← document text
  rig_at [] d

-- each action of each script was checked as one of its core
abbrev pub AreCheckedScripts : Header → List (List CoreAction) → Type 0
AreCheckedScripts header scripts =
    EachIndex scripts
    (λ core. All (IsCheckedCoreAction (settings_of header) core) (get_or scripts core []))

-- there is one script per core, and all was checked under the header
pub record IsCheckedRig (rig : RigScript) : Type 0 where
  pub header : IsCheckedHeader rig.header
  pub timeless : rig.header.config.units ≡ 1
  pub few : rig.limit ≤ max_steps
  pub one_per_core : length rig.scripts ≡ rig.header.config.cores
  pub core_actions : AreCheckedScripts rig.header rig.scripts
