-- A history: the entries that the threads of cores recorded of one kernel, in their order.
use Rattle.std.specs.Prelude.{◌≡◌, ◌≢◌, ℕ, ◌-◌, List, ◌++◌, length, map, filter, take, All, Bool, false, ◌==◌, [], ◌∷◌, Option, is_some, option_map}
use Rattle.std.specs.Prelude.{if◌then◌else◌, slice_get, ⊤}
use Rattle.bench_types.specs.declared.entry.Entry.{Entry}
use Rattle.bench_types.specs.declared.header.Header.{Header}
use Rattle.bench_types.specs.declared.kernel_data.Hold.{Hold}
use Rattle.bench_types.specs.declared.reply.Refusal.TheVariants.{Held}
use Rattle.bench_types.specs.declared.reply.Reply.TheVariants.{Refused}
use Rattle.bench_types.specs.declared.step.Call.{Call}
use Rattle.bench_types.specs.declared.step.Call.TheVariants.{HoldOpen, HoldClose}
use Rattle.bench_types.specs.declared.step.Step.{Step}
use Rattle.bench_types.specs.declared.step.Step.TheVariants.{Tick, Switch, Interrupt, QueueInterrupt, ResumeInterrupt, Pass}
use Rattle.bench_types.specs.declared.step.Step.TheVariants as steps
use Rattle.bench_types.specs.Step.{core_of, settings_of, IsCheckedStep}
use Rattle.bench_model.specs.Control.{Control, current}
use Rattle.bench_model.specs.Holds.{is_held_by, is_held_elsewhere, depth_of}
use Rattle.bench_model.specs.Session.{step_of, state_after, reply_at}
use Rattle.bench_model.specs.Start.{start}
use Rattle.bench_model.specs.Table.{Table}

-- the session that the entries are
abbrev pub steps_of : List Entry → List Step
steps_of entries = map (λ entry. entry.step) entries

-- the table after all entries
unfoldable pub end_of : Header → List Entry → Table
end_of header entries = state_after (start header) (steps_of entries)

-- What cores may record from the start of the header on: checked steps, each by its own core, none
-- of them kept out by a hold, with the replies of the session that they are.
pub record IsLegal (header : Header) (entries : List Entry) : Type 0 where
  pub checked : All (λ entry. IsCheckedStep (settings_of header) entry.step) entries
  pub own : All (λ entry. entry.core ≡ core_of entry.step) entries
  pub unheld : All (λ entry. entry.reply ≢ Refused Held) entries
  pub replies :
      (place : ℕ) → option_map (λ entry. entry.reply) (slice_get entries place)
      ≡ reply_at header (steps_of entries) place

-- what they may record after the entries: the same of one entry more
pub record IsNext (header : Header) (entries : List Entry) (entry : Entry) : Type 0 where
  pub checked : IsCheckedStep (settings_of header) entry.step
  pub own : entry.core ≡ core_of entry.step
  pub unheld : entry.reply ≢ Refused Held
  pub reply : entry.reply ≡ (step_of entry.step (end_of header entries)).0

-- the entries of the core
abbrev pub made_by : ℕ → List Entry → List Entry
made_by core entries = filter (λ entry. entry.core == core) entries

-- the list begins with the items
abbrev pub StartsWith : {X : Type 0} → List X → List X → Type 0
StartsWith list items = take (length items) list ≡ items

-- the new history is the old one with entries of the core after it
abbrev pub IsGrowthBy : ℕ → List Entry → List Entry → Type 0
IsGrowthBy core old new =
    (rest : List Entry) × ((new ≡ old ++ rest) × All (λ entry. entry.core ≡ core) rest)

-- A hold refuses the step: no switch is made while one is open, and no call while another core has
-- it open.
abbrev pub is_kept_out : Option Hold → Step → Bool
is_kept_out hold Tick = false
is_kept_out hold (Switch core) = is_some hold
is_kept_out hold (steps.Call core task call) = is_held_elsewhere core hold
is_kept_out hold (Interrupt core note) = false
is_kept_out hold (QueueInterrupt core queue direction) = false
is_kept_out hold (ResumeInterrupt core task) = false
is_kept_out hold (Pass units) = false

-- How many entries more there is room for: each time that the kernel is held keeps one place, for
-- the call that closes it.
abbrev pub free_places : ℕ → List Entry → Option Hold → ℕ
free_places limit entries hold = limit - length entries - depth_of hold

-- how many of them a call of the core needs: two to open a hold, none to close its own, else one
abbrev pub places_for : Option Hold → ℕ → Call → ℕ
places_for hold core HoldOpen = 2
places_for hold core HoldClose = if is_held_by core hold then 0 else 1
places_for hold core call = 1

-- how many of them a step needs
abbrev pub places_of : Option Hold → Step → ℕ
places_of hold Tick = 1
places_of hold (Switch core) = 1
places_of hold (steps.Call core task call) = places_for hold core call
places_of hold (Interrupt core note) = 1
places_of hold (QueueInterrupt core queue direction) = 1
places_of hold (ResumeInterrupt core task) = 1
places_of hold (Pass units) = 1

-- a call is made by the current task of its core
abbrev pub IsByCurrent : Control → Step → Type 0
IsByCurrent control Tick = ⊤
IsByCurrent control (Switch core) = ⊤
IsByCurrent control (steps.Call core task call) = current control core ≡ task
IsByCurrent control (Interrupt core note) = ⊤
IsByCurrent control (QueueInterrupt core queue direction) = ⊤
IsByCurrent control (ResumeInterrupt core task) = ⊤
IsByCurrent control (Pass units) = ⊤

-- each call of a history is made by the current task of its core at that place
abbrev pub AreByCurrent : Header → List Entry → Type 0
AreByCurrent header entries =
    (first : List Entry) (entry : Entry) → StartsWith entries (first ++ entry ∷ [])
    → IsByCurrent (end_of header first).control entry.step
