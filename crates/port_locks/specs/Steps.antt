-- What each step of a lock pair tells its seat.
use Rattle.std.specs.Prelude.{◌≡◌, ◌≢◌, ℕ, ◌+◌, ◌⊎◌, List, [], ◌∷◌, ◌++◌, Bool, true, false, Option, Some, None}
use Rattle.atomic_table.specs.Table.{Me, Step}
use Rattle.bench_types.specs.declared.entry.Entry.{Entry}
use Rattle.port_locks.specs.declared.view.Handover.{Handover}
use Rattle.port_locks.specs.declared.view.Terms.{Terms}
use Rattle.port_locks.specs.declared.view.View.{View}
use Rattle.bench_model.specs.History.{made_by, StartsWith, IsLegal, IsGrowthBy}
use Rattle.port_locks.specs.Holds.{hold_after, holder_after, own_hold}

-- the terms of nobody
abbrev pub no_terms : Terms
no_terms = record {
  header = record {
    config = record {
      cores = 0;
      priorities = 0;
      slicing = false;
      tick = 0;
      mutexes = 0;
      notes = 0;
      units = 0;
    };
    queues = None;
    tasks = [];
  };
  limit = 0;
}

abbrev pub seated : Terms → ℕ → ℕ → View
seated terms number given = record {
  spent = false;
  terms = terms;
  number = number;
  given = given;
  owns_interrupt = false;
  holds = false;
  owns_task = false;
  seen = [];
  made = [];
  heard = [];
}

abbrev pub nobody : View
nobody = record (seated no_terms 0 0) { spent = true }

-- the first seat gives a number out, and a new seat has it
abbrev pub one_more : View → View
one_more v = record v { given = v.given + 1 }

abbrev pub newcomer : View → View
newcomer v = seated v.terms v.given 0

-- a seat takes in what another hands over
abbrev pub handover : View → Handover
handover v = record { number = v.number; seen = v.seen; made = v.made }

abbrev pub gathered : View → View → View
gathered v w = record v { heard = v.heard ++ handover w ∷ w.heard }

-- the view of the interrupt word's new owner
abbrev pub entered : View → List Entry → View
entered v history = record v { owns_interrupt = true; holds = true; seen = history }

abbrev pub noted : View → List Entry → View
noted v history = record v { holds = false; seen = history; made = made_by v.number history }

-- an open hold that may stand after a history for the seat: with the task word its own, and without
-- it that of another
abbrev pub MayHold : Bool → ℕ → Option ℕ → Type 0
MayHold true number holder = (core : ℕ) → holder ≡ Some core → core ≡ number
MayHold false number holder = holder ≢ Some number

-- what the taker of the interrupt word finds
pub record Finds (terms : Terms) (number : ℕ) (owns_task : Bool) (seen made history : List Entry)
    : Type 0 where
  pub legal : IsLegal terms.header history
  pub begins : StartsWith history seen
  pub entries : made_by number history ≡ made
  pub hold :
      own_hold number (hold_after terms.header seen)
      ≡ own_hold number (hold_after terms.header history)
  pub holder : MayHold owns_task number (holder_after terms.header history)

-- what may be put back in place of a history
pub record MayFollow (terms : Terms) (number : ℕ) (owns_task : Bool) (old new : List Entry)
    : Type 0 where
  pub growth : IsGrowthBy number old new
  pub hold :
      (hold_after terms.header new ≡ hold_after terms.header old)
      ⊎ ((owns_task ≡ true)
      × ((core : ℕ) → holder_after terms.header new ≡ Some core → core ≡ number))

module _ {V : Type 0} (terms_of : V → Terms) (list_of : V → List Entry) where
  -- with 0 found the interrupt word is owned and the value at hand; else nothing changed
  abbrev pub took_interrupt :
      Step (Option V) → Me (Option V) View → ℕ → Me (Option V) View → Type 0
  took_interrupt step me found after =
      (found ≡ 0
      → (value : V) × (terms_of value ≡ me.0.terms)
      × (after ≡ (entered me.0 (list_of value), (0, Some value) ∷ me.1))
      × Finds me.0.terms me.0.number me.0.owns_task me.0.seen me.0.made (list_of value))
      × (found ≢ 0 → after ≡ me)

  -- the value in hand is in its slot and published
  abbrev pub published :
      Step (Option V) → Me (Option V) View → ℕ → Me (Option V) View → Type 0
  published step me stored after =
      (value : V) → me.1 ≡ (0, Some value) ∷ [] → after ≡ (noted me.0 (list_of value), [])

module _ {S : Type 0} where
  abbrev pub freed_interrupt : Step S → Me S View → ℕ → Me S View → Type 0
  freed_interrupt step me stored after =
      after ≡ (record me.0 { owns_interrupt = false }, me.1)

  abbrev pub took_task : Step S → Me S View → ℕ → Me S View → Type 0
  took_task step me found after =
      (found ≡ 0 → after ≡ (record me.0 { owns_task = true }, me.1)) × (found ≢ 0 → after ≡ me)

  abbrev pub freed_task : Step S → Me S View → ℕ → Me S View → Type 0
  freed_task step me stored after = after ≡ (record me.0 { owns_task = false }, me.1)
