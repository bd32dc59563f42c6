-- What the seats of a pair know at its end, once all are joined into one.
use Rattle.std.proofs.Common.{◌≡◌, ℕ, ◌+◌, ◌<◌, ◌≤◌, ◌==◌, ◌-◌, List, [], ◌∷◌, length, get_or, Bool, true, false, true≢false, Option, Some, None, option_map}
use Rattle.std.proofs.Common.{refl, sym, ap, ◌∙◌, subst, ⊎_elim, arith, eq-eqb}
use Rattle.std.specs.List.{All}
use mathlib.Core.Logic.{dite}
use mathlib.Core.Option as maybe
use native.Mathlib.Decide.{ℕ_discrete}
use lib.ListN.{get_elem?}
use Rattle.atomic_table.specs.Table.{State, Final, Seen}
use Rattle.bench_types.specs.declared.entry.Entry.{Entry}
use Rattle.bench_types.specs.declared.kernel_data.Hold.{Hold}
use Rattle.bench_model.specs.History.{made_by, StartsWith, IsLegal}
use Rattle.port_locks.specs.declared.view.About.{About}
use Rattle.port_locks.specs.declared.view.Handover.{Handover}
use Rattle.port_locks.specs.declared.view.Terms.{Terms}
use Rattle.port_locks.specs.declared.view.View.{View}
use Rattle.port_locks.specs.Closing.{Knows, IsEnd, HasAllNumbers, IsEndOf, HasNoOthers}
use Rattle.port_locks.specs.Holds.{hold_after}
use Rattle.port_locks.specs.Seats.{SeatView}
use Rattle.port_locks.proofs.KnownSeats.{IsKnown}
use Rattle.port_locks.specs.Locks.{PairState, IsHeard, Fits, Locked}

-- what is so of a seat that was joined, or is the one into which all are
knows_end : (p : PairState) (id : ℕ) (v : View) → Fits p id v → (number : ℕ)
    (seen made : List Entry) → Knows v number seen made
    → StartsWith p.history seen × (made_by number p.history ≡ made)
knows_end p id v f number seen made =
    ⊎_elim
    (λ (own : (v.number ≡ number) × (v.seen ≡ seen) × (v.made ≡ made)). (
      subst (StartsWith p.history) own.1 f.seen,
      subst (λ (x : ℕ × List Entry). made_by x.0 p.history ≡ x.1) (λ i. (own.0 i, own.2 i))
          f.made,
    ))
    (λ (heard : (k : ℕ) × (t : Handover) × (k < length v.heard)
    × ((d : Handover) → get_or v.heard k d ≡ t) × (t.number ≡ number) × (t.seen ≡ seen)
    × (t.made ≡ made)).
    let t : Handover = heard.1 in
    let is : IsHeard p id t =
    subst (IsHeard p id) (heard.3 t) (f.heard heard.0 t heard.2) in (
      subst (StartsWith p.history) heard.5 is.seen,
      subst (λ (x : ℕ × List Entry). made_by x.0 p.history ≡ x.1)
          (λ i. (heard.4 i, heard.6 i)) is.made,
    ))

-- a word that names neither a seat nor any that it was told of names no number which is known
not_named : (p : PairState) (id : ℕ) (v : View) → Fits p id v → (word : ℕ)
    → (word == v.number + 1) ≡ false
    → ((t : Handover) → IsHeard p id t → (word == t.number + 1) ≡ false)
    → (number : ℕ) (seen made : List Entry) → Knows v number seen made
    → (word == number + 1) ≡ false
not_named p id v f word free frees number seen made =
    ⊎_elim
    (λ (own : (v.number ≡ number) × (v.seen ≡ seen) × (v.made ≡ made)).
    subst (λ (n : ℕ). (word == n + 1) ≡ false) own.0 free)
    (λ (heard : (k : ℕ) × (t : Handover) × (k < length v.heard)
    × ((d : Handover) → get_or v.heard k d ≡ t) × (t.number ≡ number) × (t.seen ≡ seen)
    × (t.made ≡ made)).
    let t : Handover = heard.1 in
    let is : IsHeard p id t =
    subst (IsHeard p id) (heard.3 t) (f.heard heard.0 t heard.2) in
    subst (λ (n : ℕ). (word == n + 1) ≡ false) heard.4 (frees t is))

-- and so it names nobody, where all numbers are known
names_nobody : (p : PairState) (id : ℕ) (v : View) → Fits p id v → (cores word : ℕ)
    → p.given ≤ cores → word ≤ p.given
    → ((number : ℕ) → number < cores
    → (seen : List Entry) × (made : List Entry) × Knows v number seen made)
    → (word == v.number + 1) ≡ false
    → ((t : Handover) → IsHeard p id t → (word == t.number + 1) ≡ false) → word ≡ 0
names_nobody p id v f cores word most few all free frees =
    dite (ℕ_discrete word 0) (λ none. none)
    (λ owned.
    let number : ℕ = word - 1 in
    let same : word ≡ number + 1 = omega arith in
    let k = all number (omega arith) in
    absurd
    (true≢false
    (sym (eq-eqb word (number + 1) same)
    ∙ not_named p id v f word free frees number k.0 k.1 k.2)))

-- no hold is open while nobody owns the task word
none_open : (task : ℕ) (hold : Option Hold) → task ≡ 0
    → ((core : ℕ) → option_map (λ (h : Hold). h.core) hold ≡ Some core → task ≡ core + 1)
    → hold ≡ None
none_open task None nobody all = refl
none_open task (Some h) nobody all =
    let is : task ≡ h.core + 1 = all h.core refl in absurd (omega arith)

not_true : (b : Bool) → (b ≡ true → ⊥) → b ≡ false
not_true true never = absurd (never refl)
not_true false never = refl

-- every number is known where all seats are, and each number is that of a seat
all_known : {V : Type 0} (most cores : ℕ) (v : View) (seats : List (SeatView V)) → most ≡ cores
    → HasAllNumbers cores seats → All (IsKnown v) seats → (number : ℕ) → number < most
    → (seen : List Entry) × (made : List Entry) × Knows v number seen made
all_known most cores v [] same has known number less =
    absurd (let h = has number (omega arith) in let none = h.1 in omega arith)
all_known most cores v (seat ∷ seats) same has known number less =
    let h = has number (omega arith) in
    let it = get_or (seat ∷ seats) h.0 seat in (
      it.seen,
      it.made,
      subst (λ (n : ℕ). Knows v n it.seen it.made) (h.2 seat) (known h.0 seat h.1),
    )

module _ {V : Type 0} (terms_of : V → Terms) (list_of : V → List Entry) (key : About V) where
  abbrev Rule : State (Option V) View → Type 0
  Rule = Locked terms_of list_of key

  -- where all numbers are known and the one seat does not own the interrupt word, the value is home
  pub ends : (id : ℕ) (v : View) (words : List ℕ) (slots : List (Option V)) → v.spent ≡ false
      → v.owns_interrupt ≡ false → v.owns_task ≡ false
      → ((number : ℕ) → number < key.cores
      → (seen : List Entry) × (made : List Entry) × Knows v number seen made)
      → Final (Seen Rule id v) words slots
      → (value : V) × (get_elem? slots 0 ≡ maybe.some (Some value))
      × (terms_of value ≡ terms_of key.first.value)
      × IsLegal (terms_of value).header (list_of value) × IsEnd v (list_of value)
      × (hold_after (terms_of value).header (list_of value) ≡ None)
      × HasNoOthers key.cores (list_of value)
  ends id v words slots kept free free_task all final =
      let s = final.0 in
      let r : Rule s = final.1.0 in
      let f = r.views id v final.1.1 kept in
      let nobody : r.p.interrupt ≡ 0 =
      names_nobody r.p id v f key.cores r.p.interrupt r.few_given r.interrupt_given all
      (f.interrupt ∙ free) (λ t is. is.interrupt) in
      let no_task : r.p.task ≡ 0 =
      names_nobody r.p id v f key.cores r.p.task r.few_given r.task_given all
      (f.task ∙ free_task) (λ t is. is.task) in
      let most = r.few_given in
      let home = r.home (not_true r.p.out (λ out. r.owned out nobody)) in (
        home.value,
        final.4 0 (Some home.value) (ap (λ hs. get_elem? hs 0) home.slot),
        home.terms ∙ r.terms,
        subst (λ (x : Terms × List Entry). IsLegal x.0.header x.1)
            (λ i. (sym home.terms i, sym home.list i)) r.legal,
        subst (IsEnd v) (sym home.list) (λ number seen made. knows_end r.p id v f number seen made),
        subst (λ (x : Terms × List Entry). hold_after x.0.header x.1 ≡ None)
            (λ i. (sym home.terms i, sym home.list i))
            (none_open r.p.task (hold_after r.p.terms.header r.p.history) no_task r.hold),
        subst (HasNoOthers key.cores) (sym home.list)
            (λ number over. r.not_given number (omega (arith, over))),
      )

  -- the same of what was taken out of the slot, and of seats that are known
  pub ends_as : (id : ℕ) (v : View) (words : List ℕ) (slots : List (Option V)) → v.spent ≡ false
      → v.owns_interrupt ≡ false → v.owns_task ≡ false → (cores : ℕ) (seats : List (SeatView V))
      → key.cores ≡ cores
      → HasAllNumbers cores seats → All (IsKnown v) seats
      → Final (Seen Rule id v) words slots → (taken : Option V)
      → get_elem? slots 0 ≡ maybe.some taken
      → (value : V) × (taken ≡ Some value) × (terms_of value ≡ terms_of key.first.value)
      × IsLegal (terms_of value).header (list_of value)
      × All (IsEndOf (list_of value)) seats
      × (hold_after (terms_of value).header (list_of value) ≡ None)
      × HasNoOthers cores (list_of value)
  ends_as id v words slots kept free free_task cores seats same has known final taken at =
      let e =
      ends id v words slots kept free free_task (all_known key.cores cores v seats same has known)
      final in (
        e.0,
        maybe.some-injective taken (Some e.0) (sym at ∙ e.1),
        e.2,
        e.3,
        (λ k d l. e.4 _ _ _ (known k d l)),
        e.5,
        (λ number over. e.6 number (omega (arith, same, over))),
      )
