-- What is so at the end of a rig.
use Rattle.std.proofs.Common.{◌≡◌, ℕ, ◌+◌, ◌<◌, ◌==◌, ◌&&◌, Bool, true, false, cond, eqb, List, [], ◌∷◌, length, map, get_or, Option, Some, None, Result, Ok}
use Rattle.std.proofs.Common.{Err, refl, sym, ap, subst, ◌∙◌, arith, All}
use Rattle.std.specs.Prelude.{⊤, ◌↔◌, ltb, sum_by}
use Rattle.std.specs.List.{list_all}
use Rattle.std.proofs.lemmas.Bool.Decides.{nat_tests}
use Rattle.std.proofs.lemmas.List.{length-map}
use Rattle.std.proofs.lemmas.List.Elements.{recursion_from_All}
use Rattle.std.proofs.lemmas.List.Sums.{AllPass-from_list_all, list_all-from_AllPass, sum_by-cons}
use Rattle.std.proofs.lemmas.List.Folds.{list_all-map}
use Rattle.std.proofs.Math.ListN.{get_or-map}
use Rattle.std.proofs.Math.Path.{fun_ext}
use Rattle.bench_types.specs.declared.entry.Entry.{Entry}
use Rattle.bench_types.specs.declared.header.Header.{Header}
use Rattle.bench_types.specs.declared.kernel_data.Hold.{Hold}
use Rattle.bench_types.specs.Header.{header_check}
use Rattle.list_orders.specs.Search.{numbers}
use Rattle.list_orders.proofs.Filters.{list_any-map, filter_none, All-weaker}
use Rattle.bench_model.specs.History.{end_of, made_by, IsLegal}
use Rattle.bench_model.specs.Holds.{is_held_by}
use Rattle.bench_model.specs.Sound.{IsSound}
use Rattle.history_laws.specs.SoundHistories.{IsSoundHistory}
use Rattle.history_laws.proofs.HoldsAlong.{held_as_made}
use Rattle.history_laws.proofs.KeptOut.{start_free}
use Rattle.history_laws.proofs.Legal.{cores_there, end_empty}
use Rattle.history_laws.proofs.Parts.{cores_add}
use Rattle.history_laws.proofs.Recorded.{legal_sound}
use Rattle.port_locks.proofs.CloseChecks.{numbers_there}
use Rattle.port_locks.proofs.EachOnce.{all_found, each_once}
use Rattle.port_locks.specs.Closing as locks
use Rattle.port_locks.specs.declared.fault.CloseFault.TheVariants as lock_faults
use Rattle.port_locks.specs.Holds.{hold_after}
use Rattle.port_locks.specs.Seats.{PairView, SeatView}
use Rattle.recordings.proofs.Keeping.{none_held}
use Rattle.recordings.specs.RecordingView.{RecordingView}
use Rattle.core_rig.specs.declared.fault.CloseFault.{CloseFault}
use Rattle.core_rig.specs.declared.fault.CloseFault.TheVariants.{WrongSeats, HoldOpen}
use Rattle.core_rig.specs.Closing.{HasEachOnce, IsEndOf, close_check, counts, has_all_cores, hold_nothing}
use Rattle.core_rig.specs.Resting.{IsOwn, at_rest}
use Rattle.core_rig.specs.Seats.{CoreView, depth_at, new_seat}

abbrev outcome : Bool → Bool → Bool → Result ⊤ CloseFault
outcome long all none = cond (long && all) (cond none (Ok tt) (Err HoldOpen)) (Err WrongSeats)

passed : (long all none : Bool) → outcome long all none ≡ Ok tt → (long ≡ true) × (all ≡ true) × (none ≡ true)
passed true true true is = (refl, refl, refl)
passed true true false is = absurd (cc is)
passed true false none is = absurd (cc is)
passed false all none is = absurd (cc is)

wrong_where_failed : (long all none : Bool) (why : CloseFault) → outcome long all none ≡ Err why → (why ≡ WrongSeats ↔ ¬ ((long && all) ≡ true))
wrong_where_failed true true true why is = absurd (cc is)
wrong_where_failed true true false why is = (λ wrong. absurd (cc (is, wrong)), λ never. absurd (never refl))
wrong_where_failed true false none why is = (λ wrong both. cc both, λ never. cc is)
wrong_where_failed false all none why is = (λ wrong both. cc both, λ never. cc is)

pub wrong_seats : (cores : ℕ) (seats : List CoreView) (why : CloseFault) → close_check cores seats ≡ Err why → (why ≡ WrongSeats ↔ ¬ HasEachOnce cores seats)
wrong_seats cores seats why is =
    let w = wrong_where_failed (length seats == cores) (has_all_cores cores seats) (hold_nothing seats) why is in (
      λ wrong once. w.0 wrong (all_found (λ (seat : CoreView). seat.core) cores seats once),
      λ never. w.1 (λ both. never (each_once (λ (seat : CoreView). seat.core) cores seats both)),
    )

module _ (cores : ℕ) (seats : List CoreView) (is : close_check cores seats ≡ Ok tt) where
  abbrev tests : (length seats == cores ≡ true) × (has_all_cores cores seats ≡ true) × (hold_nothing seats ≡ true)
  tests = passed (length seats == cores) (has_all_cores cores seats) (hold_nothing seats) is

  abbrev inner : List (SeatView RecordingView)
  inner = map at_rest seats

  pub seats_once : HasEachOnce cores seats
  seats_once = each_once (λ (seat : CoreView). seat.core) cores seats (ap (λ b. b && has_all_cores cores seats) tests.0 ∙ tests.1)

  pub nothing_held : All (λ seat. depth_at seat ≡ 0) seats
  nothing_held k d less =
      let none = AllPass-from_list_all (λ (seat : CoreView). depth_at seat == 0) seats tests.2 k d less in
      grind (arith, nat_tests, none)

  all_numbers : locks.has_all_numbers cores inner ≡ true
  all_numbers = ap (λ p. list_all p (numbers cores)) (fun_ext (λ n. list_any-map (λ (seat : SeatView RecordingView). seat.number == n) at_rest seats)) ∙ tests.1

  all_free : locks.are_free inner ≡ true
  all_free = list_all-map locks.is_free at_rest seats ∙ list_all-from_AllPass (λ (seat : CoreView). true) seats (λ k d less. refl)

  -- the pair's own test passes
  pub pair_check : locks.close_check cores inner ≡ Ok tt
  pair_check =
      ap (λ n. cond ((n == cores) && locks.has_all_numbers cores inner) (cond (locks.are_free inner) (Ok tt) (Err lock_faults.Owned))
      (Err lock_faults.WrongSeats)) (length-map seats at_rest)
      ∙ ap (λ b. cond (b && locks.has_all_numbers cores inner) (cond (locks.are_free inner) (Ok tt) (Err lock_faults.Owned)) (Err lock_faults.WrongSeats))
      tests.0
      ∙ ap (λ b. cond b (cond (locks.are_free inner) (Ok tt) (Err lock_faults.Owned)) (Err lock_faults.WrongSeats)) all_numbers
      ∙ ap (λ b. cond b (Ok tt) (Err lock_faults.Owned)) all_free

  -- each core has a seat
  pub has_seat : (pair : PairView) (core : ℕ) → core < cores → (k : ℕ) × (k < length seats) × ((get_or seats k (new_seat pair 0)).core ≡ core)
  has_seat pair core below =
      let found = numbers_there inner cores all_numbers core below in
      let d = new_seat pair 0 in (
        found.0,
        (let less = found.1 in omega (arith, less, length-map seats at_rest)),
        ap (λ (seat : SeatView RecordingView). seat.number) (sym (get_or-map at_rest seats found.0 d)) ∙ found.2 (at_rest d),
      )

-- what all seats say of a history
pub ends_of : (history : List Entry) (seats : List CoreView) (inner : List (SeatView RecordingView)) → inner ≡ map at_rest seats → All (locks.IsEndOf history)
    inner → All (IsEndOf history) seats
ends_of history seats held is all k d less =
    subst (λ (seat : SeatView RecordingView). locks.IsEndOf history seat) (get_or-map at_rest seats k d)
    (subst (All (locks.IsEndOf history)) is all k (at_rest d) (omega (arith, less, length-map seats at_rest)))

-- a core that is none made no entry
none_made_above : (core cores : ℕ) (entries : List Entry) → All (λ entry. entry.core < cores) entries → ltb core cores ≡ false → made_by core entries ≡ []
none_made_above core cores entries below above =
    filter_none (λ (entry : Entry). eqb entry.core core) entries
    (All-weaker (λ (entry : Entry). entry.core < cores) (λ (entry : Entry). eqb entry.core core ≡ false) (λ entry less. grind (arith, nat_tests, less, above))
    entries
    (recursion_from_All (λ (entry : Entry). entry.core < cores) entries below))

-- a history at whose end each core's seat holds nothing ends with no hold
module _ (header : Header) (entries : List Entry) (seats : List CoreView) (pair : PairView) (passes : header_check header ≡ Ok tt)
    (legal : IsLegal header entries) (is : close_check header.config.cores seats ≡ Ok tt) (terms : All (λ seat. seat.terms.header ≡ header) seats)
    (own : All IsOwn seats) (ends : All (IsEndOf entries) seats) where
  sound : IsSoundHistory header entries
  sound = legal_sound header entries passes legal

  seat_holds_nothing : (k : ℕ) (d : CoreView) → k < length seats → is_held_by (get_or seats k d).core (end_of header entries).hold ≡ false
  seat_holds_nothing k d less =
      let seat = get_or seats k d in
      let end = ends k d less in
      let none = nothing_held header.config.cores seats is k d less in
      let before = subst (λ header. is_held_by seat.core (hold_after header seat.seen) ≡ false) (terms k d less)
      (none_held seat.core (end_of seat.terms.header seat.seen) (subst (λ header. IsSound (end_of header seat.seen)) (sym (terms k d less))
      (sound seat.seen end.0)) none) in
      held_as_made header seat.core entries seat.seen sound legal end.0 (end.1 ∙ sym (own k d less)) ∙ before

  holds_nothing : (core : ℕ) → is_held_by core (end_of header entries).hold ≡ false
  holds_nothing core = at (ltb core header.config.cores) refl
    where
      at : (b : Bool) → ltb core header.config.cores ≡ b → is_held_by core (end_of header entries).hold ≡ false
      at true below =
          let found = has_seat header.config.cores seats is pair core (grind (arith, nat_tests, below)) in
          subst (λ core. is_held_by core (end_of header entries).hold ≡ false) found.2 (seat_holds_nothing found.0 (new_seat pair 0) found.1)
      at false above =
          held_as_made header core entries [] sound legal refl (none_made_above core header.config.cores entries (cores_there header entries passes legal)
          above)
          ∙ ap (λ table. is_held_by core table.hold) (end_empty header) ∙ ap (is_held_by core) (start_free header)

  pub ends_unheld : hold_after header entries ≡ None
  ends_unheld = at (end_of header entries).hold holds_nothing
    where
      at : (hold : Option Hold) → ((core : ℕ) → is_held_by core hold ≡ false) → hold ≡ None
      at None none = refl
      at (Some hold) none = let own = none hold.core in absurd (grind (arith, nat_tests, own))

sum_of_map : (f : ℕ → ℕ) (xs : List ℕ) → sum_by (λ n. n) (map f xs) ≡ sum_by f xs
sum_of_map f [] = refl
sum_of_map f (x ∷ xs) = sum_by-cons (λ n. n) (f x) (map f xs) ∙ ap (λ sum. f x + sum) (sum_of_map f xs) ∙ sym (sum_by-cons f x xs)

pub counts_add_up : (header : Header) (entries : List Entry) → header_check header ≡ Ok tt → IsLegal header entries → sum_by (λ n. n)
    (counts header.config.cores entries) ≡ length entries
counts_add_up header entries passes legal =
    sum_of_map (λ core. length (made_by core entries)) (numbers header.config.cores)
    ∙ cores_add header.config.cores entries (cores_there header entries passes legal)
