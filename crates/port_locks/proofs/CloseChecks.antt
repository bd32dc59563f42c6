-- What the tests of a close say of the seats.
use Rattle.std.proofs.Common.{◌≡◌, ◌⊎◌, ℕ, zero, suc, ◌+◌, ◌<◌, ◌==◌, ◌&&◌, ◌||◌, Bool, true, false, true≢false, List, [], ◌∷◌, length, get_or, refl, sym, ap}
use Rattle.std.proofs.Common.{◌∙◌, subst, ⊎_elim, inl, inr, arith, eq-eqb}
use Rattle.std.specs.List.{All, list_any}
use Rattle.std.proofs.lemmas.Bool.Decides.{nat_tests}
use Rattle.std.proofs.lemmas.List.Sums.{AllPass-from_list_all, list_all-from_AllPass, length-filter}
use Rattle.std.proofs.lemmas.List.FromFn.{get_or-range_with_len, length-range_with_len}
use Rattle.list_orders.specs.Search.{numbers}
use Rattle.port_locks.specs.Closing.{HasAllNumbers, HasEachOnce, IsFree, has_number, has_all_numbers, is_free, are_free, close_check}
use Rattle.port_locks.proofs.EachOnce.{all_found, and_true, each_once, number_there, same_number}
use Rattle.std.specs.Prelude.{◌↔◌, Ok, Err, Result, ⊤, if◌then◌else◌}
use Rattle.port_locks.specs.declared.fault.CloseFault.{CloseFault}
use Rattle.port_locks.specs.declared.fault.CloseFault.TheVariants.{WrongSeats, Owned}
use Rattle.port_locks.specs.Seats.{SeatView}

or_true : (a b : Bool) → (a || b) ≡ true → (a ≡ true) ⊎ (b ≡ true)
or_true true b e = inl refl
or_true false b e = inr e

any_at : {X : Type 0} (p : X → Bool) (xs : List X) → list_any p xs ≡ true
    → (k : ℕ) × (k < length xs) × ((d : X) → p (get_or xs k d) ≡ true)
any_at p [] e = absurd (true≢false (sym e))
any_at p (x ∷ xs) e =
    ⊎_elim
    (λ (here : p x ≡ true). (zero, omega arith, λ d. here))
    (λ (later : list_any p xs ≡ true).
    let r = any_at p xs later in (suc r.0, (let less = r.1 in omega arith), r.2))
    (or_true (p x) (list_any p xs) e)

abbrev outcome : Bool → Bool → Bool → Result ⊤ CloseFault
outcome a b c = if a && b then (if c then Ok tt else Err Owned) else Err WrongSeats

passed : (a b c : Bool)
    → outcome a b c ≡ Ok tt
    → b ≡ true
passed true true c e = refl
passed true false c e = absurd (cc e)
passed false b c e = absurd (cc e)

both_passed : (a b c : Bool) → outcome a b c ≡ Ok tt → (a && b) ≡ true
both_passed true true c e = refl
both_passed true false c e = absurd (cc e)
both_passed false b c e = absurd (cc e)

wrong_where_failed : (a b c : Bool) (why : CloseFault) → outcome a b c ≡ Err why
    → (why ≡ WrongSeats ↔ ¬ ((a && b) ≡ true))
wrong_where_failed true true true why e = absurd (cc e)
wrong_where_failed true true false why e = (λ is. absurd (cc (e, is)), λ never. absurd (never refl))
wrong_where_failed true false c why e = (λ is both. true≢false (sym both), λ never. cc e)
wrong_where_failed false b c why e = (λ is both. true≢false (sym both), λ never. cc e)

module _ {V : Type 0} (seats : List (SeatView V)) where
  pub numbers_there : (cores : ℕ) → has_all_numbers cores seats ≡ true → HasAllNumbers cores seats
  numbers_there cores e number less =
      let there = number_there (λ (seat : SeatView V). seat.number) cores seats e number less in
      let r = any_at (λ (seat : SeatView V). seat.number == number) seats there in
      (r.0, r.1, λ d. same_number (get_or seats r.0 d).number number (r.2 d))

  pub check_passed : (cores : ℕ) → close_check cores seats ≡ Ok tt → HasAllNumbers cores seats
  check_passed cores e =
      numbers_there cores
      (passed (length seats == cores) (has_all_numbers cores seats) (are_free seats) e)

  pub check_once : (cores : ℕ) → close_check cores seats ≡ Ok tt → HasEachOnce cores seats
  check_once cores e =
      each_once (λ (seat : SeatView V). seat.number) cores seats
      (both_passed (length seats == cores) (has_all_numbers cores seats) (are_free seats) e)

  pub wrong_seats : (cores : ℕ) (why : CloseFault) → close_check cores seats ≡ Err why
      → (why ≡ WrongSeats ↔ ¬ HasEachOnce cores seats)
  wrong_seats cores why e =
      let w =
      wrong_where_failed (length seats == cores) (has_all_numbers cores seats) (are_free seats)
      why e in (
        λ is once. w.0 is (all_found (λ (seat : SeatView V). seat.number) cores seats once),
        λ never. w.1 (λ both. never (each_once (λ (seat : SeatView V). seat.number) cores seats both)),
      )

  pub all_free : are_free seats ≡ true → All IsFree seats
  all_free e k d l =
      let both = AllPass-from_list_all is_free seats e k d l in
      let seat = get_or seats k d in
      let parts = and_true (seat.task_depth == 0) (seat.interrupt_depth == 0) both in
      (same seat.task_depth parts.0, same seat.interrupt_depth parts.1)
    where
      same : (m : ℕ) → (m == 0) ≡ true → m ≡ 0
      same m is = grind (arith, nat_tests)
