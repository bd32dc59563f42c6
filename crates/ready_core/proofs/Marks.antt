-- Which cores are due, as bits.
use Rattle.std.proofs.Common.{◌≡◌, ◌≢◌, ℕ, ◌*◌, ◌-◌, ◌<◌, ◌≤◌, ◌%◌, ◌^◌, Bool, true, false, cond, min, eqb, ◌||◌, List, [], length, map, bit_and, bit_or, w32}
use Rattle.std.proofs.Common.{refl, sym, ap, subst, ◌∙◌, arith, inl, inr}
use Rattle.std.specs.Prelude.{slice_set}
use mir.Val.{bool_byte}
use Rattle.std.specs.Int.{bit_at, bit_not, trailing_zeros}
use Rattle.std.proofs.lemmas.Bool.{cases_eq, cases_lt}
use Rattle.std.proofs.lemmas.Bool.Decides.{nat_tests}
use Rattle.std.proofs.lemmas.List.{length-set, set-get_or, get_or-set_same, get_or-set_other}
use Rattle.std.proofs.lemmas.List.FromFn.{get_or-map-range_with_len, length-map-range_with_len}
use Rattle.std.proofs.lemmas.Nat.{and_le_l}
use Rattle.std.proofs.lemmas.Nat.Bits.{bit_at_and, bit_at-lt, bit_at_set_same, bit_at_set_other, bit_at_ones, bit_at_ones_above, bit_at-trailing_zeros}
use Rattle.bench_types.specs.declared.kernel_data.CoreLook.{CoreLook}
use Rattle.list_orders.specs.Search.{numbers}
use Rattle.bench_model.specs.Control.{core_at, is_due, asked_by}
use Rattle.bench_model.specs.Start.{first_look}
use Rattle.ready_core.specs.Fields.{control_from, is_set}
use Rattle.ready_core.specs.Shape.{IsMarked}
use Rattle.ready_core.proofs.Seats.{bit_cleared}

abbrev pub no_look : CoreLook
no_look = record { current = 0; pend = false; asked = false }

module _ (cores : List CoreLook) (undue : ℕ) (marks : IsMarked cores undue) (few : length cores ≤ 32) where
  pub undue_far : (c : ℕ) → 32 ≤ c → is_set undue c ≡ false
  undue_far c over = marks.at_bit c ∙ grind (arith, nat_tests, over, few)

  module _ (core : ℕ) (low : core < length cores) (look : CoreLook) where
    abbrev now : List CoreLook
    now = slice_set cores core look

    size : length now ≡ length cores
    size = length-set cores core look

    here : is_due (control_from now []) core ≡ (look.pend || look.asked)
    here = ap (λ (at : CoreLook). at.pend || at.asked) (get_or-set_same cores core look no_look low)

    away : (c : ℕ) → c ≢ core → is_due (control_from now []) c ≡ is_due (control_from cores []) c
    away c apart = ap (λ (at : CoreLook). at.pend || at.asked) (get_or-set_other cores core c look no_look apart)

    -- the core is due now
    pub marks_due : (look.pend || look.asked) ≡ true → IsMarked now (bit_and undue (bit_not w32 (1 * 2 ^ core % 4294967296)))
    marks_due due = record {
      at_bit = λ c. bit_cleared undue core c (omega (arith, low, few)) (undue_far c) ∙ elim (cases_eq c core) [
        | inl same ↦ rw same (grind (arith, nat_tests, here, due))
        | inr apart ↦ grind (arith, nat_tests, apart, marks.at_bit c, away c apart, size)
      ];
    }

    -- the core is due no more
    pub marks_free : (look.pend || look.asked) ≡ false → IsMarked now (bit_or undue (1 * 2 ^ core % 4294967296))
    marks_free free = record {
      at_bit = λ c. elim (cases_eq c core) [
        | inl same ↦ rw same (ap (λ b. eqb b 1) (bit_at_set_same w32 undue core (omega (arith, low, few))) ∙ grind (arith, nat_tests, here, free, low, size))
        | inr apart ↦ ap (λ b. eqb b 1) (bit_at_set_other w32 undue core (omega (arith, low, few)) c apart) ∙ grind
            (arith, nat_tests, marks.at_bit c, away c apart, size)
      ];
    }

  -- the core is asked where that is so
  pub marks_asked : (b : Bool) (core : ℕ) → core < length cores → (look : CoreLook) → look ≡ core_at (control_from cores []) core → IsMarked
      (slice_set cores core (cond b (asked_by 0 core look) look)) (bit_and undue (bit_not w32 (bool_byte b * 2 ^ core % 4294967296)))
  marks_asked true core low look is = marks_due core low (asked_by 0 core look) (at (eqb core 0))
    where
      at : (d : Bool) → ((cond d (record look { pend = true }) (record look { asked = true })).pend ||
          (cond d (record look { pend = true }) (record look { asked = true })).asked) ≡ true
      at true = refl
      at false = grind arith
  marks_asked false core low look is = subst (λ (looks : List CoreLook). IsMarked looks (bit_and undue (bit_not w32 (0 * 2 ^ core % 4294967296)))) unchanged
      (record { at_bit = λ c. all_kept c ∙ marks.at_bit c })
    where
      unchanged : cores ≡ slice_set cores core look
      unchanged = sym (set-get_or cores core no_look) ∙ ap (slice_set cores core) (sym is)

      no_bit : 0 * 2 ^ core % 4294967296 ≡ 0
      no_bit = omega arith

      kept_bit : {z : ℕ} (x y : ℕ) → x < 2 → y ≡ 1 → z ≡ min x y → z ≡ x
      kept_bit x y small one is = omega (arith, small, one, is)

      off_bit : {z : ℕ} (x y : ℕ) → x < 2 → eqb x 1 ≡ false → z ≡ min x y → z ≡ x
      off_bit x y small off is = let none : x ≡ 0 = grind (arith, nat_tests, small, off) in omega (arith, none, is)

      all_kept : (c : ℕ) → is_set (bit_and undue (bit_not w32 (0 * 2 ^ core % 4294967296))) c ≡ is_set undue c
      all_kept c = ap (λ m. is_set (bit_and undue (bit_not w32 m)) c) no_bit ∙ ap (λ b. eqb b 1) (elim (cases_lt c 32) [
        | inl low_bit ↦ kept_bit (bit_at undue c) (bit_at (2 ^ 32 - 1) c) (bit_at-lt undue c) (bit_at_ones 32 c low_bit) (bit_at_and undue (2 ^ 32 - 1) c)
        | inr over ↦ off_bit (bit_at undue c) (bit_at (2 ^ 32 - 1) c) (bit_at-lt undue c) (undue_far c over) (bit_at_and undue (2 ^ 32 - 1) c)
      ])

-- at the start no core is due
pub first_marks : (n : ℕ) → n ≤ 32 → IsMarked (map first_look (numbers n)) (2 ^ n - 1)
first_marks n few = record {
  at_bit = λ c. elim (cases_lt c n) [
    | inl low ↦
        let look = ap (λ (at : CoreLook). at.pend || at.asked) (get_or-map-range_with_len first_look 0 n c c no_look low (omega arith)) in
        ap (λ b. eqb b 1) (bit_at_ones n c low) ∙ grind (arith, nat_tests, low, look, length-map-range_with_len first_look 0 n)
    | inr over ↦ ap (λ b. eqb b 1) (bit_at_ones_above n c over) ∙ grind (arith, nat_tests, over, length-map-range_with_len first_look 0 n)
  ];
}

-- a word without its bit is less
pub less_bits : (rest core : ℕ) → core < 32 → is_set rest core ≡ true → bit_and rest (bit_not w32 (1 * 2 ^ core % 4294967296)) < rest
less_bits rest core low on = elim (cases_eq (bit_and rest (bit_not w32 (1 * 2 ^ core % 4294967296))) rest) [
  | inl same ↦
      let off : is_set (bit_and rest (bit_not w32 (1 * 2 ^ core % 4294967296))) core ≡ false = bit_cleared rest core core low
      (λ over. absurd (omega (arith, low, over))) ∙ grind (arith, nat_tests) in
      absurd (cc (off, ap (λ n. is_set n core) same ∙ on))
  | inr apart ↦ omega (arith, apart, and_le_l rest (bit_not w32 (1 * 2 ^ core % 4294967296)))
]

-- a core that is asked keeps its task
pub asked_current : (b : Bool) (core : ℕ) (look : CoreLook) → (cond b (asked_by 0 core look) look).current ≡ look.current
asked_current false core look = refl
asked_current true core look = at (eqb core 0)
  where
    at : (d : Bool) → (cond d (record look { pend = true }) (record look { asked = true })).current ≡ look.current
    at true = refl
    at false = refl

-- the lowest bit of a word that is not 0
pub lowest_bit : (rest : ℕ) → rest ≢ 0 → rest < 2 ^ 32 → (trailing_zeros w32 rest < 32) × (is_set rest (trailing_zeros w32 rest) ≡ true)
lowest_bit rest some word =
    let found = bit_at-trailing_zeros w32 rest (omega (arith, some)) word in
    (found.0, ap (λ b. eqb b 1) found.1 ∙ grind (arith, nat_tests))
