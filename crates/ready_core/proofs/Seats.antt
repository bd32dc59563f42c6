-- Words of bits, and the cores that have a task.
use Rattle.std.proofs.Common.{◌≡◌, ℕ, ◌*◌, ◌<◌, ◌≤◌, ◌%◌, ◌^◌, Bool, true, false, not, eqb, ltb, ◌&&◌, List, [], ◌∷◌, length, None, is_some, bit_and, bit_or}
use Rattle.std.proofs.Common.{w32, min, refl, sym, ap, ◌∙◌, arith, inl, inr}
use Rattle.std.specs.Int.{bit_at, bit_not}
use Rattle.std.specs.List.{find, list_any, AllByRecursion}
use Rattle.std.proofs.lemmas.Bool.{cases_eq, cases_lt}
use Rattle.std.proofs.lemmas.Bool.Decides.{nat_tests}
use Rattle.std.proofs.lemmas.Nat.Bits.{bit_at_and, bit_at-zero, bit_at-lt, bit_at_set_same, bit_at_clear_same, bit_at_clear_other, same_from_bits}
use Rattle.list_orders.specs.Search.{numbers, has}
use Rattle.list_orders.proofs.Filters.{All-weaker}
use Rattle.list_orders.proofs.Stamped.{numbers_below, numbers_have}
use Rattle.bench_model.specs.Control.{Control, core_at, current, runs_on}
use Rattle.bench_model.specs.Seek.{is_running}
use Rattle.bench_model.specs.Tally.{is_current}
use Rattle.ready_core.specs.Fields.{is_set}

-- one bit is cleared, and the others stay
pub bit_cleared : (a place c : ℕ) → place < 32 → (32 ≤ c → is_set a c ≡ false) → is_set (bit_and a (bit_not w32 (1 * 2 ^ place % 4294967296))) c ≡
    (not (eqb c place) && is_set a c)
bit_cleared a place c word far = elim (cases_eq c place) [
  | inl here ↦ rw here (ap (λ d. eqb d 1) (bit_at_clear_same w32 a place word) ∙ grind (arith, nat_tests))
  | inr away ↦ elim (cases_lt c 32) [
    | inl low ↦ ap (λ d. eqb d 1) (bit_at_clear_other w32 a place word c low away) ∙ grind (arith, nat_tests, away)
    | inr over ↦
        let mask = bit_not w32 (1 * 2 ^ place % 4294967296) in
        let off = far over in
        let both : bit_at (bit_and a mask) c ≡ 0 = beyond (bit_at a c) (bit_at mask c) (bit_at-lt a c) off (bit_at_and a mask c) in
        ap (λ d. eqb d 1) both ∙ grind (arith, nat_tests, off)
  ]
]
  where
    beyond : {z : ℕ} (x y : ℕ) → x < 2 → eqb x 1 ≡ false → z ≡ min x y → z ≡ 0
    beyond x y low off is = let zero_bit : x ≡ 0 = grind (arith, nat_tests, low, off) in omega (arith, zero_bit, is)

none_any : (q : ℕ → Bool) (ns : List ℕ) → AllByRecursion (λ c. q c ≡ false) ns → list_any q ns ≡ false
none_any q [] all = refl
none_any q (n ∷ ns) all = grind (arith, all.0, none_any q ns all.1)

none_found : (q : ℕ → Bool) (ns : List ℕ) → AllByRecursion (λ c. q c ≡ false) ns → find q ns ≡ None
none_found q [] all = refl
none_found q (n ∷ ns) all = rw all.0 (none_found q ns all.1)

any_none : (q : ℕ → Bool) (c : ℕ) (ns : List ℕ) → list_any q ns ≡ false → has c ns ≡ true → q c ≡ false
any_none q c [] none there = absurd (cc (there))
any_none q c (n ∷ ns) none there = elim (cases_eq n c) [
  | inl same ↦ ap q (sym same) ∙ grind (arith, none)
  | inr away ↦ any_none q c ns (grind (arith, none)) (grind (arith, nat_tests, there, away))
]

-- some bit is set where some core passes
pub some_bit : (w n : ℕ) (q : ℕ → Bool) → ((c : ℕ) → is_set w c ≡ (ltb c n && q c)) → not (eqb w 0) ≡ list_any q (numbers n)
some_bit w n q bits = at (list_any q (numbers n)) refl
  where
    no_core : w ≡ 0 → (c : ℕ) → c < n → q c ≡ false
    no_core zero_word c low =
        let off : is_set w c ≡ false = ap (λ m. is_set m c) zero_word ∙ ap (λ d. eqb d 1) (bit_at-zero c) ∙ grind (arith, nat_tests) in
        grind (arith, nat_tests, off, bits c, low)

    no_bit : list_any q (numbers n) ≡ false → (c : ℕ) → bit_at w c ≡ bit_at 0 c
    no_bit none c =
        let off : is_set w c ≡ false = elim (cases_lt c n) [
          | inl low ↦ grind (arith, nat_tests, bits c, any_none q c (numbers n) none (numbers_have n c low))
          | inr over ↦ grind (arith, nat_tests, bits c, over)
        ] in
        grind (arith, nat_tests, off, bit_at-lt w c, bit_at-zero c)

    at : (b : Bool) → list_any q (numbers n) ≡ b → not (eqb w 0) ≡ b
    at true any = elim (cases_eq w 0) [
      | inl zero_word ↦ absurd (cc (any, none_any q (numbers n) (All-weaker (λ c. c < n) (λ c. q c ≡ false) (no_core zero_word) (numbers n) (numbers_below n))))
      | inr some ↦ grind (arith, nat_tests, some)
    ]
    at false none = let zero_word = same_from_bits w 0 (no_bit none) in grind (arith, nat_tests, zero_word)

-- a task that is the current one of no core does not run
pub not_running : (control : Control) (task : ℕ) → is_current control task ≡ false → is_running control task ≡ false
unfolding runs_on
not_running control task none =
    ap is_some (none_found (λ c. eqb (current control c) task && not (core_at control c).asked) (numbers (length control.cores))
    (All-weaker (λ c. c < length control.cores) (λ c. (eqb (current control c) task && not (core_at control c).asked) ≡ false) idle
    (numbers (length control.cores)) (numbers_below (length control.cores))))
  where
    idle : (c : ℕ) → c < length control.cores → (eqb (current control c) task && not (core_at control c).asked) ≡ false
    idle c low = ap (λ b. b && not (core_at control c).asked) (any_none (λ core. eqb (current control core) task) c (numbers (length control.cores)) none
        (numbers_have (length control.cores) c low))

-- a word with a bit that is set is not 0
pub bit_there : (b place : ℕ) → place < 32 → eqb (bit_or b (1 * 2 ^ place % 4294967296)) 0 ≡ false
bit_there b place low = elim (cases_eq (bit_or b (1 * 2 ^ place % 4294967296)) 0) [
  | inl none ↦
      let on : is_set (bit_or b (1 * 2 ^ place % 4294967296)) place ≡ true = ap (λ d. eqb d 1) (bit_at_set_same w32 b place low) ∙ grind (arith, nat_tests) in
      let off : is_set (bit_or b (1 * 2 ^ place % 4294967296)) place ≡ false = ap (λ m. is_set m place) none ∙ ap (λ d. eqb d 1) (bit_at-zero place) ∙ grind
      (arith, nat_tests) in
      absurd (cc (on, off))
  | inr some ↦ grind (arith, nat_tests, some)
]
