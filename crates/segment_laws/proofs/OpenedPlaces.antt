-- A session that is opened is cut at each span before its last place.
use Rattle.std.proofs.Common.{◌≡◌, ◌⊎◌, inl, ⊎_elim, ℕ, zero, suc, ◌+◌, ◌*◌, ◌/◌, ◌%◌, ◌<◌, ◌≤◌, max, Bool, true, false, eqb, ◌&&◌, leb, List, [], ◌∷◌, ◌++◌}
use Rattle.std.proofs.Common.{replicate, refl, sym, ap, ap₂, ◌∙◌, arith, suc-mul, div-add-mod'}
use Rattle.std.proofs.Math.Nat.{mul-mod_left, mul-le-mul_right}
use Rattle.std.proofs.lemmas.Bool.{and_parts}
use Rattle.std.proofs.lemmas.Bool.Decides.{nat_tests}
use Rattle.bench_types.specs.Session.{Session}
use Rattle.list_orders.specs.Search.{numbers, has}
use Rattle.list_orders.proofs.Filters.{All-has, has-filter}
use Rattle.list_orders.proofs.Stamped.{numbers_below, numbers_have}
use Rattle.bench_model.specs.Meeting.{last_place, first_checkpoints}
use Rattle.meeting_laws.proofs.Checkpoints.{ascending_are_one, first_fit}
use Rattle.meeting_laws.proofs.Places.{has_first, has_rest}
use Rattle.segment_laws.specs.Segments.{starts}
use Rattle.segment_laws.proofs.Starts.{ArePositive, first_or_rest, parts_ascend, parts_join}

-- ---- parts of one length, and a last one

abbrev opened : ℕ → ℕ → ℕ → List ℕ
opened span full rest = replicate full span ++ rest ∷ []

are_positive : (span full : ℕ) → 1 ≤ span → ArePositive (replicate full span)
are_positive span zero some = tt
are_positive span (suc full) some = (some, are_positive span full some)

opened_at : (k full span rest place : ℕ) → k ≤ full → has (place + k * span) (starts place (opened span full rest)) ≡ true
opened_at zero zero span rest place few =
    let same : place + 0 * span ≡ place = omega arith in
    ap (λ n. has n (starts place (opened span 0 rest))) same ∙ has_first place []
opened_at zero (suc full) span rest place few =
    let same : place + 0 * span ≡ place = omega arith in
    ap (λ n. has n (starts place (opened span (suc full) rest))) same ∙ has_first place (starts (place + span) (opened span full rest))
opened_at (suc k) zero span rest place few = absurd (omega (arith, few))
opened_at (suc k) (suc full) span rest place few =
    let later = starts (place + span) (opened span full rest) in
    let same : place + suc k * span ≡ place + span + k * span = omega (arith, suc-mul k span) in
    has_rest place (place + suc k * span) later (ap (λ n. has n later) same ∙ opened_at k full span rest (place + span) (omega (arith, few)))

opened_found : (n full span rest place : ℕ) → has n (starts place (opened span full rest)) ≡ true → (k : ℕ) × (k ≤ full) × (n ≡ place + k * span)
opened_found n zero span rest place found =
    ⊎_elim
    (λ here. (0, omega arith, omega (arith, here)))
    (λ later. absurd (cc later))
    (first_or_rest place n [] found)
opened_found n (suc full) span rest place found =
    ⊎_elim
    (λ here. (0, omega arith, omega (arith, here)))
    (λ later.
    let by = opened_found n full span rest (place + span) later in
    (suc by.0, omega (arith, by.1), omega (arith, by.2, suc-mul by.0 span)))
    (first_or_rest place n (starts (place + span) (opened span full rest)) found)

-- ---- the session

module _ (span : ℕ) (session : Session) (full rest : ℕ) (some : 1 ≤ span) (short : rest ≤ span) (least : (1 ≤ rest) ⊎ (full ≡ 0))
    (long : full * span + rest ≡ last_place session) where
  abbrev count : ℕ
  count = max 1 (last_place session)

  abbrev test : ℕ → Bool
  test place = eqb (place % span) 0

  below : (k : ℕ) → k ≤ full → k * span < count
  below k few = ⊎_elim
      (λ left. omega (arith, mul-le-mul_right span few, long, left))
      (λ none.
      let nothing : full * span ≡ 0 * span = ap (λ n. n * span) none in
      omega (arith, mul-le-mul_right span few, nothing))
      least

  is_first : (place : ℕ) → has place (starts 0 (opened span full rest)) ≡ true → has place (first_checkpoints span session) ≡ true
  is_first place found =
      let by = opened_found place full span rest 0 found in
      let same : place ≡ by.0 * span = omega (arith, by.2) in
      let multiple : place % span ≡ 0 = ap (λ n. n % span) same ∙ mul-mod_left by.0 span in
      let so : eqb (place % span) 0 ≡ true = grind (arith, nat_tests, multiple) in
      let within : place < count = omega (arith, same, below by.0 by.1) in
      has-filter test place (numbers count) ∙ ap₂ (λ a b. a && b) so (numbers_have count place within)

  is_opened : (place : ℕ) → has place (first_checkpoints span session) ≡ true → has place (starts 0 (opened span full rest)) ≡ true
  is_opened place found =
      let parts = and_parts (test place) (has place (numbers count)) (sym (has-filter test place (numbers count)) ∙ found) in
      let multiple : place % span ≡ 0 = grind (arith, nat_tests, parts.0) in
      let within : place < count = All-has (λ i. i < count) place (numbers count) (numbers_below count) parts.1 in
      let same : place ≡ 0 + place / span * span = omega (arith, multiple, div-add-mod' place span) in
      ap (λ n. has n (starts 0 (opened span full rest))) same ∙ opened_at (place / span) full span rest 0 (few (place / span) (omega (arith, same, within)))
    where
      few : (k : ℕ) → k * span < count → k ≤ full
      few k low = at (leb k full) refl
        where
          at : (b : Bool) → leb k full ≡ b → k ≤ full
          at true is = grind (arith, nat_tests, is)
          at false is =
              let past : suc full ≤ k = grind (arith, nat_tests, is) in
              absurd (omega (arith, mul-le-mul_right span past, suc-mul full span, low, long, short, some))

  pub opened_places : starts 0 (opened span full rest) ≡ first_checkpoints span session
  opened_places =
      ascending_are_one (starts 0 (opened span full rest)) (first_checkpoints span session)
      (parts_ascend 0 (opened span full rest) (parts_join (replicate full span) (rest ∷ []) (are_positive span full some) (inl refl, tt)))
      (first_fit span session some).ascend
      (λ place. (is_first place, is_opened place))
