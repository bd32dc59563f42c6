-- The first stretch of the greatest length.
use Rattle.std.proofs.Common.{◌≡◌, ℕ, zero, suc, ◌+◌, ◌<◌, ◌≤◌, Bool, true, false, ◌==◌, nat_lt, List, length, refl}
use Rattle.std.proofs.Common.{sym, ap, subst, ◌∙◌, arith, inl, inr}
use Rattle.std.specs.Prelude.{if◌then◌else◌}
use Rattle.std.specs.Option.{option_map_or}
use Rattle.std.proofs.lemmas.Bool.{cases_lt}
use Rattle.std.proofs.lemmas.Bool.Decides.{nat_tests}
use Rattle.bench_types.specs.declared.header.Header.{Header}
use Rattle.bench_types.specs.declared.step.Step.{Step}
use Rattle.run_numbers.specs.declared.subject.Condition.{Condition}
use Rattle.run_numbers.specs.NumberLaws.{time_between, FirstIsTold, IsFirstStretch, IsStretch}
use Rattle.run_numbers.specs.SoFar.{first_top, top}
use Rattle.run_numbers.specs.Stretches.{holds_at, longest_from, longest_stretch, start_at, stretch_at, time_of_step}
use Rattle.run_numbers.proofs.Lawful.{below_top, between_more, between_none, first_top_within, stretch_holds, top_there}
use Rattle.run_numbers.proofs.Places.{find_top, greatest_more}

-- no place before the first one has the greatest number
first_top_first : (f : ℕ → ℕ) (n k : ℕ) → k ≤ n → f k ≡ top f n → first_top f n ≤ k
first_top_first f zero k low is = omega arith
first_top_first f (suc n) k low is = at (nat_lt (top f n) (f (suc n))) refl (first_top_first f n k)
  where
    at : (b : Bool) → nat_lt (top f n) (f (suc n)) ≡ b → (k ≤ n → f k ≡ top f n → first_top f n ≤ k) → (if b then suc n else first_top f n) ≤ k
    at true more before = elim (cases_lt k (suc n)) [
      | inl under ↦ absurd (omega (arith, below_top f n k (omega (arith, under)), greatest_more f (suc n), less_so more, is))
      | inr over ↦ over
    ]
      where
        less_so : nat_lt (top f n) (f (suc n)) ≡ true → top f n < f (suc n)
        less_so is = grind (arith, nat_tests, is)
    at false less before = elim (cases_lt k (suc n)) [
      | inl under ↦ before (omega (arith, under)) (omega (arith, is, greatest_more f (suc n), more_so less))
      | inr over ↦ omega (arith, first_top_within f n, over)
    ]
      where
        more_so : nat_lt (top f n) (f (suc n)) ≡ false → f (suc n) ≤ top f n
        more_so is = grind (arith, nat_tests, is)

module _ (header : Header) (steps : List Step) where
  -- the time of the first place is some of that between
  time_within : (first last : ℕ) → first < last → 0 < time_of_step header steps first → 0 < time_between header steps first last
  time_within first zero early some = absurd (omega (arith, early))
  time_within first (suc last) early some = elim (cases_lt first last) [
    | inl under ↦ omega (arith, between_more header steps first last (omega (arith, under)), time_within first last under some)
    | inr over ↦
        let same : last ≡ first = omega (arith, over, early) in
        omega (arith, between_more header steps first last (omega (arith, early)), ap (time_of_step header steps) same, some)
  ]

  module _ (condition : Condition) where
    -- the time of the stretch at the place is that since this one, at which there was none before
    record Starts (start place : ℕ) : Type 0 where
      pub before : start < place
      pub begins : 0 < time_of_step header steps start
      pub throughout : (other : ℕ) → start ≤ other → other < place → holds_at header steps condition other ≡ true
      pub time : time_between header steps start place ≡ stretch_at header steps condition place
      pub none : stretch_at header steps condition start ≡ 0

    starts : (place : ℕ) → 0 < stretch_at header steps condition place → Starts (start_at header steps condition place) place
    starts zero some = absurd (omega (arith, some))
    starts (suc place) some = at (holds_at header steps condition place) (stretch_at header steps condition place == 0) refl refl (starts place)
      where
        grown : holds_at header steps condition place ≡ true → stretch_at header steps condition (suc place) ≡ stretch_at header steps condition place
            + time_of_step header steps place
        grown holding = rw holding refl

        at : (h e : Bool) → holds_at header steps condition place ≡ h → (stretch_at header steps condition place == 0) ≡ e →
            (0 < stretch_at header steps condition place → Starts (start_at header steps condition place) place) → Starts
            (start_at header steps condition (suc place)) (suc place)
        at true true holding empty before =
            let none : stretch_at header steps condition place ≡ 0 = grind (arith, nat_tests, empty) in
            let here : place ≡ start_at header steps condition (suc place) = rw empty refl in
            let begins : 0 < time_of_step header steps place = omega (arith, grown holding, none, some) in
            subst (λ start. Starts start (suc place)) here (record {
              before = omega arith;
              begins = begins;
              throughout = λ other above below.
                  let same : place ≡ other = omega (arith, above, below) in subst (λ p. holds_at header steps condition p ≡ true) same holding;
              time = omega (arith, between_more header steps place place (omega arith), between_none header steps place, grown holding, none);
              none = none;
            })
        at true false holding full before =
            let some_before : 0 < stretch_at header steps condition place = grind (arith, nat_tests, full) in
            let here : start_at header steps condition place ≡ start_at header steps condition (suc place) = rw full refl in
            let was : Starts (start_at header steps condition place) place = before some_before in
            subst (λ start. Starts start (suc place)) here (record {
              before = omega (arith, was.before);
              begins = was.begins;
              throughout = λ other above below. elim (cases_lt other place) [
                | inl early ↦ was.throughout other above early
                | inr late ↦
                    let same : place ≡ other = omega (arith, late, below) in subst (λ p. holds_at header steps condition p ≡ true) same holding
              ];
              time = omega (
                arith,
                between_more header steps (start_at header steps condition place) place (omega (arith, was.before)),
                was.time,
                grown holding,
              );
              none = was.none;
            })
        at false e holding empty before = absurd (omega (arith, some, fallen))
          where
            fallen : stretch_at header steps condition (suc place) ≡ 0
            fallen = rw holding refl

    -- the first place with the greatest stretch: none with as much time begins before its start
    none_before : 0 < longest_stretch header steps condition →
        let last = first_top (stretch_at header steps condition) (length steps) in
        Starts (start_at header steps condition last) last → (other : ℕ) → IsStretch header steps condition other (longest_stretch header steps condition)
        → start_at header steps condition last ≤ other
    none_before some here other is =
        let stretch = stretch_at header steps condition in
        let last = first_top stretch (length steps) in
        let start = start_at header steps condition last in
        let reached = stretch_holds header steps condition other is.last is.holds.order is.holds.throughout in
        let most = below_top stretch (length steps) is.last is.holds.within in
        let full : stretch is.last ≡ top stretch (length steps) = omega (arith, reached, most, is.lasts) in
        let later : last ≤ is.last = first_top_first stretch (length steps) is.last is.holds.within full in
        elim (cases_lt other start) [
          | inl under ↦
              let counted = time_within other start under is.begins in
              let holding = stretch_holds header steps condition other start (omega (arith, under))
              (λ place above below. is.holds.throughout place above (omega (arith, below, here.before, later))) in
              absurd (omega (arith, counted, holding, here.none))
          | inr over ↦ over
        ]

pub first_is_told : FirstIsTold
first_is_told header steps condition some =
    let stretch = stretch_at header steps condition in
    let last = first_top stretch (length steps) in
    let start = start_at header steps condition last in
    let full : stretch last ≡ longest_stretch header steps condition = top_there stretch (length steps) in
    let told : longest_from header steps condition ≡ start = ap (λ found. option_map_or (start_at header steps condition) found 0)
    (find_top stretch (length steps)) in
    let here : Starts header steps condition start last = starts header steps condition last (omega (arith, full, some)) in
    subst (λ first. IsFirstStretch header steps condition first (longest_stretch header steps condition)) (sym told) (record {
      stretch = record {
        begins = here.begins;
        last = last;
        holds = record { order = omega (arith, here.before); within = first_top_within stretch (length steps); throughout = here.throughout };
        lasts = here.time ∙ full;
      };
      begins = λ earlier holds. omega (arith, stretch_holds header steps condition earlier start holds.order holds.throughout, here.none);
      earliest = none_before header steps condition some here;
    })
