-- The changes of a source have one ranking alone.
use Rattle.std.proofs.Common.{◌≡◌, ℕ, zero, suc, ◌<◌, Bool, true, false, cond, List, [], ◌∷◌, length, get_or, refl, sym, ap, ◌∙◌, arith}
use Rattle.std.specs.Prelude.{AllPairs}
use Rattle.std.specs.List.{sum_by}
use Rattle.std.specs.Ordering.{is_lt, nat_cmp, ordering_reverse, ordering_then}
use Rattle.std.specs.declared.cmp.Ordering.{Ordering}
use Rattle.std.specs.declared.cmp.Ordering.TheVariants.{Less, Equal, Greater}
use Rattle.std.proofs.lemmas.Bool.Decides.{nat_tests}
use Rattle.std.proofs.lemmas.Cmp.{tied_itself}
use Rattle.std.proofs.lemmas.List.{same_lists}
use Rattle.std.proofs.lemmas.List.Sorted.{sum_by-IsPermutation}
use Rattle.std.proofs.lemmas.List.Sums.{sum_by-cons}
use Rattle.run_sources.specs.declared.source.Source.{Source}
use Rattle.run_sources.proofs.SourceRuns.{source_run_is_one, source_too_long_is_longer}
use Rattle.ranked_changes.specs.declared.change.Change.{Change}
use Rattle.ranked_changes.specs.declared.change.Change.TheVariants.{Order}
use Rattle.ranked_changes.specs.declared.judge.Judge.{Judge}
use Rattle.ranked_changes.specs.declared.judge.Verdict.{Verdict}
use Rattle.ranked_changes.specs.declared.judge.Verdict.TheVariants.{Number, TooLong}
use Rattle.ranked_changes.specs.declared.rank.Ranked.{Ranked}
use Rattle.ranked_changes.specs.declared.rank.Size.{Size}
use Rattle.ranked_changes.specs.declared.rank.Size.TheVariants as size
use Rattle.ranked_changes.specs.ChangeLaws.{RankingsAreOne}
use Rattle.ranked_changes.specs.Changed.{changed}
use Rattle.ranked_changes.specs.Ranking.{is_before, ranked_cmp, size_cmp, verdict_cmp, AreEntries, IsEntry}
use Rattle.ranked_changes.specs.Verdicts.{number_in, IsVerdict}
use Rattle.ranked_changes.specs.contracts.rank.RankedOrd.TheImpl.Laws.{total-law}
use Rattle.ranked_changes.proofs.Orders.{entries_same}

-- ---- lists in order

module _ {X : Type 0} (lt : X → X → Bool) (none : (x : X) → lt x x ≡ false) (same : (x y : X) → lt x y ≡ false → lt y x ≡ false → x ≡ y) where
  -- 1 for an item that passes
  abbrev one_if : (X → Bool) → X → ℕ
  one_if p x = cond (p x) 1 0

  abbrev IsInOrder : List X → Type 0
  IsInOrder xs = AllPairs (λ earlier later. lt later earlier ≡ false) xs

  not_one : (b : Bool) → cond b (suc zero) zero ≡ zero → b ≡ false
  not_one true is = absurd (omega arith)
  not_one false is = refl

  none_ahead : (y : X) (xs : List X) → ((k : ℕ) (d : X) → k < length xs → lt (get_or xs k d) y ≡ false) → sum_by (one_if (λ z. lt z y)) xs ≡ 0
  none_ahead y [] each = refl
  none_ahead y (x ∷ xs) each =
      let first : one_if (λ z. lt z y) x ≡ 0 = ap (λ (b : Bool). cond b 1 0) (each zero x (omega arith)) in
      let rest : sum_by (one_if (λ z. lt z y)) xs ≡ 0 = none_ahead y xs (λ k d within. each (suc k) d (omega arith)) in
      omega (arith, first, rest, sum_by-cons (one_if (λ z. lt z y)) x xs)

  -- none of a list in order comes before its first
  least : (y : X) (ys : List X) → IsInOrder (y ∷ ys) → sum_by (one_if (λ z. lt z y)) (y ∷ ys) ≡ 0
  least y ys up =
      let first : one_if (λ z. lt z y) y ≡ 0 = ap (λ (b : Bool). cond b 1 0) (none y) in
      let rest : sum_by (one_if (λ z. lt z y)) ys ≡ 0 = none_ahead y ys (λ k d within. up zero (suc k) d (omega arith) (omega arith)) in
      omega (arith, first, rest, sum_by-cons (one_if (λ z. lt z y)) y ys)

  not_before : (x y : X) (xs ys : List X) → sum_by (one_if (λ z. lt z y)) (x ∷ xs) ≡ sum_by (one_if (λ z. lt z y)) (y ∷ ys) → IsInOrder (y ∷ ys) → lt x y ≡
      false
  not_before x y xs ys count up =
      not_one (lt x y) (omega (arith, count, least y ys up, sum_by-cons (one_if (λ z. lt z y)) x xs))

  pub one_order : (xs ys : List X) → ((p : X → Bool) → sum_by (one_if p) xs ≡ sum_by (one_if p) ys) → IsInOrder xs → IsInOrder ys → xs ≡ ys
  one_order [] [] counts up too = refl
  one_order [] (y ∷ ys) counts up too = absurd (omega (arith, counts (λ z. true), sum_by-cons (one_if (λ z. true)) y ys))
  one_order (x ∷ xs) [] counts up too = absurd (omega (arith, counts (λ z. true), sum_by-cons (one_if (λ z. true)) x xs))
  one_order (x ∷ xs) (y ∷ ys) counts up too =
      let first : x ≡ y = same x y (not_before x y xs ys (counts (λ z. lt z y)) too) (not_before y x ys xs (sym (counts (λ z. lt z x))) up) in
      let rest : xs ≡ ys = one_order xs ys
      (λ p. omega (arith, counts p, ap (one_if p) first, sum_by-cons (one_if p) x xs, sum_by-cons (one_if p) y ys))
      (λ i j d before within. up (suc i) (suc j) d (omega arith) (omega arith))
      (λ i j d before within. too (suc i) (suc j) d (omega arith) (omega arith)) in
      λ i. first i ∷ rest i

-- ---- entries in order

no_order : (o p : Ordering) → p ≡ ordering_reverse o → is_lt o ≡ false → is_lt p ≡ false → o ≡ Equal
no_order Less p turned low high = absurd cc
no_order Equal p turned low high = refl
no_order Greater p turned low high = absurd cc

tied_parts : (o p : Ordering) → ordering_then o p ≡ Equal → (o ≡ Equal) × (p ≡ Equal)
tied_parts Less p tied = absurd cc
tied_parts Equal p tied = (refl, tied)
tied_parts Greater p tied = absurd cc

same_number : (one other : ℕ) → nat_cmp one other ≡ Equal → one ≡ other
same_number one other tied = grind (arith, nat_tests, tied)

same_verdict : (one other : Verdict) → verdict_cmp one other ≡ Equal → one ≡ other
same_verdict (Number one) (Number other) tied = ap Number (same_number one other tied)
same_verdict (Number one) TooLong tied = absurd cc
same_verdict TooLong (Number other) tied = absurd cc
same_verdict TooLong TooLong tied = refl

same_size : (one other : Size) → size_cmp one other ≡ Equal → one ≡ other
same_size (size.Priority one) (size.Priority other) tied = ap size.Priority (same_number one other tied)
same_size (size.Priority one) (size.Mask other) tied = absurd cc
same_size (size.Priority one) size.Order tied = absurd cc
same_size (size.Mask one) (size.Priority other) tied = absurd cc
same_size (size.Mask one) (size.Mask other) tied = ap size.Mask (same_number one other tied)
same_size (size.Mask one) size.Order tied = absurd cc
same_size size.Order (size.Priority other) tied = absurd cc
same_size size.Order (size.Mask other) tied = absurd cc
same_size size.Order size.Order tied = refl

tied_entries : (one other : Ranked) → ranked_cmp one other ≡ Equal → one ≡ other
tied_entries one other tied =
    let verdicts = tied_parts (verdict_cmp one.verdict other.verdict) (ordering_then (size_cmp one.size other.size) (nat_cmp one.index other.index)) tied in
    let sizes = tied_parts (size_cmp one.size other.size) (nat_cmp one.index other.index) verdicts.1 in
    let verdict = same_verdict one.verdict other.verdict verdicts.0 in
    let size = same_size one.size other.size sizes.0 in
    let index = same_number one.index other.index sizes.1 in
    λ i. record { verdict = verdict i; size = size i; index = index i }

turned : (one other : Ranked) → ranked_cmp other one ≡ ordering_reverse (ranked_cmp one other)
turned one other = sym (entries_same other one) ∙ total-law.antisymm other one ∙ ap ordering_reverse (entries_same one other)

not_before_itself : (entry : Ranked) → is_before entry entry ≡ false
not_before_itself entry = ap is_lt (sym (entries_same entry entry) ∙ tied_itself total-law entry)

neither_before : (one other : Ranked) → is_before one other ≡ false → is_before other one ≡ false → one ≡ other
neither_before one other low high = tied_entries one other (no_order (ranked_cmp one other) (ranked_cmp other one) (turned one other) low high)

-- ---- verdicts

pub verdict_one : (judge : Judge) (source : Source) (one other : Verdict) → IsVerdict judge source one → IsVerdict judge source other → one ≡ other
verdict_one judge source (Number one) (Number other) is too =
    let same : is.0 ≡ too.0 = source_run_is_one source is.0 too.0 is.1 too.1 in ap Number (is.3 ∙ ap (number_in judge) same ∙ sym too.3)
verdict_one judge source (Number one) TooLong is long = absurd (omega (arith, source_too_long_is_longer source is.0 long is.1, is.2))
verdict_one judge source TooLong (Number other) long is = absurd (omega (arith, source_too_long_is_longer source is.0 long is.1, is.2))
verdict_one judge source TooLong TooLong long too = refl

-- ---- rankings

entry_one : (judge : Judge) (source : Source) (place : ℕ) (made : Change) (one other : Ranked) → IsEntry judge source place made one → IsEntry judge source
    place made other → one ≡ other
entry_one judge source place made one other is too =
    let verdict = verdict_one judge (changed source made) one.verdict other.verdict is.verdict too.verdict in
    let size = is.size ∙ sym too.size in
    let index = is.index ∙ sym too.index in
    λ i. record { verdict = verdict i; size = size i; index = index i }

entries_one : (judge : Judge) (source : Source) (changes : List Change) (entries others : List Ranked) → AreEntries judge source changes entries → AreEntries
    judge source changes others → entries ≡ others
entries_one judge source changes entries others are too =
    same_lists entries others (are.count ∙ sym too.count)
    (λ place d within.
    let there : place < length changes = omega (arith, are.count) in
    entry_one judge source place (get_or changes place some) (get_or entries place d) (get_or others place d) (are.each place some d there)
    (too.each place some d there))
  where
    some : Change
    some = Order 0 0

pub rankings_are_one : RankingsAreOne
rankings_are_one judge source changes ranked others is too =
    let same : is.entries ≡ too.entries = entries_one judge source changes is.entries too.entries is.judged too.judged in
    one_order is_before not_before_itself neither_before ranked others
    (λ p.
    let one = one_if is_before not_before_itself neither_before p in
    sum_by-IsPermutation one is.entries ranked is.moved ∙ ap (sum_by one) same ∙ sym (sum_by-IsPermutation one too.entries others too.moved))
    is.ordered too.ordered
