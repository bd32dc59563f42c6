-- The derived order of entries is that of the specification.
use Rattle.std.proofs.Common.{◌≡◌, ◌+◌, ◌<◌, ◌≤◌, List, length, get_or, refl, ap, ap₂, sym, ◌∙◌, arith}
use Rattle.std.specs.Prelude.{IsSorted}
use Rattle.std.specs.Ordering.{is_lt, nat_cmp, ordering_then}
use Rattle.std.specs.declared.cmp.Ordering.{Ordering}
use Rattle.std.proofs.lemmas.List.{get_or_default, get_or-drop, get_or-take, length-drop, length-take}
use Rattle.std.proofs.lemmas.List.Sorted.{ranks_by, sorted_far}
use Rattle.ranked_changes.specs.declared.judge.Verdict.{Verdict}
use Rattle.ranked_changes.specs.declared.judge.Verdict.TheVariants.{Number, TooLong}
use Rattle.ranked_changes.specs.declared.rank.Ranked.{Ranked}
use Rattle.ranked_changes.specs.declared.rank.Size.{Size}
use Rattle.ranked_changes.specs.declared.rank.Size.TheVariants.{Priority, Mask, Order}
use Rattle.ranked_changes.specs.Ranking.{is_before, ranked_cmp, size_cmp, verdict_cmp, AreBestFirst}
use Rattle.ranked_changes.specs.ChangeLaws.{OthersAreNoBetter}
use Rattle.ranked_changes.specs.contracts.judge.VerdictOrd.TheImpl as verdict_ord
use Rattle.ranked_changes.specs.contracts.rank.SizeOrd.TheImpl as size_ord
use Rattle.ranked_changes.specs.contracts.rank.RankedOrd.TheImpl as ranked_ord
use Rattle.ranked_changes.specs.contracts.rank.RankedOrd.TheImpl.Laws.{total-law}

verdicts_same : (one other : Verdict) → verdict_ord.ghosts.cmp one other ≡ verdict_cmp one other
verdicts_same (Number one) (Number other) = refl
verdicts_same (Number one) TooLong = refl
verdicts_same TooLong (Number other) = refl
verdicts_same TooLong TooLong = refl

sizes_same : (one other : Size) → size_ord.ghosts.cmp one other ≡ size_cmp one other
sizes_same (Priority one) (Priority other) = refl
sizes_same (Priority one) (Mask other) = refl
sizes_same (Priority one) Order = refl
sizes_same (Mask one) (Priority other) = refl
sizes_same (Mask one) (Mask other) = refl
sizes_same (Mask one) Order = refl
sizes_same Order (Priority other) = refl
sizes_same Order (Mask other) = refl
sizes_same Order Order = refl

pub entries_same : (one other : Ranked) → ranked_ord.ghosts.cmp one other ≡ ranked_cmp one other
entries_same one other = ap₂ (λ (verdicts sizes : Ordering). ordering_then verdicts (ordering_then sizes (nat_cmp one.index other.index)))
    (verdicts_same one.verdict other.verdict) (sizes_same one.size other.size)

pub best_first : (xs : List Ranked) → IsSorted ranked_ord.ghosts.cmp xs → AreBestFirst xs
best_first xs up i j d earlier within =
    let upto : i ≤ j = omega arith in
    ap is_lt (sym (entries_same (get_or xs j d) (get_or xs i d)))
    ∙ sorted_far (λ x y. is_lt (ranked_ord.ghosts.cmp x y)) (ranks_by total-law (λ x. x)) xs up i j d upto within

pub others_no_better : OthersAreNoBetter
others_no_better ranked best first k d kept m e other =
    let early : k < best = omega (arith, length-take best ranked, kept) in
    let late : best + m < length ranked = omega (arith, length-drop best ranked, other) in
    let within : k < length ranked = omega arith in
    let order : k < best + m = omega arith in
    ap₂ is_before (get_or-drop best ranked m e) (get_or-take best ranked k d early ∙ get_or_default ranked k d e within)
    ∙ first k (best + m) e order late
