-- Entries with the verdicts of their changes, put in order, are a ranking.
use Rattle.std.proofs.Common.{◌≡◌, ℕ, zero, suc, ◌<◌, List, [], ◌∷◌, length, get_or, Result, Ok, refl, sym, subst, ap, arith}
use Rattle.std.specs.Prelude.{All, IfOk, IsPermutation}
use Rattle.std.specs.List.{AllZip}
use Rattle.std.specs.declared.alloc.AllocError.{AllocError}
use Rattle.std.proofs.lemmas.List.Sorted.{All-permutation}
use Rattle.run_sources.specs.declared.source.Source.{Source}
use Rattle.run_sources.specs.Sources.{header_of}
use Rattle.ranked_changes.specs.declared.change.Change.{Change}
use Rattle.ranked_changes.specs.declared.change.Change.TheVariants.{Order}
use Rattle.ranked_changes.specs.declared.judge.Judge.{Judge}
use Rattle.ranked_changes.specs.declared.judge.Verdict.{Verdict}
use Rattle.ranked_changes.specs.declared.rank.Ranked.{Ranked}
use Rattle.ranked_changes.specs.Changed.{changed}
use Rattle.ranked_changes.specs.Ranking.{AreBestFirst, AreEntries, AreRead, AreVerdicts, IsRanking}
use Rattle.ranked_changes.specs.Verdicts.{IsVerdict}

zip_at : {A B : Type 0} (R : A → B → Type 0) (xs : List A) (ys : List B) → AllZip R xs ys → (k : ℕ) (a : A) (b : B) → k < length xs → R (get_or xs k a)
    (get_or ys k b)
zip_at R [] [] all k a b within = absurd (omega arith)
zip_at R [] (y ∷ ys) all k a b within = absurd all
zip_at R (x ∷ xs) [] all k a b within = absurd all
zip_at R (x ∷ xs) (y ∷ ys) all zero a b within = all.0
zip_at R (x ∷ xs) (y ∷ ys) all (suc k) a b within = zip_at R xs ys all.1 k a b (omega arith)

pub zip_length : {A B : Type 0} (R : A → B → Type 0) (xs : List A) (ys : List B) → AllZip R xs ys → length ys ≡ length xs
zip_length R [] [] all = refl
zip_length R [] (y ∷ ys) all = absurd all
zip_length R (x ∷ xs) [] all = absurd all
zip_length R (x ∷ xs) (y ∷ ys) all = ap suc (zip_length R xs ys all.1)

module _ (judge : Judge) (source : Source) (changes : List Change) (verdicts : List (Result Verdict AllocError)) where
  entries_are : (entries : List Ranked) → AreVerdicts judge source changes verdicts → AreRead (header_of source) changes verdicts entries → length entries ≡ length
      changes
      → AreEntries judge source changes entries
  entries_are entries judged read count = record {
    count = count;
    each = λ place made entry within.
        let there : place < length entries = omega arith in
        record {
          verdict = subst (λ (verdict : Result Verdict AllocError). IfOk verdict (IsVerdict judge (changed source (get_or changes place made))))
              (read.judged place (Ok entry.verdict) entry there)
              (zip_at _ changes verdicts judged place made (Ok entry.verdict) within);
          size = read.sizes place made entry there;
          index = read.indexes place entry there;
        };
  }

  pub ranking : (entries ranked : List Ranked) → AreVerdicts judge source changes verdicts → AreRead (header_of source) changes verdicts entries → length entries ≡
      length changes
      → IsPermutation entries ranked → AreBestFirst ranked → IsRanking judge source changes ranked
  ranking entries ranked judged read count moved ordered = record {
    entries = entries;
    judged = entries_are entries judged read count;
    moved = moved;
    ordered = ordered;
  }

-- each entry has its change
pub places_there : (judge : Judge) (source : Source) (changes : List Change) (ranked : List Ranked) → IsRanking judge source changes ranked → All
    (λ entry. entry.index < length changes) ranked
places_there judge source changes ranked is =
    All-permutation (λ (entry : Ranked). entry.index < length changes) is.entries ranked is.moved
    (λ place entry within.
    let there : place < length changes = omega (arith, is.judged.count) in
    subst (λ (index : ℕ). index < length changes) (sym (is.judged.each place some entry there).index) there)
  where
    some : Change
    some = Order 0 0
