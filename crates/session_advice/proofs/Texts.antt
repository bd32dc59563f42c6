-- The lines of one entry more.
use Rattle.std.proofs.Common.{◌≡◌, ℕ, suc, ◌+◌, ◌<◌, List, [], ◌∷◌, ◌++◌, length, get_or, take, append_assoc, sym, ap, subst, ◌∙◌, arith}
use Rattle.std.specs.List.{concat, enumerate_from, AllZip}
use Rattle.std.proofs.lemmas.List.{append-nil, take_more, length-take}
use Rattle.std.proofs.lemmas.List.Folds.{concat-append}
use Rattle.ranked_changes.specs.declared.change.Change.{Change}
use Rattle.ranked_changes.specs.declared.rank.Ranked.{Ranked}
use Rattle.session_advice.specs.Advice.{AddsEntries, AddsEntry, IsEntryText}
use Rattle.session_advice.specs.Basis.{Basis}

enumerated_more : {X : Type 0} (n : ℕ) (xs : List X) (x : X) → enumerate_from n (xs ++ x ∷ []) ≡ enumerate_from n xs ++ (n + length xs, x) ∷ []
enumerated_more n [] x = let same : n ≡ n + 0 = omega arith in λ i. (same i, x) ∷ []
enumerated_more n (y ∷ xs) x =
    let count : n + 1 + length xs ≡ n + suc (length xs) = omega arith in
    ap (λ rest. (n, y) ∷ rest) (enumerated_more (n + 1) xs x ∙ ap (λ (rank : ℕ). enumerate_from (n + 1) xs ++ (rank, x) ∷ []) count)

zip_more : {X Y : Type 0} (R : X → Y → Type 0) (xs : List X) (ys : List Y) (x : X) (y : Y) → AllZip R xs ys → R x y → AllZip R (xs ++ x ∷ []) (ys ++ y ∷ [])
zip_more R [] [] x y all last = (last, tt)
zip_more R [] (b ∷ ys) x y all last = absurd all
zip_more R (a ∷ xs) [] x y all last = absurd all
zip_more R (a ∷ xs) (b ∷ ys) x y all last = (all.0, zip_more R xs ys x y all.1 last)

module _ (basis : Basis) (changes : List Change) where
  pub no_entries : (text : List ℕ) → AddsEntries basis changes [] text text
  no_entries text = record { texts = []; are = tt; is = sym (append-nil text) }

  pub entry_more : (best : List Ranked) (place : ℕ) (entry : Ranked) (before between after : List ℕ) → place < length best
      → AddsEntries basis changes (take place best) before between
      → AddsEntry basis changes (place + 1) (get_or best place entry) between after
      → AddsEntries basis changes (take (place + 1) best) before after
  entry_more best place entry before between after within so_far next =
      let here : Ranked = get_or best place entry in
      let rank : 1 + length (take place best) ≡ place + 1 = omega (arith, length-take place best) in
      let texts : List (List ℕ) = so_far.texts ++ next.lines ∷ [] in
      let numbered : enumerate_from 1 (take (place + 1) best) ≡ enumerate_from 1 (take place best) ++ (place + 1, here) ∷ [] =
      ap (enumerate_from 1) (take_more best place entry within) ∙ enumerated_more 1 (take place best) here
      ∙ ap (λ (rank : ℕ). enumerate_from 1 (take place best) ++ (rank, here) ∷ []) rank in
      record {
        texts = texts;
        are = subst (λ (ranked : List (ℕ × Ranked)). AllZip (λ ranked text. IsEntryText basis changes ranked.0 ranked.1 text) ranked texts) (sym numbered)
            (zip_more (λ (ranked : ℕ × Ranked) (text : List ℕ). IsEntryText basis changes ranked.0 ranked.1 text) (enumerate_from 1 (take place best))
            so_far.texts (place + 1, here) next.lines so_far.are next.are);
        is = next.is ∙ ap (λ (text : List ℕ). text ++ next.lines) so_far.is ∙ append_assoc before (concat so_far.texts) next.lines
            ∙ ap (λ (lines : List ℕ). before ++ lines) (ap (λ (lines : List ℕ). concat so_far.texts ++ lines) (sym (append-nil next.lines)) ∙ sym
            (concat-append so_far.texts (next.lines ∷ [])));
      }
