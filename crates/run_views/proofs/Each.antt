-- The changes of items, one item after another.
use Rattle.std.proofs.Common.{◌≡◌, ℕ, ◌+◌, ◌<◌, ◌≤◌, List, [], ◌∷◌, ◌++◌, length, map, drop, get_or, sym, ap, ◌∙◌, arith, append_assoc, add-one}
use Rattle.std.proofs.Math.Seq.{drop-cons}
use Rattle.std.proofs.lemmas.List.{drop_all}
use Rattle.bench_types.specs.declared.note.Notification.{Notification}
use Rattle.run_views.specs.declared.change.Change.{Change}
use Rattle.run_views.specs.declared.change.Change.TheVariants.{Further}
use Rattle.run_views.specs.Changes.{changes_each, further_changes, note_changes}

module _ {X C : Type 0} (of_item : ℕ → C → Change) (changes : X → X → List C) where
  -- the changes of the items from one on
  abbrev pub changes_from : ℕ → List X → List X → List Change
  changes_from i olds news = changes_each of_item changes i (drop i olds) (drop i news)

  -- the changes of an item that both lists have, and then those of the items after it
  pub item_named : (i : ℕ) (olds news : List X) (d e : X) (before after all : List Change) → i < length olds → i < length news → after ≡ before ++ map
      (of_item i) (changes (get_or olds i d) (get_or news i e)) → before ++ changes_from i olds news ≡ all → after ++ changes_from (i + 1) olds news ≡ all
  item_named i olds news d e before after all early there named were =
      let here : changes_from i olds news ≡ map (of_item i) (changes (get_or olds i d) (get_or news i e)) ++ changes_from (i + 1) olds news =
      rw (add-one, drop-cons olds i d early, drop-cons news i e there) in
      ap (λ some. some ++ changes_from (i + 1) olds news) named
      ∙ append_assoc before (map (of_item i) (changes (get_or olds i d) (get_or news i e))) (changes_from (i + 1) olds news)
      ∙ ap (λ some. before ++ some) (sym here) ∙ were

  ended : (number : ℕ) (olds : List X) → changes_each of_item changes number olds [] ≡ []
  ended number [] = λ i. []
  ended number (old ∷ olds) = λ i. []

  -- no change of an item that the second list has not
  pub item_missing : (i : ℕ) (olds news : List X) (before after all : List Change) → length news ≤ i → after ≡ before → before ++ changes_from i olds news ≡ all
      → after ++ changes_from (i + 1) olds news ≡ all
  item_missing i olds news before after all past kept were =
      let later : length news ≤ i + 1 = omega arith in
      let none : changes_from i olds news ≡ [] = ap (λ rest. changes_each of_item changes i (drop i olds) rest) (drop_all i news past) ∙ ended i (drop i olds)
      in
      let no_more : changes_from (i + 1) olds news ≡ [] = ap (λ rest. changes_each of_item changes (i + 1) (drop (i + 1) olds) rest)
      (drop_all (i + 1) news later) ∙ ended (i + 1) (drop (i + 1) olds) in
      cc (were, kept, none, no_more)

-- the changes of the notifications from the index behind one on
abbrev pub further_from : ℕ → List (List Notification) → List (List Notification) → List Change
further_from i olds news = further_changes (i + 1) (drop i olds) (drop i news)

pub further_named : (i : ℕ) (olds news : List (List Notification)) (d e : List Notification) (before after all : List Change) → i < length olds → i < length
    news → after ≡ before ++ changes_each (Further (i + 1)) note_changes 0 (get_or olds i d) (get_or news i e) → before ++ further_from i olds news ≡ all →
    after ++ further_from (i + 1) olds news ≡ all
further_named i olds news d e before after all early there named were =
    let here : further_from i olds news ≡ changes_each (Further (i + 1)) note_changes 0 (get_or olds i d) (get_or news i e) ++ further_from (i + 1) olds news =
    rw (add-one, add-one, drop-cons olds i d early, drop-cons news i e there) in
    ap (λ some. some ++ further_from (i + 1) olds news) named
    ∙ append_assoc before (changes_each (Further (i + 1)) note_changes 0 (get_or olds i d) (get_or news i e)) (further_from (i + 1) olds news)
    ∙ ap (λ some. before ++ some) (sym here) ∙ were

none_further : (index : ℕ) (olds : List (List Notification)) → further_changes index olds [] ≡ []
none_further index [] = λ i. []
none_further index (old ∷ olds) = λ i. []

-- no change of notifications that the second look has not
pub further_missing : (i : ℕ) (olds news : List (List Notification)) (before after all : List Change) → length news ≤ i → after ≡ before → before ++
    further_from i olds news ≡ all → after ++ further_from (i + 1) olds news ≡ all
further_missing i olds news before after all past kept were =
    let later : length news ≤ i + 1 = omega arith in
    let none : further_from i olds news ≡ [] = ap (λ rest. further_changes (i + 1) (drop i olds) rest) (drop_all i news past) ∙ none_further (i + 1)
    (drop i olds) in
    let no_more : further_from (i + 1) olds news ≡ [] = ap (λ rest. further_changes (i + 1 + 1) (drop (i + 1) olds) rest) (drop_all (i + 1) news later) ∙
    none_further (i + 1 + 1) (drop (i + 1) olds) in
    cc (were, kept, none, no_more)
