-- What rows say of tasks, with one task more.
use Rattle.std.proofs.Common.{◌≡◌, ℕ, zero, suc, List, [], ◌∷◌, ◌++◌, length, map, refl, sym, ap, ◌∙◌, ◌⊎◌, inl, inr, ⊎_elim}
use Rattle.std.specs.Prelude.{Some, slice_get}
use Rattle.std.proofs.lemmas.List.{length-map, map-append}
use Rattle.std.proofs.lemmas.Option.{same_Some}
use Rattle.bench_types.specs.declared.header.Header.{Header}
use Rattle.bench_types.specs.Header.{name_of}
use Rattle.bench_commands.specs.Lines.{AreLabels}
use Rattle.program_io.specs.Refusal.{spaced}

got_more : {X : Type 0} (xs : List X) (x y : X) (k : ℕ) → slice_get (xs ++ x ∷ []) k ≡ Some y → (slice_get xs k ≡ Some y) ⊎ ((k ≡ length xs) × (y ≡ x))
got_more [] x y zero found = inr (refl, sym (same_Some x y found))
got_more [] x y (suc k) found = absurd (cc found)
got_more (first ∷ xs) x y zero found = inl found
got_more (first ∷ xs) x y (suc k) found =
    ⊎_elim (λ (there : slice_get xs k ≡ Some y). inl there) (λ (last : (k ≡ length xs) × (y ≡ x)). inr (ap suc last.0, last.1)) (got_more xs x y k found)

pub labels_more : {X : Type 0} (bytes : X → List ℕ) (header : Header) (texts more : List X) (text : X) → more ≡ texts ++ text ∷ [] → bytes text ≡ spaced
    (name_of header (length texts)) → AreLabels header (map bytes texts) → AreLabels header (map bytes more)
labels_more bytes header texts more text are named labels = λ task label found.
    let there = ap (λ (xs : List _). slice_get (map bytes xs) task) are ∙ ap (λ (xs : List (List ℕ)). slice_get xs task) (map-append bytes texts (text ∷ [])) in
    ⊎_elim (λ (old : slice_get (map bytes texts) task ≡ Some label). labels task label old)
    (λ (last : (task ≡ length (map bytes texts)) × (label ≡ bytes text)).
    last.1 ∙ named ∙ ap (λ n. spaced (name_of header n)) (sym (last.0 ∙ length-map texts bytes)))
    (got_more (map bytes texts) (bytes text) label task (sym there ∙ found))
