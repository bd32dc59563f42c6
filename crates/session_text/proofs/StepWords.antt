-- The words of `do`: what each format has, and what the third alone has.
use Rattle.std.proofs.Common.{◌≡◌, ℕ, List, ◌++◌, Option, Some, None, bytes_eq, option_map, refl, sym, ap, ◌∙◌}
use Rattle.std.specs.List.{find}
use Rattle.std.specs.Option.{option_or}
use Rattle.std.proofs.lemmas.List.Folds.{find-append}
use Rattle.session_text.specs.declared.step.Kind.{Kind}
use Rattle.session_text.specs.Step.{kind_among}

either_kind : (one other : Option (List ℕ × Kind)) → option_or (option_map (λ entry. entry.1) one) (option_map (λ entry. entry.1) other)
    ≡ option_map (λ entry. entry.1) (option_or one other)
either_kind None other = refl
either_kind (Some entry) other = refl

-- a word stands among the first entries or among those behind them
pub kind_of_either : (first others : List (List ℕ × Kind)) (word : List ℕ) → option_or (kind_among first word) (kind_among others word)
    ≡ kind_among (first ++ others) word
kind_of_either first others word =
    let is = λ (entry : List ℕ × Kind). bytes_eq word entry.0 in
    either_kind (find is first) (find is others) ∙ ap (option_map (λ entry. entry.1)) (sym (find-append is first others))
