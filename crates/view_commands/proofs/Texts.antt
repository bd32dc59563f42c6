-- Texts that are lent, and what they are.
use Rattle.std.proofs.Common.{◌≡◌, ◌∙◌, ◌==◌, ◌&&◌, ◌||◌, ◌++◌, ℕ, List, [], ◌∷◌, Bor, Bool, false, length, map, flat_map, bytes_eq, refl, sym, ap, ap₂}
use Rattle.std.proofs.Common.{if◌then◌else◌}
use Rattle.std.specs.List.{list_all, list_any}
use Rattle.std.proofs.lemmas.List.Folds.{flat_map-map, list_all-map}
use Rattle.std.proofs.lemmas.List.{length-map}
use Rattle.clap.specs.Words.{Text}
use Rattle.report_figures.specs.declared.limits.Bound.TheVariants.{AtMost, AtLeast}
use Rattle.session_reports.specs.Asked.{Asked}
use Rattle.view_commands.specs.Families.{has_word, is_family}
use Rattle.view_commands.specs.Options.{are_limits, is_limit, limits_from}

-- what is lent
abbrev now : Bor Text → Text
now text = text.now

-- limits that are lent
pub lent_are_limits : (most least : List (Bor Text)) (some more : List Text) → map now most ≡ some → map now least ≡ more
    → (if length most == 0 && length least == 0 then false else (list_all (λ (t : Bor Text). is_limit t.now) most && list_all (λ (t : Bor Text). is_limit t.now)
    least)) ≡ are_limits some more
lent_are_limits most least some more m l =
    ap₂ (λ (n k : ℕ). if n == 0 && k == 0 then false else (list_all (λ (t : Bor Text). is_limit t.now) most && list_all (λ (t : Bor Text). is_limit t.now)
    least)) (sym (length-map most now)) (sym (length-map least now))
    ∙ ap₂ (λ (a b : Bool). if length (map now most) == 0 && length (map now least) == 0 then false else (a && b)) (sym (list_all-map is_limit now most))
    (sym (list_all-map is_limit now least))
    ∙ ap₂ are_limits m l

pub lent_limits : (most least : List (Bor Text)) (some more : List Text) → map now most ≡ some → map now least ≡ more
    → flat_map (λ (t : Bor Text). limits_from AtMost t.now) most ++ flat_map (λ (t : Bor Text). limits_from AtLeast t.now) least ≡ flat_map (limits_from AtMost)
    some ++ flat_map (limits_from AtLeast) more
lent_limits most least some more m l =
    ap₂ (λ (a b : List Asked). a ++ b) (sym (flat_map-map (limits_from AtMost) now most)) (sym (flat_map-map (limits_from AtLeast) now least))
    ∙ ap₂ (λ (a b : List Text). flat_map (limits_from AtMost) a ++ flat_map (limits_from AtLeast) b) m l

any_lent : (p : Text → Bool) (words : List (Bor Text)) → list_any p (map now words) ≡ list_any (λ (w : Bor Text). p w.now) words
any_lent p [] = refl
any_lent p (w ∷ ws) = ap (λ (b : Bool). p w.now || b) (any_lent p ws)

-- words that are lent
pub lent_families : (words : List (Bor Text)) → list_all (λ (w : Bor Text). is_family w.now) words ≡ list_all is_family (map now words)
lent_families words = sym (list_all-map is_family now words)

pub lent_word : (word : Text) (words : List (Bor Text)) → list_any (λ (w : Bor Text). bytes_eq word w.now) words ≡ has_word word (map now words)
lent_word word words = sym (any_lent (bytes_eq word) words)
