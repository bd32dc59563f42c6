-- The names of the figures of a run are all different.
use Rattle.std.proofs.Common.{◌≡◌, ℕ, Bool, true, false, List, [], ◌∷◌, ◌++◌, map, flat_map, Option, Some, None, refl, sym, ap, ap₂, subst, ◌∙◌}
use Rattle.std.specs.Prelude.{if◌then◌else◌, Ok}
use Rattle.std.specs.List.{AllByRecursion}
use Rattle.std.proofs.lemmas.List.{map-append}
use Rattle.list_orders.proofs.Filters.{All-weaker}
use Rattle.bench_types.specs.declared.header.Header.{Header}
use Rattle.bench_types.specs.Header.{header_check}
use Rattle.run_numbers.specs.declared.subject.Measured.{Measured}
use Rattle.run_numbers.specs.declared.subject.Subject.{Subject}
use Rattle.report_figures.specs.declared.figures.Part.{Part}
use Rattle.report_figures.specs.declared.figures.Part.TheVariants.{Total, Longest}
use Rattle.report_figures.specs.declared.figures.Figure.{Figure}
use Rattle.report_figures.specs.Figures.{figures_in, has_longest, has_total, stretch_in, total_in}
use Rattle.report_figures.specs.NameLaws.{NamesAreDifferent, names_of_figures}
use Rattle.report_figures.specs.Names.{figure_name}
use Rattle.report_figures.specs.Subjects.{subjects_of}
use Rattle.report_figures.proofs.Differences.{Apart, all_flat_map, all_map, apart_flat_map, apart_map, apart_pairs}
use Rattle.report_figures.proofs.EachName.{read}
use Rattle.report_figures.proofs.NameReading.{figure_named}
use Rattle.report_figures.proofs.SubjectsDiffer.{Fits, once, subjects_differ}
use Rattle.report_figures.proofs.Tokens.{pairs_of, parts_of}

abbrev Pair : Type 0
Pair = Subject × Part

parts_apart : (subject : Subject) → Apart (parts_of subject)
parts_apart subject = at (has_total subject) (has_longest subject)
  where
    at : (total longest : Bool) → Apart ((if total then Total ∷ [] else []) ++ (if longest then Longest ∷ [] else []))
    at true true = (((λ same. absurd (cc same)), tt), (tt, tt))
    at true false = (tt, tt)
    at false true = (tt, tt)
    at false false = tt

module _ (header : Header) where
  abbrev name : Pair → List ℕ
  name pair = figure_name header pair.0 pair.1

  -- the names of what is told of a subject
  abbrev names_of : Subject → List (List ℕ)
  names_of subject = map name (pairs_of subject)

  figure_names : (one : Measured) → map (λ figure. figure_name header figure.subject figure.part) (figures_in one) ≡ names_of one.subject
  figure_names one = at (has_total one.subject) (has_longest one.subject)
    where
      at : (total longest : Bool)
          → map (λ (figure : Figure). figure_name header figure.subject figure.part)
          ((if total then total_in one ∷ [] else []) ++ (if longest then stretch_in one ∷ [] else []))
          ≡ map name (map (λ part. (one.subject, part)) ((if total then Total ∷ [] else []) ++ (if longest then Longest ∷ [] else [])))
      at true true = refl
      at true false = refl
      at false true = refl
      at false false = refl

  all_names : (measured : List Measured) → names_of_figures header measured ≡ map name (flat_map pairs_of (map (λ one. one.subject) measured))
  all_names [] = refl
  all_names (one ∷ measured) =
      map-append (λ (figure : Figure). figure_name header figure.subject figure.part) (figures_in one) (flat_map figures_in measured)
      ∙ ap₂ (λ front back. front ++ back) (figure_names one) (all_names measured)
      ∙ sym (map-append name (pairs_of one.subject) (flat_map pairs_of (map (λ (one : Measured). one.subject) measured)))

  module _ (passes : header_check header ≡ Ok tt) where
    abbrev IsNamed : Pair → List ℕ → Type 0
    IsNamed pair text = figure_named header text ≡ Some pair

    one_pair : (pair other : Pair) (text : List ℕ) → IsNamed pair text → IsNamed other text → pair ≡ other
    one_pair pair other text is also = ap (λ found. or_else found) (sym is ∙ also)
      where
        or_else : Option Pair → Pair
        or_else (Some found) = found
        or_else None = pair

    abbrev IsOf : Subject → Pair → Type 0
    IsOf subject pair = subject ≡ pair.0

    abbrev subjects : List Subject
    subjects = subjects_of header

    own_pairs : (subject : Subject) → AllByRecursion (IsOf subject) (pairs_of subject)
    own_pairs subject = all_map (IsOf subject) (λ part. (subject, part)) (parts_of subject) (same (parts_of subject))
      where
        same : (parts : List Part) → AllByRecursion (λ part. subject ≡ subject) parts
        same [] = tt
        same (part ∷ parts) = (refl, same parts)

    pairs_apart : (subject : Subject) → Apart (pairs_of subject)
    pairs_apart subject =
        apart_map (λ (part : Part) (pair : Pair). pair.1 ≡ part) (λ part other pair is also. sym is ∙ also) (λ part. (subject, part)) (parts_of subject)
        (parts_apart subject) (same (parts_of subject))
      where
        same : (parts : List Part) → AllByRecursion (λ part. part ≡ part) parts
        same [] = tt
        same (part ∷ parts) = (refl, same parts)

    read_pairs : (subject : Subject) → Fits header passes subject → AllByRecursion (λ pair. IsNamed pair (name pair)) (pairs_of subject)
    read_pairs subject fit =
        all_map (λ pair. IsNamed pair (name pair)) (λ part. (subject, part)) (parts_of subject) (read header (once header passes) subject fit)

    each_apart : (some : List Subject) → AllByRecursion (λ subject. Apart (pairs_of subject)) some
    each_apart [] = tt
    each_apart (subject ∷ some) = (pairs_apart subject, each_apart some)

    each_own : (some : List Subject) → AllByRecursion (λ subject. AllByRecursion (IsOf subject) (pairs_of subject)) some
    each_own [] = tt
    each_own (subject ∷ some) = (own_pairs subject, each_own some)

    names_apart : Apart (map name (flat_map pairs_of subjects))
    names_apart =
        let all = subjects_differ header passes in
        apart_map IsNamed one_pair name (flat_map pairs_of subjects)
        (apart_flat_map IsOf (λ subject other pair is also. is ∙ sym also) pairs_of subjects all.1 (each_apart subjects) (each_own subjects))
        (all_flat_map (λ pair. IsNamed pair (name pair)) pairs_of subjects
        (All-weaker (Fits header passes) (λ subject. AllByRecursion (λ pair. IsNamed pair (name pair)) (pairs_of subject)) read_pairs subjects all.0))

pub names_are_different : NamesAreDifferent
names_are_different header measured passes is =
    apart_pairs (names_of_figures header measured)
    (subst Apart (sym (all_names header measured ∙ ap (λ subjects. map (name header) (flat_map pairs_of subjects)) is)) (names_apart header passes))
