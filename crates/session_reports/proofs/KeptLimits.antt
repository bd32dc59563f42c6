-- When a check is kept, and when a name is unknown.
use Rattle.std.proofs.Common.{◌≡◌, ◌↔◌, ℕ, zero, suc, ◌<◌, Bool, true, false, cond, List, [], ◌∷◌, ◌++◌, length, flat_map, All, Option, Some, None, refl}
use Rattle.std.proofs.Common.{sym, ap, subst, ◌∙◌, arith}
use Rattle.std.specs.Prelude.{find, is_none, slice_index_or, Any, codes}
use Rattle.std.proofs.lemmas.Bool.Decides.{nat_tests}
use Rattle.std.proofs.lemmas.List.{length-append}
use Rattle.std.proofs.lemmas.List.Elements.{All-cons, All-head, All-nil, All-tail}
use Rattle.bench_types.specs.declared.header.Header.{Header}
use Rattle.session_runs.specs.Run.{RunView}
use Rattle.report_figures.specs.declared.figures.Figure.{Figure}
use Rattle.report_figures.specs.declared.limits.Bound.{Bound}
use Rattle.report_figures.specs.declared.limits.Bound.TheVariants.{AtMost, AtLeast}
use Rattle.report_figures.specs.declared.limits.Limit.{Limit}
use Rattle.report_figures.specs.Limits.{bound_text, from_text, is_kept, limit_line, unkept_line, value_text, Keeps}
use Rattle.session_reports.specs.declared.limits.CheckStatus.TheVariants.{Kept, Unknown}
use Rattle.session_reports.specs.Asked.{Asked, Printed}
use Rattle.session_reports.specs.Checks.{check_of, checked, figure_for, is_unknown, kept_or, limit_for, limits_in, printed_of, unkept_lines, KeepsAll, KeepsLimit, NamesUnknown}
use Rattle.session_reports.specs.Figures.{run_figures}

keeps : (bound : Bound) (value : ℕ) → is_kept bound value ≡ true → Keeps bound value
keeps (AtMost most) value is = grind (arith, nat_tests, is)
keeps (AtLeast least) value is = grind (arith, nat_tests, is)

kept_so : (bound : Bound) (value : ℕ) → Keeps bound value → is_kept bound value ≡ true
kept_so (AtMost most) value is = grind (arith, nat_tests, is)
kept_so (AtLeast least) value is = grind (arith, nat_tests, is)

empty_left : (a b : List ℕ) → a ++ b ≡ [] → a ≡ []
empty_left [] b none = refl
empty_left (x ∷ a) b none = cc

empty_right : (a b : List ℕ) → a ++ b ≡ [] → b ≡ []
empty_right [] b none = none
empty_right (x ∷ a) b none = cc

lines_none : (lines : List ℕ) → (kept_or lines).status ≡ Kept → lines ≡ []
lines_none [] is = refl
lines_none (byte ∷ lines) is = cc

lines_known : (lines : List ℕ) → (kept_or lines).status ≡ Unknown → ⊥
lines_known [] is = cc
lines_known (byte ∷ lines) is = cc

module _ (header : Header) (figures : List Figure) where
  some_line : (figure : Figure) (bound : Bound) → 0 < length (unkept_line header figure bound)
  unfolding unkept_line
  some_line figure bound = omega (arith, length-append (value_text header figure ++ bound_text bound ++ from_text figure.from) (codes "\n"))

  kept_empty : (limit : Limit) → limit_line header limit ≡ [] → is_kept limit.bound limit.figure.value ≡ true
  kept_empty limit none = at (is_kept limit.bound limit.figure.value) refl
    where
      at : (b : Bool) → is_kept limit.bound limit.figure.value ≡ b → is_kept limit.bound limit.figure.value ≡ true
      at true is = is
      at false is =
          let line : unkept_line header limit.figure limit.bound ≡ [] = subst (λ b. cond b [] (unkept_line header limit.figure limit.bound) ≡ []) is none in
          absurd (omega (arith, some_line limit.figure limit.bound, ap length line))

  -- ---- kept

  known_kept : (wanted : List Asked) → find (is_unknown header figures) wanted ≡ None → unkept_lines header figures wanted ≡ [] → All (KeepsLimit header figures)
      wanted
  known_kept [] known none = All-nil (KeepsLimit header figures)
  known_kept (asked ∷ wanted) known none = at (figure_for header figures asked) refl (known_kept wanted)
    where
      at : (found : Option Figure) → figure_for header figures asked ≡ found →
          (find (is_unknown header figures) wanted ≡ None → unkept_lines header figures wanted ≡ [] → All (KeepsLimit header figures) wanted)
          → All (KeepsLimit header figures) (asked ∷ wanted)
      at None is later =
          let nameless : Some asked ≡ None =
          subst (λ (o : Option Figure). cond (is_none o) (Some asked) (find (is_unknown header figures) wanted) ≡ None) is known in
          cc
      at (Some figure) is later =
          let limit : Limit = record { figure = figure; bound = asked.bound } in
          let known_later : find (is_unknown header figures) wanted ≡ None =
          subst (λ (o : Option Figure). cond (is_none o) (Some asked) (find (is_unknown header figures) wanted) ≡ None) is known in
          let lines : limit_line header limit ++ unkept_lines header figures wanted ≡ [] =
          subst (λ (o : Option Figure). flat_map (limit_line header) (limit_for asked o ++ flat_map (limits_in header figures) wanted) ≡ []) is none in
          All-cons (KeepsLimit header figures) asked wanted (record {
            figure = figure;
            named = is;
            kept = keeps asked.bound figure.value (kept_empty limit (empty_left (limit_line header limit) (unkept_lines header figures wanted) lines));
          }) (later known_later (empty_right (limit_line header limit) (unkept_lines header figures wanted) lines))

  kept_known : (wanted : List Asked) → All (KeepsLimit header figures) wanted → (find (is_unknown header figures) wanted ≡ None)
      × (unkept_lines header figures wanted ≡ [])
  kept_known [] all = (refl, refl)
  kept_known (asked ∷ wanted) all =
      let first : KeepsLimit header figures asked = All-head (KeepsLimit header figures) asked wanted all in
      let later = kept_known wanted (All-tail (KeepsLimit header figures) asked wanted all) in
      let line : limit_line header (record { figure = first.figure; bound = asked.bound }) ≡ [] = rw (kept_so asked.bound first.figure.value first.kept) refl in (
        subst (λ (o : Option Figure). cond (is_none o) (Some asked) (find (is_unknown header figures) wanted) ≡ None) (sym first.named) later.0,
        subst (λ (o : Option Figure). flat_map (limit_line header) (limit_for asked o ++ flat_map (limits_in header figures) wanted) ≡ []) (sym first.named)
            (ap (λ text. text ++ unkept_lines header figures wanted) line ∙ later.1),
      )

  kept_one : (wanted : List Asked) → ((checked header figures wanted).status ≡ Kept) ↔ All (KeepsLimit header figures) wanted
  kept_one wanted = (
    at (find (is_unknown header figures) wanted) refl,
    λ all.
        let both = kept_known wanted all in
        ap (λ found. (printed_of header figures wanted found).status) both.0 ∙ ap (λ lines. (kept_or lines).status) both.1,
  )
    where
      at : (found : Option Asked) → find (is_unknown header figures) wanted ≡ found → (printed_of header figures wanted found).status ≡ Kept → All
          (KeepsLimit header figures) wanted
      at None is kept = known_kept wanted is (lines_none (unkept_lines header figures wanted) kept)
      at (Some asked) is kept = cc

  -- ---- unknown

  abbrev Nameless : Asked → Type 0
  Nameless asked = figure_for header figures asked ≡ None

  unknown_found : (wanted : List Asked) (unknown : Asked) → find (is_unknown header figures) wanted ≡ Some unknown → Any Nameless wanted
  unknown_found [] unknown found = cc
  unknown_found (asked ∷ wanted) unknown found = at (figure_for header figures asked) refl (unknown_found wanted unknown)
    where
      at : (o : Option Figure) → figure_for header figures asked ≡ o → (find (is_unknown header figures) wanted ≡ Some unknown → Any Nameless wanted)
          → Any Nameless (asked ∷ wanted)
      at None is later = (0, asked, omega arith, refl, is)
      at (Some figure) is later =
          let there = later (subst (λ (o : Option Figure). cond (is_none o) (Some asked) (find (is_unknown header figures) wanted) ≡ Some unknown) is found) in
          let low : there.0 < length wanted = there.2 in
          (suc there.0, there.1, omega (arith, low), there.3, there.4)

  none_unknown : (wanted : List Asked) (k : ℕ) (one : Asked) → find (is_unknown header figures) wanted ≡ None → k < length wanted →
      slice_index_or wanted k one ≡ one → Nameless one → ⊥
  none_unknown [] k one none low there nameless = absurd (omega (arith, low))
  none_unknown (asked ∷ wanted) zero one none low there nameless =
      let unnamed : figure_for header figures asked ≡ None = ap (figure_for header figures) there ∙ nameless in
      let found : Some asked ≡ None =
      subst (λ (o : Option Figure). cond (is_none o) (Some asked) (find (is_unknown header figures) wanted) ≡ None) unnamed none in
      cc
  none_unknown (asked ∷ wanted) (suc k) one none low there nameless = at (figure_for header figures asked) refl
      (λ known. none_unknown wanted k one known (omega (arith, low)) there nameless)
    where
      at : (o : Option Figure) → figure_for header figures asked ≡ o → (find (is_unknown header figures) wanted ≡ None → ⊥) → ⊥
      at None is later =
          let found : Some asked ≡ None =
          subst (λ (o : Option Figure). cond (is_none o) (Some asked) (find (is_unknown header figures) wanted) ≡ None) is none in
          cc
      at (Some figure) is later = later (subst (λ (o : Option Figure). cond (is_none o) (Some asked) (find (is_unknown header figures) wanted) ≡ None) is none)

  unknown_one : (wanted : List Asked) → ((checked header figures wanted).status ≡ Unknown) ↔ Any Nameless wanted
  unknown_one wanted = (at (find (is_unknown header figures) wanted) refl, λ some. back (find (is_unknown header figures) wanted) refl some)
    where
      at : (found : Option Asked) → find (is_unknown header figures) wanted ≡ found → (printed_of header figures wanted found).status ≡ Unknown
          → Any Nameless wanted
      at None is unknown = absurd (lines_known (unkept_lines header figures wanted) unknown)
      at (Some asked) is unknown = unknown_found wanted asked is

      back : (found : Option Asked) → find (is_unknown header figures) wanted ≡ found → Any Nameless wanted
          → (printed_of header figures wanted found).status ≡ Unknown
      back None is some = absurd (none_unknown wanted some.0 some.1 is some.2 some.3 some.4)
      back (Some asked) is some = refl

-- ---- of a run

pub kept_check : (run : RunView) (wanted : List Asked) (printed : Printed) → printed ≡ check_of run wanted → (printed.status ≡ Kept) ↔ KeepsAll run wanted
kept_check run wanted printed is =
    let one = kept_one run.session.header (run_figures run) wanted in
    (λ kept. one.0 (ap (λ (p : Printed). p.status) (sym is) ∙ kept), λ keeps. ap (λ (p : Printed). p.status) is ∙ one.1 keeps)

pub unknown_check : (run : RunView) (wanted : List Asked) (printed : Printed) → printed ≡ check_of run wanted →
    (printed.status ≡ Unknown) ↔ NamesUnknown run wanted
unknown_check run wanted printed is =
    let one = unknown_one run.session.header (run_figures run) wanted in
    (λ unknown. one.0 (ap (λ (p : Printed). p.status) (sym is) ∙ unknown), λ names. ap (λ (p : Printed). p.status) is ∙ one.1 names)
