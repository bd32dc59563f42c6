-- Where the subjects of each row stand, one subject further.
use Rattle.std.proofs.Common.{◌≡◌, ◌≢◌, ℕ, ◌+◌, ◌<◌, ◌≤◌, Bool, true, false, ◌==◌, min, List, length, Option, Some, None, sym, ap, subst, ◌∙◌, arith, inl, inr}
use Rattle.std.specs.Prelude.{if◌then◌else◌, replicate, slice_set}
use Rattle.std.specs.Option.{option_map_or}
use Rattle.std.proofs.lemmas.Bool.{cases_eq}
use Rattle.std.proofs.lemmas.Bool.Decides.{nat_tests}
use Rattle.std.proofs.lemmas.List.{get_or-replicate, get_or-set_other, get_or-set_same, length-replicate, length-set}
use Rattle.run_numbers.specs.declared.rows.Span.{Span}
use Rattle.run_numbers.specs.declared.subject.Subject.{Subject}
use Rattle.run_numbers.specs.Progress.{subject_in}
use Rattle.run_numbers.specs.Rows.{row_of, span_in, widened, AreSpansTo}
use Rattle.run_numbers.specs.Tasks.{task_of}

abbrev no_span : Span
no_span = record { first = 0; end = 0 }

pub row_low : (tasks : ℕ) (subject : Subject) → row_of tasks subject ≤ tasks
row_low tasks subject = at (task_of subject)
  where
    at : (own : Option ℕ) → option_map_or (λ task. min task tasks) own tasks ≤ tasks
    at None = omega arith
    at (Some task) = omega arith

pub spans_none : (tasks : ℕ) (subjects : List Subject) (spans : List Span) → spans ≡ replicate (tasks + 1) no_span → AreSpansTo tasks subjects 0 spans
spans_none tasks subjects spans made = record {
  size = omega (arith, ap (λ (ss : List Span). length ss) made ∙ length-replicate (tasks + 1) no_span);
  first = λ row low. omega (arith, ap (λ (span : Span). span.first) (none row low));
  end = λ row low. omega (arith, ap (λ (span : Span). span.end) (none row low));
  from = λ k low. absurd (omega (arith, low));
  before = λ k low. absurd (omega (arith, low));
}
  where
    none : (row : ℕ) → row ≤ tasks → span_in spans row ≡ no_span
    none row low =
        let within : row < tasks + 1 = omega (arith, low) in
        ap (λ ss. span_in ss row) made ∙ get_or-replicate (tasks + 1) row no_span no_span within

module _ (tasks : ℕ) (subjects : List Subject) (place : ℕ) (spans : List Span) (are : AreSpansTo tasks subjects place spans) (own : Span)
    (read : own ≡ span_in spans (row_of tasks (subject_in subjects place))) where
  row : ℕ
  row = row_of tasks (subject_in subjects place)

  low : row ≤ tasks
  unfolding row
  low = row_low tasks (subject_in subjects place)

  own_first : own.first ≤ place
  unfolding row
  own_first = omega (arith, ap (λ (span : Span). span.first) read, are.first row low)

  wide : Span
  wide = widened place own

  wide_first : wide.first ≤ place
  unfolding wide
  wide_first = at (own.end == 0)
    where
      at : (b : Bool) → (if b then place else own.first) ≤ place
      at true = omega arith
      at false = omega (arith, own_first)

  -- what was in the span is in it still
  wide_from : (k : ℕ) → own.first ≤ k → k < own.end → wide.first ≤ k
  unfolding wide
  wide_from k from before =
      let some : (own.end == 0) ≡ false = grind (arith, nat_tests, before) in
      subst (λ b. (if b then place else own.first) ≤ k) (sym some) from

  there : span_in (slice_set spans row wide) row ≡ wide
  there = get_or-set_same spans row wide no_span (omega (arith, low, are.size))

  away : (other : ℕ) → other ≢ row → span_in (slice_set spans row wide) other ≡ span_in spans other
  away other is = get_or-set_other spans row other wide no_span is

  pub spans_more : AreSpansTo tasks subjects (place + 1) (slice_set spans (row_of tasks (subject_in subjects place)) (widened place own))
  unfolding row wide
  spans_more = record {
    size = length-set spans row wide ∙ are.size;
    first = λ other within. elim (cases_eq other row) [
      | inl is ↦ omega (arith, ap (λ other. (span_in (slice_set spans row wide) other).first) is, ap (λ (span : Span). span.first) there, wide_first)
      | inr is ↦ omega (arith, ap (λ (span : Span). span.first) (away other is), are.first other within)
    ];
    end = λ other within. elim (cases_eq other row) [
      | inl is ↦ omega (arith, ap (λ other. (span_in (slice_set spans row wide) other).end) is, ap (λ (span : Span). span.end) there)
      | inr is ↦ omega (arith, ap (λ (span : Span). span.end) (away other is), are.end other within)
    ];
    from = λ k within. let other = row_of tasks (subject_in subjects k) in elim (cases_eq other row) [
      | inl is ↦ elim (cases_eq k place) [
        | inl last ↦ omega
            (arith, ap (λ other. (span_in (slice_set spans row wide) other).first) is, ap (λ (span : Span). span.first) there, wide_first, last)
        | inr early ↦
            let low_k : k < place = omega (arith, within, early) in
            let same : span_in spans other ≡ own = ap (span_in spans) is ∙ sym read in
            let from : own.first ≤ k = omega (arith, are.from k low_k, ap (λ (span : Span). span.first) same) in
            let before : k < own.end = omega (arith, are.before k low_k, ap (λ (span : Span). span.end) same) in
            omega (
              arith,
              ap (λ other. (span_in (slice_set spans row wide) other).first) is,
              ap (λ (span : Span). span.first) there,
              wide_from k from before,
            )
      ]
      | inr is ↦ elim (cases_eq k place) [
        | inl last ↦ absurd (is (ap (λ k. row_of tasks (subject_in subjects k)) last))
        | inr early ↦ omega (arith, ap (λ (span : Span). span.first) (away other is), are.from k (omega (arith, within, early)))
      ]
    ];
    before = λ k within. let other = row_of tasks (subject_in subjects k) in elim (cases_eq other row) [
      | inl is ↦ omega (arith, ap (λ other. (span_in (slice_set spans row wide) other).end) is, ap (λ (span : Span). span.end) there, within)
      | inr is ↦ elim (cases_eq k place) [
        | inl last ↦ absurd (is (ap (λ k. row_of tasks (subject_in subjects k)) last))
        | inr early ↦ omega (arith, ap (λ (span : Span). span.end) (away other is), are.before k (omega (arith, within, early)))
      ]
    ];
  }
