-- What a step is to all subjects, one further.
use Rattle.std.proofs.Common.{◌≡◌, ◌≢◌, ℕ, ◌+◌, ◌<◌, ◌≤◌, ◌⊎◌, List, length, Option, None, refl, sym, ap, subst, ◌∙◌, arith, inl, inr}
use Rattle.std.specs.Prelude.{slice_index_or}
use Rattle.std.proofs.lemmas.Bool.{cases_eq, cases_lt}
use Rattle.bench_model.specs.Lists.{View}
use Rattle.run_numbers.specs.declared.counter.Counter.{Counter}
use Rattle.run_numbers.specs.declared.look.Look.{Look}
use Rattle.run_numbers.specs.declared.subject.Subject.{Subject}
use Rattle.run_numbers.specs.declared.taking.Plan.{Plan}
use Rattle.run_numbers.specs.Looks.{look_of, IsKnown}
use Rattle.run_numbers.specs.Progress.{subject_in}
use Rattle.run_numbers.specs.Rows.{span_in, AreSpans}
use Rattle.run_numbers.specs.Taking.{row_at, AreLooked, AreTaken, IsKept, IsLooked, IsRowTaken, IsTaken, IsTakenAt, IsVisited}
use Rattle.run_numbers.proofs.Known.{none_known}
use Rattle.run_numbers.proofs.Spans.{row_low}

-- ---- a row

-- the first places of the row were visited
pub record IsTakenTo (f : Subject → Counter → Counter) (plan : Plan) (row first place : ℕ) (old now : List Counter) : Type 0 where
  pub own : (k : ℕ) → first ≤ k → k < place → row_at plan k ≡ row → IsTaken f plan old now k
  pub others : (k : ℕ) → row_at plan k ≢ row → IsKept old now k
  pub later : (k : ℕ) → place ≤ k → IsKept old now k

module _ (f : Subject → Counter → Counter) (plan : Plan) (row first : ℕ) (old : List Counter) where
  pub taken_none : IsTakenTo f plan row first first old old
  taken_none = record {
    own = λ k from before _. absurd (omega (arith, from, before));
    others = λ k _. refl;
    later = λ k _. refl;
  }

  pub taken_more : (place : ℕ) (now next : List Counter) → IsTakenTo f plan row first place old now → IsTakenAt f plan row place now next
      → IsTakenTo f plan row first (place + 1) old next
  taken_more place now next so_far at = record {
    own = λ k from before is. elim (cases_eq k place) [
      | inl here ↦
          let is_here : row_at plan place ≡ row = subst (λ k. row_at plan k ≡ row) here is in
          let taken = at.own is_here ∙ ap (f (subject_in plan.subjects.now place)) (so_far.later place (omega arith)) in
          subst (λ k. IsTaken f plan old next k) (sym here) taken
      | inr away ↦ at.others k away ∙ so_far.own k from (omega (arith, before, away)) is
    ];
    others = λ k is. elim (cases_eq k place) [
      | inl here ↦
          let other : row_at plan place ≢ row = subst (λ k. row_at plan k ≢ row) here is in
          subst (λ k. IsKept old next k) (sym here) (at.other other ∙ so_far.others place other)
      | inr away ↦ at.others k away ∙ so_far.others k is
    ];
    later = λ k past.
        let away : k ≢ place = λ same. absurd (omega (arith, past, same)) in
        at.others k away ∙ so_far.later k (omega (arith, past));
  }

  -- all of the row
  pub row_taken : (end : ℕ) (now : List Counter) → AreSpans plan.tasks plan.subjects.now plan.spans.now → first ≡ (span_in plan.spans.now row).first
      → end ≡ (span_in plan.spans.now row).end → (place : ℕ) → end ≤ place → IsTakenTo f plan row first place old now → IsRowTaken f plan row old now
  row_taken end now spans first_is end_is place past so_far = record {
    own = λ k within is.
        let from = subst (λ row. (span_in plan.spans.now row).first ≤ k) is (spans.from k within) in
        let before = subst (λ row. k < (span_in plan.spans.now row).end) is (spans.before k within) in
        so_far.own k (omega (arith, from, first_is)) (omega (arith, before, end_is, past)) is;
    others = so_far.others;
  }

-- ---- all tasks

-- the first tasks were visited
pub record AreVisitedTo (f : Subject → Counter → Counter) (after : View) (plan : Plan) (task : ℕ) (old now : List Counter)
    (looks seen : List (Option Look)) : Type 0 where
  pub own : (k : ℕ) → k < length plan.subjects.now → row_at plan k < task
      → IsTaken f plan old now k ⊎ (IsKnown looks (row_at plan k) (look_of after (row_at plan k)) × IsKept old now k)
  pub later : (k : ℕ) → task ≤ row_at plan k → IsKept old now k
  pub known : (other : ℕ) → other < task → IsKnown seen other (look_of after other)
  pub unseen : (other : ℕ) → task ≤ other → slice_index_or seen other None ≡ slice_index_or looks other None

module _ (f : Subject → Counter → Counter) (after : View) (plan : Plan) (old : List Counter) (looks : List (Option Look)) where
  pub visited_none : AreVisitedTo f after plan 0 old old looks looks
  visited_none = record {
    own = λ k _ low. absurd (omega (arith, low));
    later = λ k _. refl;
    known = λ other low. absurd (omega (arith, low));
    unseen = λ other _. refl;
  }

  pub visited_more : (task : ℕ) (now next : List Counter) (seen beheld : List (Option Look)) → AreVisitedTo f after plan task old now looks seen
      → IsVisited f (IsKnown seen task (look_of after task)) plan task now next → IsLooked after task seen beheld
      → AreVisitedTo f after plan (task + 1) old next looks beheld
  visited_more task now next seen beheld so_far visited looked = record {
    own = λ k within low. elim (cases_eq (row_at plan k) task) [
      | inl here ↦
          let same : IsKept old now k = so_far.later k (omega (arith, here)) in
          elim (visited.own k within here) [
            | inl taken ↦ inl (taken ∙ ap (f (subject_in plan.subjects.now k)) same)
            | inr kept ↦
                let known : IsKnown looks task (look_of after task) = sym (so_far.unseen task (omega arith)) ∙ kept.0 in
                inr (subst (λ task. IsKnown looks task (look_of after task)) (sym here) known, kept.1 ∙ same)
          ]
      | inr away ↦ elim (so_far.own k within (omega (arith, low, away))) [
        | inl taken ↦ inl (visited.others k away ∙ taken)
        | inr kept ↦ inr (kept.0, visited.others k away ∙ kept.1)
      ]
    ];
    later = λ k past.
        let away : row_at plan k ≢ task = λ same. absurd (omega (arith, past, same)) in
        visited.others k away ∙ so_far.later k (omega (arith, past));
    known = λ other low. elim (cases_eq other task) [
      | inl here ↦ subst (λ task. IsKnown beheld task (look_of after task)) (sym here) looked.own
      | inr away ↦ looked.others other away ∙ so_far.known other (omega (arith, low, away))
    ];
    unseen = λ other past.
        let away : other ≢ task = λ same. absurd (omega (arith, past, same)) in
        looked.others other away ∙ so_far.unseen other (omega (arith, past));
  }

  -- and then those that are of no task
  pub all_taken : (now next : List Counter) (seen : List (Option Look)) → AreVisitedTo f after plan plan.tasks old now looks seen
      → IsRowTaken f plan plan.tasks now next → AreTaken f (λ task. IsKnown looks task (look_of after task)) plan old next
  all_taken now next seen so_far rest k within = elim (cases_eq (row_at plan k) plan.tasks) [
    | inl here ↦ inl (rest.own k within here ∙ ap (f (subject_in plan.subjects.now k)) (so_far.later k (omega (arith, here))))
    | inr away ↦
        let low : row_at plan k < plan.tasks = omega (arith, row_low plan.tasks (subject_in plan.subjects.now k), away) in
        elim (so_far.own k within low) [
          | inl taken ↦ inl (rest.others k away ∙ taken)
          | inr kept ↦ inr (low, kept.0, rest.others k away ∙ kept.1)
        ]
  ]

  pub all_looked : (now : List Counter) (seen : List (Option Look)) → length seen ≡ plan.tasks → AreVisitedTo f after plan plan.tasks old now looks seen
      → AreLooked after seen
  all_looked now seen size so_far task look known = elim (cases_lt task plan.tasks) [
    | inl low ↦ let is = so_far.known task low in cc (is, known)
    | inr past ↦ absurd (none_known seen task look (omega (arith, size, past)) known)
  ]
