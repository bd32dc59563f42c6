-- Jobs tile what a task does.
use Rattle.std.proofs.Common.{◌≡◌, ◌≢◌, ℕ, zero, suc, ◌<◌, ◌≤◌, Bool, true, false, not, ◌&&◌, ◌||◌, refl, sym, ap, subst, ◌∙◌, arith, inl, inr}
use Rattle.std.specs.Prelude.{if◌then◌else◌}
use Rattle.std.proofs.lemmas.Bool.{cases_eq}
use Rattle.task_jobs.specs.Course.{Course}
use Rattle.task_jobs.specs.JobLaws.{IsInJob, IsInOneJob, JobsTile}
use Rattle.task_jobs.specs.Jobs.{begin_at, begins_at, ends_at}

module _ (course : Course) where
  -- up to the place before
  earlier : (begin place : ℕ) → begin ≢ suc place → IsInJob course begin (suc place) → IsInJob course begin place
  earlier begin place away job = record {
    begins = job.begins;
    order = omega (arith, job.order, away);
    goes_on = λ k from before. job.goes_on k from (omega (arith, before));
  }

  ends_not : (begin place : ℕ) → begin ≢ suc place → IsInJob course begin (suc place) → ends_at course place ≡ false
  ends_not begin place away job = job.goes_on place (omega (arith, job.order, away)) (omega arith)

  -- what a job's end and begin have to do with where the task rests
  rested : (before after asks : Bool) → (not before && (after || asks)) ≡ false → after ≡ true → before ≡ true
  rested true after asks ends is = refl
  rested false true asks ends is = sym ends
  rested false false asks ends is = absurd (cc is)

  begun : (before after asks : Bool) → (not before && (after || asks)) ≡ false → (not after && (before || asks)) ≡ true → before ≡ true
  begun true after asks ends begins = refl
  begun false true asks ends begins = begins
  begun false false asks ends begins = sym ends ∙ begins

  works : (before after asks : Bool) → (not after && (before || asks)) ≡ false → after ≡ false → before ≡ false
  works false after asks begins is = refl
  works true true asks begins is = is
  works true false asks begins is = begins

  lasts : (before after asks : Bool) → (not after && (before || asks)) ≡ false → after ≡ false → (not before && (after || asks)) ≡ false
  lasts before true asks begins is = absurd (cc is)
  lasts true false asks begins is = refl
  lasts false false asks begins is = begins

  none_at : (place begin : ℕ) → course.rests place ≡ true → IsInJob course begin place → ⊥
  none_at zero begin rests job =
      let first : begin ≡ 0 = omega (arith, job.order) in
      cc (subst (λ begin. begins_at course begin ≡ true) first job.begins, rests)
  none_at (suc place) begin rests job = elim (cases_eq begin (suc place)) [
    | inl here ↦
        let begins : begins_at course (suc place) ≡ true = subst (λ begin. begins_at course begin ≡ true) here job.begins in
        cc (begins, ap (λ b. not b && (course.rests place || course.asks place)) rests)
    | inr away ↦
        none_at place begin (rested (course.rests place) (course.rests (suc place)) (course.asks place) (ends_not begin place away job) rests)
        (earlier begin place away job)
  ]

  one_at : (place : ℕ) → course.rests place ≡ false → IsInOneJob course place
  one_at zero works_there = record {
    one = record { begins = ap not works_there; order = omega arith; goes_on = λ k from before. absurd (omega (arith, from, before)) };
    only = λ begin job. omega (arith, job.order);
  }
  one_at (suc place) works_there = at (begins_at course (suc place)) refl (one_at place)
    where
      at : (b : Bool) → begins_at course (suc place) ≡ b → (course.rests place ≡ false → IsInOneJob course place) → IsInOneJob course (suc place)
      at true is so_far =
          let here : begin_at course (suc place) ≡ suc place = ap (λ b. if b then suc place else begin_at course place) is in
          record {
            one = subst (λ begin. IsInJob course begin (suc place)) (sym here)
                (record { begins = is; order = omega arith; goes_on = λ k from before. absurd (omega (arith, from, before)) });
            only = λ begin job. elim (cases_eq begin (suc place)) [
              | inl same ↦ same ∙ sym here
              | inr away ↦
                  let rests = begun (course.rests place) (course.rests (suc place)) (course.asks place) (ends_not begin place away job) is in
                  absurd (none_at place begin rests (earlier begin place away job))
            ];
          }
      at false is so_far =
          let before = so_far (works (course.rests place) (course.rests (suc place)) (course.asks place) is works_there) in
          let there : begin_at course (suc place) ≡ begin_at course place = ap (λ b. if b then suc place else begin_at course place) is in
          let goes_on = lasts (course.rests place) (course.rests (suc place)) (course.asks place) is works_there in
          record {
            one = subst (λ begin. IsInJob course begin (suc place)) (sym there) (record {
              begins = before.one.begins;
              order = omega (arith, before.one.order);
              goes_on = λ k from low. elim (cases_eq k place) [
                | inl here ↦ subst (λ k. ends_at course k ≡ false) (sym here) goes_on
                | inr away ↦ before.one.goes_on k from (omega (arith, low, away))
              ];
            });
            only = λ begin job. elim (cases_eq begin (suc place)) [
              | inl here ↦ absurd (cc (subst (λ begin. begins_at course begin ≡ true) here job.begins, is))
              | inr away ↦ before.only begin (earlier begin place away job) ∙ sym there
            ];
          }

pub jobs_tile : JobsTile
jobs_tile = record {
  work = λ course place works. one_at course place works;
  rest = λ course place begin rests job. none_at course place begin rests job;
}
