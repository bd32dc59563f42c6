-- The tasks that take a mutex, one task further.
use Rattle.std.proofs.Common.{◌≡◌, ◌≢◌, ℕ, ◌+◌, ◌-◌, ◌<◌, ◌≤◌, ◌^◌, ◌⊎◌, Bool, true, false, List, length, Option, Some, None, refl, sym, ap, subst, ◌∙◌, arith, inl, inr}
use Rattle.std.specs.Prelude.{count_by, slice_index_or, slice_set, if◌then◌else◌}
use Rattle.std.proofs.lemmas.Bool.{cases_eq}
use Rattle.std.proofs.lemmas.List.{length-set}
use Rattle.std.proofs.lemmas.List.Sums.{count_by-le-length, sum_by-set}
use Rattle.task_jobs.specs.declared.crowd.Crowd.{Crowd}
use Rattle.task_jobs.specs.declared.work.Turn.{Turn}
use Rattle.task_jobs.specs.declared.work.Work.{Work}
use Rattle.task_jobs.specs.Crowds.{told, with_count}
use Rattle.task_jobs.specs.Works.{first_work, with_turn}
use Rattle.task_jobs.proofs.Crowded.{count_keeps_time}
use Rattle.run_numbers.specs.declared.look.Look.{Look}
use Rattle.run_numbers.specs.AfterStep.{is_it}
use Rattle.run_numbers.specs.Looks.{IsKnown}
use Rattle.run_numbers.specs.Progress.{crowd_in, nothing_known, work_in}
use Rattle.run_numbers.specs.Taking.{takers_in, AreTakers, AreTimesKept, AreTurned, IsTimeKept, IsWorkKept}

-- ---- the tasks that take a mutex

abbrev one : Bool → ℕ
one b = if b then 1 else 0

-- with the work of one task in the place of the old
takers_set : (works : List Work) (task : ℕ) (work : Work) (mutex : ℕ) → task < length works
    → takers_in (slice_set works task work) mutex + one (is_it (work_in works task).takes mutex) ≡ takers_in works mutex + one (is_it work.takes mutex)
takers_set works task work mutex within =
    sum_by-set (λ (w : Work). one (is_it w.takes mutex)) works task work (first_work nothing_known) within

-- one that takes it is one of them
pub takes_one : (works : List Work) (task mutex : ℕ) → task < length works → is_it (work_in works task).takes mutex ≡ true → 0 < takers_in works mutex
takes_one works task mutex within takes =
    omega (arith, takers_set works task (first_work nothing_known) mutex within, ap one takes)

-- one that does not is none of them
pub few_takers : (works : List Work) (task mutex : ℕ) → task < length works → is_it (work_in works task).takes mutex ≡ false → (taker : Work)
    → is_it taker.takes mutex ≡ true → takers_in works mutex < length works
few_takers works task mutex within not_it taker takes =
    let next = slice_set works task taker in
    omega (
      arith,
      takers_set works task taker mutex within,
      ap one not_it,
      ap one takes,
      count_by-le-length (λ (w : Work). is_it w.takes mutex) next,
      length-set works task taker,
    )

pub all_takers : (works : List Work) (mutex : ℕ) → takers_in works mutex ≤ length works
all_takers works mutex = count_by-le-length (λ (w : Work). is_it w.takes mutex) works

-- one that has left, and one that has joined
abbrev pub left_crowd : Bool → ℕ → Crowd → Crowd
left_crowd leaves now crowd = if leaves then with_count (crowd.tasks - 1) now crowd else crowd

abbrev pub joined_crowd : Bool → ℕ → Crowd → Crowd
joined_crowd joins now crowd = if joins then with_count (crowd.tasks + 1) now crowd else crowd

pub left_time : (leaves : Bool) (now : ℕ) (crowd : Crowd) → IsTimeKept now crowd (left_crowd leaves now crowd)
left_time true now crowd = record { told = count_keeps_time (crowd.tasks - 1) now crowd; since = λ low. omega arith }
left_time false now crowd = record { told = refl; since = λ low. low }

pub joined_time : (joins : Bool) (now : ℕ) (crowd : Crowd) → IsTimeKept now crowd (joined_crowd joins now crowd)
joined_time true now crowd = record { told = count_keeps_time (crowd.tasks + 1) now crowd; since = λ low. omega arith }
joined_time false now crowd = record { told = refl; since = λ low. low }

pub times_on : {now : ℕ} {a b c : Crowd} → IsTimeKept now a b → IsTimeKept now b c → IsTimeKept now a c
times_on first next = record { told = next.told ∙ first.told; since = λ low. next.since (first.since low) }

-- as many as before, without the one and with the other
pub count_moved : (leaves joins : Bool) (now : ℕ) (crowd : Crowd) → (leaves ≡ true → 0 < crowd.tasks)
    → (joined_crowd joins now (left_crowd leaves now crowd)).tasks + one leaves ≡ crowd.tasks + one joins
count_moved true true now crowd some = omega (arith, some refl)
count_moved true false now crowd some = omega (arith, some refl)
count_moved false true now crowd some = omega arith
count_moved false false now crowd some = omega arith

pub takers_moved : (works : List Work) (task : ℕ) (work : Work) (mutex now : ℕ) (crowd : Crowd) → task < length works → crowd.tasks ≡ takers_in works mutex
    → (joined_crowd (is_it work.takes mutex) now (left_crowd (is_it (work_in works task).takes mutex) now crowd)).tasks
    ≡ takers_in (slice_set works task work) mutex
takers_moved works task work mutex now crowd within tasks =
    let leaves = is_it (work_in works task).takes mutex in
    omega (
      arith,
      tasks,
      takers_set works task work mutex within,
      count_moved leaves (is_it work.takes mutex) now crowd (λ takes. omega (arith, tasks, takes_one works task mutex within takes)),
    )

-- there is room for one more
pub room_to_join : (works : List Work) (task mutex now : ℕ) (crowd : Crowd) → task < length works → length works < 2 ^ 32 → crowd.tasks ≡ takers_in works mutex
    → (taker : Work) → is_it taker.takes mutex ≡ true → (left_crowd (is_it (work_in works task).takes mutex) now crowd).tasks < 2 ^ 32 - 1
room_to_join works task mutex now crowd within small tasks taker takes = at (is_it (work_in works task).takes mutex) refl
  where
    at : (b : Bool) → is_it (work_in works task).takes mutex ≡ b → (left_crowd b now crowd).tasks < 2 ^ 32 - 1
    at true is = omega (arith, tasks, small, all_takers works mutex)
    at false is = omega (arith, tasks, small, few_takers works task mutex within is taker takes)

-- ---- task by task

-- the first tasks have worked
pub record AreTurnedTo (turn : ℕ → Turn) (Known : ℕ → Type 0) (task : ℕ) (old now : List Work) : Type 0 where
  pub done : AreTurned turn Known task old now
  pub later : (other : ℕ) → task ≤ other → IsWorkKept other old now

module _ (turn : ℕ → Turn) (Known : ℕ → Type 0) (old : List Work) where
  pub turned_none : AreTurnedTo turn Known 0 old old
  turned_none = record { done = λ task low. absurd (omega (arith, low)); later = λ other _. refl }

  -- one more has, or need not
  pub turned_more : (task : ℕ) (now next : List Work) → AreTurnedTo turn Known task old now
      → (work_in next task ≡ with_turn (turn task) (work_in now task)) ⊎ (Known task × IsWorkKept task now next)
      → ((other : ℕ) → other ≢ task → IsWorkKept other now next) → AreTurnedTo turn Known (task + 1) old next
  turned_more task now next so_far own others = record {
    done = λ other low. elim (cases_eq other task) [
      | inl here ↦
          let same = so_far.later task (omega arith) in
          subst (λ k. (work_in next k ≡ with_turn (turn k) (work_in old k)) ⊎ (Known k × IsWorkKept k old next)) (sym here) (elim own [
            | inl turned ↦ inl (turned ∙ ap (with_turn (turn task)) same)
            | inr kept ↦ inr (kept.0, kept.1 ∙ same)
          ])
      | inr away ↦ elim (so_far.done other (omega (arith, low, away))) [
        | inl turned ↦ inl (others other away ∙ turned)
        | inr kept ↦ inr (kept.0, others other away ∙ kept.1)
      ]
    ];
    later = λ other past.
        let away : other ≢ task = λ same. absurd (omega (arith, past, same)) in
        others other away ∙ so_far.later other (omega (arith, past));
  }
