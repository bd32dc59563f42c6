-- A source has one run, or is too long.
use Rattle.std.proofs.Common.{◌≡◌, ℕ, ◌<◌, ◌≤◌, Bool, true, false, List, [], length, refl, sym, subst, ap, ◌∙◌, inl, inr, arith}
use Rattle.std.specs.Prelude.{◌⊎◌, nat_le}
use Rattle.std.proofs.lemmas.Bool.Decides.{nat_tests}
use Rattle.bench_types.specs.declared.header.Header.{Header}
use Rattle.bench_types.specs.declared.step.Step.{Step}
use Rattle.bench_types.specs.Limits.{max_steps}
use Rattle.bench_types.specs.Session.{IsSession, Session}
use Rattle.bench_types.specs.Step.{settings_of, IsCheckedStep}
use Rattle.session_runs.specs.Run.{RunView}
use Rattle.settled_runs.specs.declared.waiting_call.WaitingCall.{WaitingCall}
use Rattle.settled_runs.proofs.Endings.{there_is_a_settled_run}
use Rattle.settled_runs.proofs.Rests.{settled_run_is_session}
use Rattle.settled_runs.proofs.Settlings.{settled_run_is_one}
use Rattle.kept_runs.specs.Items.{edited_session}
use Rattle.kept_runs.proofs.Endings.{there_is_a_kept_run}
use Rattle.kept_runs.proofs.Keeping.{kept_run_is_session}
use Rattle.kept_runs.proofs.Runs.{kept_run_is_one}
use Rattle.task_programs.specs.Workloads.{IsCheckedWorkload}
use Rattle.workload_runs.proofs.Places.{steps_are_checked}
use Rattle.workload_runs.proofs.Runs.{run_is_one, there_is_a_run, too_long_is_longer}
use Rattle.run_sources.specs.declared.fault.RunFault.{RunFault}
use Rattle.run_sources.specs.declared.fault.RunFault.TheVariants.{SettledTooLong, SimulatedTooLong, KeptTooLong, NoMemory}
use Rattle.run_sources.specs.declared.source.Source.{Source}
use Rattle.run_sources.specs.declared.source.Source.TheVariants as source
use Rattle.run_sources.specs.Sources.{header_of, IsCheckedSource, IsFaultOf, IsRunOfSource, IsSourceTooLong}
use Rattle.run_sources.specs.SourceLaws.{FaultsAreTrue, RunOfSourceIsOne, RunOfSourceIsSession, ThereIsARunOfSource, TooLongIsLonger}

-- runs of the same parts are the same
same_run : (run other : RunView) → run.session.header ≡ other.session.header → run.session.steps ≡ other.session.steps → run.left ≡ other.left → run ≡ other
same_run run other header steps left = λ i. record { session = record { header = header i; steps = steps i }; left = left i }

pub source_run_is_one : RunOfSourceIsOne
source_run_is_one (source.Session session) run other is too = is ∙ sym too
source_run_is_one (source.Settled session) run other is too =
    let same = settled_run_is_one session.header session.steps run.session.steps other.session.steps run.left other.left is.1 too.1 in
    same_run run other (is.0 ∙ sym too.0) same.0 same.1
source_run_is_one (source.Workload workload) run other is too =
    same_run run other (is.header ∙ sym too.header) (run_is_one workload run.session.steps other.session.steps is.steps too.steps) (is.left ∙ sym too.left)
source_run_is_one (source.Kept made order) run other is too =
    let same = kept_run_is_one order made.session made.edits run.session.steps other.session.steps run.left other.left is.kept too.kept in
    same_run run other (is.header ∙ sym too.header) same.0 same.1

pub source_too_long_is_longer : TooLongIsLonger
source_too_long_is_longer (source.Session session) run long is = absurd long
source_too_long_is_longer (source.Settled session) run long is = long (record { run = run.session.steps; left = run.left; settled = is.1 })
source_too_long_is_longer (source.Workload workload) run long is = too_long_is_longer workload run.session.steps long is.steps
source_too_long_is_longer (source.Kept made order) run (inl long) is =
    let more = long (record { run = is.kept.settled; left = is.kept.waiting; settled = is.kept.is_settled }) in
    absurd (let room = is.room in omega (arith, more, room))
source_too_long_is_longer (source.Kept made order) run (inr long) is = long run.session.steps run.left is.kept

-- ---- there is a run

-- one number is no more than another, or more
either : (one other : ℕ) → (one ≤ other) ⊎ (other < one)
either one other = at (nat_le one other) refl
  where
    at : (b : Bool) → nat_le one other ≡ b → (one ≤ other) ⊎ (other < one)
    at true is = inl (grind (arith, nat_tests, is))
    at false is = inr (grind (arith, nat_tests, is))

pub there_is_a_run_of_source : ThereIsARunOfSource
there_is_a_run_of_source (source.Session session) checked = inl (record { session = session; left = [] }, refl, checked.few)
there_is_a_run_of_source (source.Settled session) checked =
    let settled = there_is_a_settled_run session checked.checked in
    elim (either (length settled.0) max_steps) [
      | inl few ↦ inl (record { session = record { header = session.header; steps = settled.0 }; left = settled.1 }, (refl, settled.2), few)
      | inr long ↦ inr (λ other.
          let same = settled_run_is_one session.header session.steps settled.0 other.run settled.1 other.left settled.2 other.settled in
          subst (λ (run : List Step). max_steps < length run) same.0 long)
    ]
there_is_a_run_of_source (source.Workload workload) checked = elim (there_is_a_run workload) [
  | inl run ↦ inl (
    record { session = record { header = workload.header; steps = run.0 }; left = [] },
    record { header = refl; steps = run.1; left = refl },
    run.2,
  )
  | inr long ↦ inr long
]
there_is_a_run_of_source (source.Kept made order) checked =
    let one = there_is_a_kept_run order made.session made.edits checked.0.checked checked.1.checked in
    let kept = one.2 in
    elim (either (length kept.settled) max_steps) [
      | inr long ↦ inr
          (inl (λ other.
          let same = settled_run_is_one made.session.header made.session.steps kept.settled other.run kept.waiting other.left kept.is_settled other.settled in
          subst (λ (run : List Step). max_steps < length run) same.0 long))
      | inl room ↦ elim (either (length one.0) max_steps) [
        | inl few ↦ inl (
          record { session = record { header = (edited_session made.session made.edits).header; steps = one.0 }; left = one.1 },
          record { header = refl; kept = kept; room = room },
          few,
        )
        | inr long ↦ inr
            (inr (λ run left other.
            let same = kept_run_is_one order made.session made.edits one.0 run one.1 left kept other in
            subst (λ (run : List Step). max_steps < length run) same.0 long))
      ]
    ]

-- ---- it is a session

pub source_run_is_session : RunOfSourceIsSession
source_run_is_session (source.Session session) run checked is =
    (ap (λ (run : RunView). run.session.header) is, subst (λ (run : RunView). IsSession run.session) (sym is) checked.checked)
source_run_is_session (source.Settled session) run checked is = (
  is.0,
  subst (λ (header : Header). IsSession (record { header = header; steps = run.session.steps })) (sym is.0)
      (settled_run_is_session session checked.checked run.session.steps run.left is.1),
)
source_run_is_session (source.Workload workload) run checked is = (
  is.header,
  subst (λ (header : Header). IsSession (record { header = header; steps = run.session.steps })) (sym is.header)
      (record { header = checked.header; steps = steps_are_checked workload run.session.steps checked is.steps }),
)
source_run_is_session (source.Kept made order) run checked is = (
  is.header,
  subst (λ (header : Header). IsSession (record { header = header; steps = run.session.steps })) (sym is.header)
      (kept_run_is_session order made.session made.edits run.session.steps run.left checked.1.checked is.kept),
)

-- ---- faults

pub faults_are_true : FaultsAreTrue
faults_are_true (source.Session session) SettledTooLong is more = absurd is
faults_are_true (source.Session session) (SimulatedTooLong caller) is more = absurd is
faults_are_true (source.Session session) KeptTooLong is more = absurd is
faults_are_true (source.Session session) NoMemory is more = absurd (more refl)
faults_are_true (source.Settled session) SettledTooLong is more = is
faults_are_true (source.Settled session) (SimulatedTooLong caller) is more = absurd is
faults_are_true (source.Settled session) KeptTooLong is more = absurd is
faults_are_true (source.Settled session) NoMemory is more = absurd (more refl)
faults_are_true (source.Workload workload) SettledTooLong is more = absurd is
faults_are_true (source.Workload workload) (SimulatedTooLong caller) is more = is.long
faults_are_true (source.Workload workload) KeptTooLong is more = absurd is
faults_are_true (source.Workload workload) NoMemory is more = absurd (more refl)
faults_are_true (source.Kept made order) SettledTooLong is more = absurd is
faults_are_true (source.Kept made order) (SimulatedTooLong caller) is more = absurd is
faults_are_true (source.Kept made order) KeptTooLong is more = is
faults_are_true (source.Kept made order) NoMemory is more = absurd (more refl)
