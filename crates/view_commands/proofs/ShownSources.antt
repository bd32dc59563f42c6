-- The runs of what a document says, and which of them are too long.
use Rattle.std.proofs.Common.{◌≡◌, ◌≤◌, List, [], ◌∷◌, Bool, true, false, length, Option, Result, Ok, Err, IfOk, refl, sym, subst, ap, inl, inr, arith}
use Rattle.std.specs.Prelude.{All}
use Rattle.std.proofs.lemmas.List.Elements.{All-cons, All-nil}
use Rattle.bench_types.specs.declared.step.Step.{Step}
use Rattle.bench_types.specs.Limits.{max_steps}
use Rattle.bench_types.specs.Session.{Session}
use Rattle.kept_edits.specs.Edits.{plain_edits}
use Rattle.kept_notes.specs.Refused.{places_of, refused_kept}
use Rattle.kept_runs.specs.declared.call_order.CallOrder.{CallOrder}
use Rattle.kept_runs.specs.declared.known_limit.KnownLimit.{KnownLimit}
use Rattle.kept_runs.specs.Items.{edited_session}
use Rattle.kept_runs.proofs.Outsides.{kept_run_keeps_outside}
use Rattle.kept_sessions.specs.Runs.{IsKeptRunOf, IsKeptTooLong, IsKnownRunOf}
use Rattle.kept_sessions.specs.Sessions.{without_edits, KeptView}
use Rattle.run_comparisons.specs.Pairs.{IsKeptPair, PairView}
use Rattle.run_comparisons.specs.Shared.{AreMomentsOf}
use Rattle.run_comparisons.proofs.KeptComings.{same_comings}
use Rattle.run_sources.specs.declared.source.Source.{Source}
use Rattle.run_sources.specs.declared.source.Source.TheVariants as source
use Rattle.run_sources.proofs.SourceRuns.{source_too_long_is_longer}
use Rattle.run_sources.specs.Sources.{IsRunOfSource, IsSimulated, IsSourceTooLong}
use Rattle.session_runs.specs.Run.{IsRunOf, RunView}
use Rattle.settled_runs.specs.Runs.{IsSettledTooLong}
use Rattle.shown_runs.specs.declared.shown.Shown.{Shown}
use Rattle.shown_runs.specs.declared.shown.Shown.TheVariants.{One, Two}
use Rattle.shown_runs.specs.Runs.{last_of}
use Rattle.task_programs.specs.declared.workload.Workload.{Workload}
use Rattle.workload_runs.specs.Rule.{IsTooLong}
use Rattle.workload_runs.specs.Rule.{IsRunOf as IsRunOfWorkload}
use Rattle.workload_runs.proofs.Runs.{too_long_is_longer}
use Rattle.view_commands.specs.declared.edited.EditedSource.{EditedSource}
use Rattle.view_commands.specs.declared.edited.EditedSource.TheVariants as edited
use Rattle.view_commands.specs.declared.fault.ShowFault.{ShowFault}
use Rattle.view_commands.specs.declared.fault.ShowFault.TheVariants.{TooLong, NoMemory}
use Rattle.view_commands.specs.EditedSources.{after_of, before_of}
use Rattle.view_commands.specs.Known.{IsKnownTo}
use Rattle.view_commands.specs.ShownRuns.{AreKept, IsPair, IsShown}
use Rattle.view_commands.specs.TooLong.{IsFaultOf, IsFaultOfFirst}

-- ---- what has a run of no more steps than a session may have is not too long

pub settled_short : (session : Session) (run : RunView) → IsRunOf true session run → length run.session.steps ≤ max_steps → ¬ IsSettledTooLong session
settled_short session run is few long =
    let more = long (record { run = run.session.steps; left = run.left; settled = is.1 }) in
    absurd (omega (arith, few, more))

pub simulated_short : (workload : Workload) (steps : List Step) → IsRunOfWorkload workload steps → length steps ≤ max_steps → ¬ IsTooLong workload
simulated_short workload steps is few long = absurd (omega (arith, few, too_long_is_longer workload steps long is))

pub kept_short : (made : KeptView) (order : CallOrder) (run : RunView) → IsKeptRunOf order made run → length run.session.steps ≤ max_steps
    → ¬ IsKeptTooLong order made
kept_short made order run is few long = absurd (omega (arith, few, source_too_long_is_longer (source.Kept made order) run long is))

pub known_short : (made : KeptView) (order : CallOrder) (run : RunView) (limit : Option KnownLimit) → IsKnownRunOf order made run limit
    → length run.session.steps ≤ max_steps → ¬ IsKeptTooLong order made
known_short made order run limit is few = kept_short made order run is.run_is few

-- ---- runs

pub simulated_so : (workload : Workload) (session : Session) (run : RunView) → session.header ≡ workload.header → IsRunOfWorkload workload session.steps
    → run ≡ record { session = session; left = [] } → IsSimulated workload run
simulated_so workload session run header is same =
    subst (λ (one : RunView). IsSimulated workload one) (sym same) (record { header = header; steps = is; left = refl })

-- the second run of a pair is that of what the edits leave
pub pair_after : (source : EditedSource) (pair : PairView) → IsPair source pair → IsRunOfSource (after_of source) pair.after
pair_after (edited.Session made) pair is = ap (λ (one : PairView). one.after) is
pair_after (edited.Settled made) pair is = is.after
pair_after (edited.Workload made) pair is = is.after
pair_after (edited.Kept made order) pair is = is.after.run_is

-- the ticks and interrupts of a session are those of its run that keeps work
pub kept_moments : (order : CallOrder) (made : KeptView) (run : RunView) → IsKeptRunOf order made run
    → AreMomentsOf (edited_session made.session made.edits).steps run.session.steps
kept_moments order made run is =
    let edited = edited_session made.session made.edits in
    same_comings edited.header.config.units edited.steps run.session.steps
    (kept_run_keeps_outside order made.session made.edits run.session.steps run.left is.kept).0

-- the pair of both runs that keep work
pub kept_pair_so : (made : KeptView) (order : CallOrder) (before after : RunView) (known : Option KnownLimit) (pair : PairView)
    → IsKeptRunOf order (without_edits made) before → IsKnownRunOf order made after known
    → IsKeptPair made.session (plain_edits made.edits) (places_of (refused_kept made.session made.edits)) known before after pair → AreKept made order pair
kept_pair_so made order before after known pair first second is =
    let Beside = λ (limit : Option KnownLimit) (old new : RunView). IsKeptPair made.session (plain_edits made.edits)
    (places_of (refused_kept made.session made.edits)) limit old new pair in
    record {
      before = subst (λ (run : RunView). IsKeptRunOf order (without_edits made) run) (sym is.is_before) first;
      after = subst (λ (limit : Option KnownLimit). IsKnownRunOf order made pair.after limit) (sym is.is_known)
          (subst (λ (run : RunView). IsKnownRunOf order made run known) (sym is.is_after) second);
      beside = subst (λ (limit : Option KnownLimit). Beside limit pair.before pair.after) (sym is.is_known)
          (subst (λ (run : RunView). Beside known run pair.after) (sym is.is_before) (subst (λ (run : RunView). Beside known before run) (sym is.is_after) is));
    }

-- by what the document says
pub moments_before : (origin : EditedSource) (made : KeptView) (order : CallOrder) (before : RunView) → origin ≡ edited.Kept made order
    → IsRunOfSource (before_of origin) before → AreMomentsOf made.session.steps before.session.steps
moments_before origin made order before is run =
    kept_moments order (without_edits made) before (subst (λ (one : EditedSource). IsRunOfSource (before_of one) before) is run)

pub moments_after : (origin : EditedSource) (made : KeptView) (order : CallOrder) (after : RunView) → origin ≡ edited.Kept made order
    → IsRunOfSource (after_of origin) after → AreMomentsOf (edited_session made.session made.edits).steps after.session.steps
moments_after origin made order after is run = kept_moments order made after (subst (λ (one : EditedSource). IsRunOfSource (after_of one) after) is run)

pub kept_is_pair : {E : Type 0} (origin : EditedSource) (made : KeptView) (order : CallOrder) (before after : RunView) (known : Option KnownLimit)
    (result : Result PairView E) → origin ≡ edited.Kept made order → IsRunOfSource (before_of origin) before → IsKnownTo (after_of origin) after known
    → IfOk result (λ pair. IsKeptPair made.session (plain_edits made.edits) (places_of (refused_kept made.session made.edits)) known before after pair)
    → IfOk result (IsPair origin)
kept_is_pair origin made order before after known (Err e) is first second beside = tt
kept_is_pair origin made order before after known (Ok pair) is first second beside =
    subst (λ (one : EditedSource). IsPair one pair) (sym is)
    (kept_pair_so made order before after known pair (subst (λ (one : EditedSource). IsRunOfSource (before_of one) before) is first)
    (subst (λ (one : EditedSource). IsKnownTo (after_of one) after known) is second) beside)

pub kept_pair_after : {E : Type 0} (made : KeptView) (before after : RunView) (known : Option KnownLimit) (result : Result PairView E)
    → IfOk result (λ pair. IsKeptPair made.session (plain_edits made.edits) (places_of (refused_kept made.session made.edits)) known before after pair)
    → IfOk result (λ (pair : PairView). pair.after ≡ after)
kept_pair_after made before after known (Err e) beside = tt
kept_pair_after made before after known (Ok pair) beside = beside.is_after

-- and so is the last that is shown
pub last_is_run : (both : Bool) (source : EditedSource) (shown : Shown) → IsShown both source shown → IsRunOfSource (after_of source) (last_of shown)
last_is_run false source (One run) is = is
last_is_run false source (Two pair) is = absurd is
last_is_run true source (One run) is = absurd is
last_is_run true source (Two pair) is = pair_after source pair is

-- ---- none is too long

pub short_of_one : (source : Source) → ¬ IsSourceTooLong source → All (λ (one : Source). ¬ IsSourceTooLong one) (source ∷ [])
short_of_one source short = All-cons (λ (one : Source). ¬ IsSourceTooLong one) source [] short (All-nil (λ (one : Source). ¬ IsSourceTooLong one))

pub short_of_both : (before after : Source) → ¬ IsSourceTooLong before → ¬ IsSourceTooLong after
    → All (λ (one : Source). ¬ IsSourceTooLong one) (before ∷ after ∷ [])
short_of_both before after first second = All-cons (λ (one : Source). ¬ IsSourceTooLong one) before (after ∷ []) first (short_of_one after second)

-- ---- the first that is too long

pub fault_of_one : (source : Source) (fault : ShowFault) → IsFaultOf source fault → IsFaultOfFirst (source ∷ []) fault
fault_of_one source (TooLong refusal) is = inl is
fault_of_one source NoMemory is = tt

pub fault_of_first : (before after : Source) (fault : ShowFault) → IsFaultOf before fault → IsFaultOfFirst (before ∷ after ∷ []) fault
fault_of_first before after (TooLong refusal) is = inl is
fault_of_first before after NoMemory is = tt

pub fault_of_second : (before after : Source) (fault : ShowFault) → ¬ IsSourceTooLong before → IsFaultOf after fault → IsFaultOfFirst (before ∷ after ∷ []) fault
fault_of_second before after (TooLong refusal) short is = inr (short, inl is)
fault_of_second before after NoMemory short is = tt
