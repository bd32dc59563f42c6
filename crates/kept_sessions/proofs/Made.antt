-- The run of a session with edits that keeps work, made.
use Rattle.std.proofs.Common.{◌≡◌, ℕ, zero, suc, ◌+◌, ◌*◌, ◌<◌, ◌≤◌, true, List, [], ◌∷◌, length, Option, None, Result, Ok, Err, sym, ap, subst, ◌∙◌, true≢false, arith}
use Rattle.std.specs.Prelude.{All, OnErr}
use Rattle.std.proofs.lemmas.Bool.Decides.{nat_tests}
use Rattle.std.proofs.lemmas.List.Elements.{All-cons, All-nil}
use Rattle.bench_types.specs.declared.header.Header.{Header}
use Rattle.bench_types.specs.declared.step.Step.{Step}
use Rattle.bench_types.specs.Edit.{IsCheckedEdit}
use Rattle.bench_types.specs.Limits.{max_steps}
use Rattle.bench_types.specs.Session.{Session, IsSession}
use Rattle.kept_edits.specs.declared.edit.KeptEdit.{KeptEdit}
use Rattle.kept_edits.specs.declared.edit.KeptEdit.TheVariants.{Plain, Work}
use Rattle.kept_edits.specs.Edits.{plain_edits}
use Rattle.session_runs.specs.Run.{IsRunOf, RunView}
use Rattle.settled_runs.specs.declared.waiting_call.WaitingCall.{WaitingCall}
use Rattle.settled_runs.proofs.Settlings.{settled_run_is_one}
use Rattle.smp_kernel.specs.Counting.{meter_after, CountsUpTo}
use Rattle.smp_kernel.proofs.Counts.{counted_twice}
use Rattle.kept_runs.specs.declared.call_order.CallOrder.{CallOrder}
use Rattle.kept_runs.specs.declared.call_order.CallOrder.TheVariants.{Oldest, LeastCore}
use Rattle.kept_runs.specs.declared.known_limit.KnownLimit.{KnownLimit}
use Rattle.kept_runs.specs.declared.works.Outside.{Outside}
use Rattle.kept_runs.specs.declared.works.Unmade.{Unmade}
use Rattle.kept_runs.specs.Items.{edited_items, edited_session}
use Rattle.kept_runs.specs.Known.{known_until}
use Rattle.kept_runs.specs.Rule.{Progress, first_progress, IsKept, IsRunFrom}
use Rattle.kept_runs.specs.Works.{outside_steps, unmade_calls}
use Rattle.kept_runs.proofs.Unedited.{unedited_run_is_known, unedited_run_is_settled}
use Rattle.keeping.specs.declared.run.Kept.{Kept}
use Rattle.keeping.specs.Ends.{first_end}
use Rattle.keeping.specs.Progress.{progress_at_start}
use Rattle.keeping.proofs.Running.{first_is}
use Rattle.kept_edits.specs.Edits.{IsKeptEdit}
use Rattle.kept_sessions.specs.Runs.{is_settled_one, AreRunsOf, IsKeptRunOf, IsKnownRunOf}
use Rattle.kept_sessions.specs.Sessions.{KeptView}

-- the edits of the session were checked
pub plain_checked : (header : Header) (edits : List KeptEdit) → All (IsKeptEdit header) edits → All (IsCheckedEdit header) (plain_edits edits)
plain_checked header [] all = All-nil (IsCheckedEdit header)
plain_checked header (Plain edit ∷ edits) all =
    All-cons (IsCheckedEdit header) edit (plain_edits edits) (all zero (Plain edit) (omega arith))
    (plain_checked header edits (λ k d within. all (suc k) d (omega (arith, within))))
plain_checked header (Work at change ∷ edits) all = plain_checked header edits (λ k d within. all (suc k) d (omega (arith, within)))

module _ (order : CallOrder) (made : KeptView) (settled : RunView) (is : IsRunOf true made.session settled) (header : Header) (unmade : List Unmade)
    (outside : List Outside) (is_header : header ≡ (edited_session made.session made.edits).header)
    (is_unmade : unmade ≡ unmade_calls made.session settled.session.steps (edited_items made.session made.edits))
    (is_outside : outside ≡ outside_steps made.session settled.session.steps (edited_items made.session made.edits)) where
  start_is : progress_at_start order header unmade outside ≡ first_progress order made.session made.edits settled.session.steps
  start_is =
      (λ i. progress_at_start order (is_header i) (is_unmade i) (is_outside i)) ∙ sym (first_is order made.session made.edits settled.session.steps)

  pub runs_are : length settled.session.steps ≤ max_steps → (kept : Kept) → kept.run.session.header ≡ header
      → IsRunFrom (progress_at_start order header unmade outside) kept.run.session.steps kept.run.left
      → kept.end ≡ first_end (progress_at_start order header unmade outside) kept.run.session.steps → AreRunsOf order made settled kept
  runs_are few kept same goes ends = record {
    is_settled = is;
    few = few;
    header = same ∙ is_header;
    is_run = subst (λ (now : Progress). IsRunFrom now kept.run.session.steps kept.run.left) start_is goes;
    end = ends ∙ ap (λ (now : Progress). first_end now kept.run.session.steps) start_is;
  }

  pub long_is : ((run : List Step) (left : List WaitingCall) → IsRunFrom (progress_at_start order header unmade outside) run left → max_steps < length run)
      → (run : List Step) (left : List WaitingCall) → IsKept order made.session made.edits run left → max_steps < length run
  long_is long run left kept =
      let same = settled_run_is_one made.session.header made.session.steps kept.settled settled.session.steps kept.waiting settled.left kept.is_settled is.1 in
      long run left
      (subst (λ (now : Progress). IsRunFrom now run left) (sym start_is)
      (subst (λ (steps : List Step). IsRunFrom (first_progress order made.session made.edits steps) run left) same.0 kept.is_run))

-- of both runs
pub run_is : (order : CallOrder) (made : KeptView) (settled : RunView) (kept : Kept) → AreRunsOf order made settled kept → IsKeptRunOf order made kept.run
run_is order made settled kept runs = record {
  header = runs.header;
  kept = record { settled = settled.session.steps; waiting = settled.left; is_settled = runs.is_settled.1; is_run = runs.is_run };
  room = runs.few;
}

pub known_is : (order : CallOrder) (made : KeptView) (settled : RunView) (kept : Kept) (limit : Option KnownLimit) → AreRunsOf order made settled kept
    → limit ≡ known_until order made.session made.edits settled.session.steps kept.run.session.steps → IsKnownRunOf order made kept.run limit
known_is order made settled kept limit runs known = record {
  run_is = record {
    header = runs.header;
    kept = record { settled = settled.session.steps; waiting = settled.left; is_settled = runs.is_settled.1; is_run = runs.is_run };
    room = runs.few;
  };
  known = known;
}

-- ---- without edits

-- the settled run is the one that keeps work, and all of it is known
pub unedited_known : (order : CallOrder) (made : KeptView) (run : RunView) → is_settled_one order made ≡ true → IsSession made.session
    → IsRunOf true made.session run → length run.session.steps ≤ max_steps → IsKnownRunOf order made run None
unedited_known order made run = of_edits order made.session made.edits
  where
    of_edits : (order : CallOrder) (session : Session) (edits : List KeptEdit)
        → is_settled_one order (record { session = session; edits = edits }) ≡ true → IsSession session → IsRunOf true session run
        → length run.session.steps ≤ max_steps → IsKnownRunOf order (record { session = session; edits = edits }) run None
    of_edits Oldest session [] unedited is settled few =
        let kept = unedited_run_is_settled session run.session.steps run.left is settled.1 in
        let same = settled_run_is_one session.header session.steps kept.settled run.session.steps kept.waiting run.left kept.is_settled settled.1 in
        record {
          run_is = record { header = settled.0; kept = kept; room = subst (λ (steps : List Step). length steps ≤ max_steps) (sym same.0) few };
          known = sym (unedited_run_is_known session run.session.steps run.left is kept);
        }
    of_edits Oldest session (edit ∷ edits) unedited is settled few = absurd (grind (arith, nat_tests, unedited))
    of_edits LeastCore session edits unedited is settled few = absurd (true≢false (sym unedited))

-- ---- counts

-- some more behind the first ones, and those twice
pub counted_behind : (first old middle new : ℕ) → first ≤ max_steps → middle ≡ meter_after first old → CountsUpTo max_steps middle new
    → CountsUpTo (3 * max_steps) old new
counted_behind first old middle new few before some =
    let low : some.0 ≤ max_steps = some.1 in
    (first + some.0, omega (arith, few, low), some.2 ∙ ap (meter_after some.0) before ∙ counted_twice first some.0 old)

pub counted_thrice : (first second third old one two new : ℕ) → one ≡ meter_after first old → two ≡ meter_after second one → new ≡ meter_after third two
    → new ≡ meter_after (first + second + third) old
counted_thrice first second third old one two new is_one is_two is =
    is ∙ ap (meter_after third) (is_two ∙ ap (meter_after second) is_one ∙ counted_twice first second old) ∙ counted_twice (first + second) third old

pub some_behind : (first old one two new : ℕ) → first ≤ max_steps → one ≡ meter_after first old → two ≡ meter_after first one → CountsUpTo max_steps two new
    → CountsUpTo (3 * max_steps) old new
some_behind first old one two new few is_one is_two some =
    let low : some.0 ≤ max_steps = some.1 in
    (first + first + some.0, omega (arith, few, low), counted_thrice first first some.0 old one two new is_one is_two some.2)

-- what holds anyhow holds of a fault
pub on_err : {T E : Type 0} {X : Type 0} (result : Result T E) → X → OnErr result X
on_err (Ok value) holds = tt
on_err (Err why) holds = holds

-- some behind those of three runs
pub known_behind : (first third more old middle new : ℕ) → first ≤ max_steps → third ≤ max_steps → more ≤ first + third
    → middle ≡ meter_after (first + first + third) old → CountsUpTo more middle new → CountsUpTo (5 * max_steps) old new
known_behind first third more old middle new few fewer low before some =
    let own : some.0 ≤ more = some.1 in
    (first + first + third + some.0, omega (arith, few, fewer, low, own), some.2 ∙ ap (meter_after some.0) before ∙ counted_twice (first + first + third) some.0 old)

pub counted_fourth : (first second old middle new : ℕ) → middle ≡ meter_after first old → new ≡ meter_after second middle → new ≡ meter_after (first + second) old
counted_fourth first second old middle new before is = is ∙ ap (meter_after second) before ∙ counted_twice first second old
