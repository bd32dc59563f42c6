-- Of a session and edits of it there is one pair of settled runs, and of two simulated or kept runs one pair.
use Rattle.std.proofs.Common.{◌≡◌, List, [], ◌∷◌, ◌++◌, take, Option, Some, refl, ap₂, sym, subst, ◌∙◌, true}
use Rattle.bench_types.specs.declared.step.Step.{Step}
use Rattle.bench_types.specs.Session.{Session}
use Rattle.bench_model.specs.Edits.{after_edits}
use Rattle.settled_runs.proofs.Settlings.{settled_run_is_one}
use Rattle.session_runs.specs.Run.{IsRunOf, RunView}
use Rattle.run_comparisons.specs.declared.place_pair.PlacePair.{PlacePair}
use Rattle.run_comparisons.specs.declared.rows.Row.{Row}
use Rattle.run_comparisons.specs.PairLaws.{KeptPairIsOne, SettledPairIsOne, SimulatedPairIsOne}
use Rattle.run_comparisons.specs.Shared.{kept_events, paired_events, shared_events}
use Rattle.run_comparisons.specs.SideBySide.{first_places, next_row, past, row_of, AreAligned, AreSettledRows, AreSideBySide}

one_row : (row other : Row) (next : Option Row) → next ≡ Some row → next ≡ Some other → row ≡ other
one_row row other next is too = let same : Some row ≡ Some other = sym is ∙ too in cc same

one_aligned : (before after : List Step) (at : PlacePair) (rows others : List Row) → AreAligned before after at rows → AreAligned before after at others → rows
    ≡ others
one_aligned before after at [] [] none too = refl
one_aligned before after at [] (other ∷ others) none too = absurd (cc (none, too.0))
one_aligned before after at (row ∷ rows) [] some none = absurd (cc (some.0, none))
one_aligned before after at (row ∷ rows) (other ∷ others) some too =
    let same = one_row row other (next_row before after at) some.0 too.0 in
    let rest = one_aligned before after (past row at) rows others some.1 (subst (λ (one : Row). AreAligned before after (past one at) others) (sym same) too.1)
    in
    ap₂ (λ (one : Row) (list : List Row). one ∷ list) same rest

pub one_list : (before after : List Step) (events : List PlacePair) (at : PlacePair) (rows others : List Row) → AreSideBySide before after events at rows →
    AreSideBySide before after events at others → rows ≡ others
one_list before after [] at rows others aligned too = one_aligned before after at rows others aligned too
one_list before after (event ∷ events) at rows others aligned too =
    let window = one_aligned (take event.before before) (take event.after after) at aligned.0 too.0 aligned.3 too.3 in
    let rest = one_list before after events (past (row_of event) at) aligned.1 too.1 aligned.4 too.4 in
    aligned.2 ∙ ap₂ (λ (list later : List Row). list ++ row_of event ∷ later) window rest ∙ sym too.2

-- a session has one settled run
pub one_run : (session : Session) (run other : RunView) → IsRunOf true session run → IsRunOf true session other → run ≡ other
one_run session run other is too =
    let same = settled_run_is_one session.header session.steps run.session.steps other.session.steps run.left other.left is.1 too.1 in
    let header = is.0 ∙ sym too.0 in
    let steps = same.0 in
    let left = same.1 in
    λ i. record { session = record { header = header i; steps = steps i }; left = left i }

pub settled_pair_is_one : SettledPairIsOne
settled_pair_is_one session edits pair other is too =
    let before = one_run session pair.before other.before is.before too.before in
    let after = one_run (after_edits session edits) pair.after other.after is.after too.after in
    let old = pair.before.session.steps in
    let new = pair.after.session.steps in
    let moved = subst (λ (run : RunView). AreSettledRows session edits old run.session.steps other.rows) (sym after)
    (subst (λ (run : RunView). AreSettledRows session edits run.session.steps other.after.session.steps other.rows) (sym before) too.rows) in
    let rows = one_list old new (shared_events session edits old new) first_places pair.rows other.rows is.rows moved in
    let refused = is.refused ∙ sym too.refused in
    let known = is.known ∙ sym too.known in
    λ i. record { before = before i; after = after i; rows = rows i; refused = refused i; known = known i }

pub simulated_pair_is_one : SimulatedPairIsOne
simulated_pair_is_one run later pair other is too =
    let before = is.is_before ∙ sym too.is_before in
    let after = is.is_after ∙ sym too.is_after in
    let old = run.session.steps in
    let new = later.session.steps in
    let rows = one_list old new (paired_events old new) first_places pair.rows other.rows is.rows too.rows in
    let refused = is.refused ∙ sym too.refused in
    let known = is.known ∙ sym too.known in
    λ i. record { before = before i; after = after i; rows = rows i; refused = refused i; known = known i }

pub kept_pair_is_one : KeptPairIsOne
kept_pair_is_one session edits places limit run later pair other is too =
    let before = is.is_before ∙ sym too.is_before in
    let after = is.is_after ∙ sym too.is_after in
    let old = run.session.steps in
    let new = later.session.steps in
    let rows = one_list old new (kept_events session edits old new) first_places pair.rows other.rows is.rows too.rows in
    let refused = is.is_refused ∙ sym too.is_refused in
    let known = is.is_known ∙ sym too.is_known in
    λ i. record { before = before i; after = after i; rows = rows i; refused = refused i; known = known i }
