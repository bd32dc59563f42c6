use Rattle.std.proofs.Common.{All, length, true, ap, rules, sym, subst, ◌∙◌, inl, inr}
use Rattle.bench_types.specs.declared.kernel_data.Settings.{Settings}
use Rattle.bench_types.specs.Session.{Session}
use Rattle.bench_types.specs.Step.{settings_of}
use Rattle.kept_edits.specs.Edits.{plain_edits}
use Rattle.kept_runs.specs.Items.{edited_items}
use Rattle.kept_runs.specs.Works.{outside_steps, unmade_calls}
use Rattle.keeping.specs.Progress.{IsComing}
use Rattle.keeping.specs.Works.{IsUnmade}
use Rattle.kept_works.proofs.Edited.{settings_kept}
use Rattle.session_runs.specs.Run.{IsRunOf}
use Rattle.settled_runs.specs.Runs.{IsSettledTooLong}
use Rattle.kept_sessions.proofs.Made.{counted_behind, counted_thrice, long_is, on_err, runs_are, some_behind}
use Rattle.kept_sessions.proofs.run.made_runs.Goals as goal

pub returns-in_err-settled-clause-long : goal.returns-in_err-settled-clause-long
returns-in_err-settled-clause-long c is =
    inl (subst (λ (session : Session). IsSettledTooLong session) c.session.ensures (c.settled_run.ensures.long (search rules)))

pub returns-in_err-works-clause-some : goal.returns-in_err-works-clause-some
returns-in_err-works-clause-some c =
    on_err c.from_residual-in_err-works.result
    (counted_behind (length c.in_ok-settled.settled.session.steps) c.args.meter.now c.settled_run.new.meter c.kept_works.new.meter
    c.in_ok-settled.ensures.room c.in_ok-settled.ensures.counted c.in_err-works.ensures.some)

pub keep_run-requires-clause-unmade : goal.keep_run-requires-clause-unmade
keep_run-requires-clause-unmade c =
    let made = c.args.made.now in
    let header = c.header-header.ensures.header ∙ ap (λ (session : Session). session.header) c.edited.ensures in
    let same =
    ap (λ (session : Session). settings_of session.header) c.session-2.ensures ∙ sym (settings_kept made.session (plain_edits made.edits))
    ∙ ap settings_of (sym header) in
    subst (λ (settings : Settings). All (IsUnmade settings) c.in_ok-works.works.unmade.items) same c.in_ok-works.ensures.fit

pub keep_run-requires-clause-outside : goal.keep_run-requires-clause-outside
keep_run-requires-clause-outside c =
    let made = c.args.made.now in
    let header = c.header-header.ensures.header ∙ ap (λ (session : Session). session.header) c.edited.ensures in
    let same =
    ap (λ (session : Session). settings_of session.header) c.session-2.ensures ∙ sym (settings_kept made.session (plain_edits made.edits))
    ∙ ap settings_of (sym header) in
    subst (λ (settings : Settings). All (IsComing settings) c.in_ok-works.works.outside.items) same c.in_ok-works.ensures.comings

pub returns-in_err-kept-clause-long : goal.returns-in_err-kept-clause-long
returns-in_err-kept-clause-long c is =
    let settled = c.in_ok-settled.settled in
    let steps = settled.session.steps in
    inr
    (long_is c.args.order c.args.made.now settled (subst (λ (session : Session). IsRunOf true session settled) c.session.ensures c.in_ok-settled.ensures.run)
    c.header-header.result.now c.in_ok-works.works.unmade.items c.in_ok-works.works.outside.items
    (c.header-header.ensures.header ∙ ap (λ (session : Session). session.header) c.edited.ensures)
    (c.in_ok-works.ensures.unmade
    ∙ (λ i. unmade_calls (c.session-2.ensures i) steps (edited_items (c.session-2.ensures i) (c.edits.ensures.edits i))))
    (c.in_ok-works.ensures.outside
    ∙ (λ i. outside_steps (c.session-2.ensures i) steps (edited_items (c.session-2.ensures i) (c.edits.ensures.edits i))))
    (c.keep_run.ensures.long (search rules)))

pub returns-in_err-kept-clause-some : goal.returns-in_err-kept-clause-some
returns-in_err-kept-clause-some c =
    on_err c.from_residual-in_err-kept.result
    (some_behind (length c.in_ok-settled.settled.session.steps) c.args.meter.now c.settled_run.new.meter c.kept_works.new.meter
    c.keep_run.new.meter c.in_ok-settled.ensures.room c.in_ok-settled.ensures.counted c.in_ok-works.ensures.counted c.in_err-kept.ensures.some)

pub returns-clause-runs : goal.returns-clause-runs
returns-clause-runs c =
    let settled = c.in_ok-settled.settled in
    let steps = settled.session.steps in
    runs_are c.args.order c.args.made.now settled (subst (λ (session : Session). IsRunOf true session settled) c.session.ensures c.in_ok-settled.ensures.run)
    c.header-header.result.now c.in_ok-works.works.unmade.items c.in_ok-works.works.outside.items
    (c.header-header.ensures.header ∙ ap (λ (session : Session). session.header) c.edited.ensures)
    (c.in_ok-works.ensures.unmade
    ∙ (λ i. unmade_calls (c.session-2.ensures i) steps (edited_items (c.session-2.ensures i) (c.edits.ensures.edits i))))
    (c.in_ok-works.ensures.outside
    ∙ (λ i. outside_steps (c.session-2.ensures i) steps (edited_items (c.session-2.ensures i) (c.edits.ensures.edits i))))
    c.in_ok-settled.ensures.room c.in_ok-kept.kept c.in_ok-kept.ensures.header c.in_ok-kept.ensures.run c.in_ok-kept.ensures.end

pub returns-clause-counted : goal.returns-clause-counted
returns-clause-counted c =
    let many = length c.in_ok-settled.settled.session.steps in
    counted_thrice many many (length c.in_ok-kept.kept.run.session.steps) c.args.meter.now c.settled_run.new.meter c.kept_works.new.meter
    c.keep_run.new.meter c.in_ok-settled.ensures.counted c.in_ok-works.ensures.counted c.in_ok-kept.ensures.counted
