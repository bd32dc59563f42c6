use Rattle.std.proofs.Common.{◌≡◌, List, length, sym, subst, ap, ap₂, ◌∙◌, arith}
use Rattle.bench_types.specs.declared.header.Header.{Header}
use Rattle.bench_types.specs.declared.step.Step.{Step}
use Rattle.bench_types.specs.Session.{IsSession, Session}
use Rattle.ranked_changes.specs.declared.change.Change.{Change}
use Rattle.ranked_changes.specs.Changed.{changed_header, changed_session, changed_steps, IsHeaderChange, IsStepChange}
use Rattle.ranked_changes.proofs.ChangedSessions.{session_kept, steps_kept}
use Rattle.ranked_changes.proofs.changed.changed_session.Goals as goal

-- the parts of the session with the change made
made_is : (session : Session) (change : Change) (own : Header) (steps : List Step) (header : Header) (later : List Step) → own ≡ session.header
    → steps ≡ session.steps → header ≡ changed_header own change → later ≡ changed_steps steps change
    → record { header = header; steps = later } ≡ changed_session session change
made_is session change own steps header later same_header same_steps made_header made_steps =
    ap₂ (λ (header : Header) (steps : List Step). record { header = header; steps = steps })
    (made_header ∙ ap (λ (header : Header). changed_header header change) same_header)
    (made_steps ∙ ap (λ (steps : List Step). changed_steps steps change) same_steps)

pub header_with-requires : goal.header_with-requires
header_with-requires c = subst (λ (header : Header). IsHeaderChange header c.args.change) (sym c.header.ensures.header) c.requires.header

pub steps_with-requires : goal.steps_with-requires
steps_with-requires c = subst (λ (steps : List Step). IsStepChange steps c.args.change) (sym c.steps.ensures.steps) c.requires.steps

pub new-requires : goal.new-requires
new-requires c =
    let session = c.args.session.now in
    let made = made_is session c.args.change c.header.result.now c.steps.result.now c.in_ok-header.header c.in_ok-steps.steps.items c.header.ensures.header
    c.steps.ensures.steps c.in_ok-header.ensures c.in_ok-steps.ensures in
    subst IsSession (sym made) (session_kept session c.args.change c.header.ensures.checked.checked c.requires.header c.requires.steps)

pub unreachable-requires : goal.unreachable-requires
unreachable-requires c =
    let size = λ (steps : List Step). length steps in
    let same = ap size c.in_ok-steps.ensures ∙ steps_kept c.steps.result.now c.args.change ∙ ap size c.steps.ensures.steps in
    omega (arith, same, c.in-None.ensures.long, c.header.ensures.checked.few)

pub returns : goal.returns
returns c =
    c.in-Some.ensures.session
    ∙ made_is c.args.session.now c.args.change c.header.result.now c.steps.result.now c.in_ok-header.header c.in_ok-steps.steps.items c.header.ensures.header
    c.steps.ensures.steps c.in_ok-header.ensures c.in_ok-steps.ensures
