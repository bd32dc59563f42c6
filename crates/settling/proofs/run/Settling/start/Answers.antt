use Rattle.std.proofs.Common.{◌∙◌, [], List, ap, subst, sym, refl}
use Rattle.bench_types.specs.declared.header.Header.{Header}
use Rattle.bench_types.specs.declared.kernel_data.Settings.{Settings}
use Rattle.bench_types.specs.declared.step.Step.{Step}
use Rattle.bench_types.specs.Header.{IsCheckedHeader}
use Rattle.bench_types.specs.Session.{Session}
use Rattle.bench_types.specs.Step.{settings_of}
use Rattle.bench_model.specs.Session.{state_after}
use Rattle.bench_model.specs.Sound.{IsSound}
use Rattle.bench_model.specs.Start.{start}
use Rattle.settling.specs.Places.{AreQueues, HasCallers}
use Rattle.settling.proofs.Progress.{at_start, callers_low}
use Rattle.settling.proofs.run.Settling.start.Goals as goal

-- no steps were made yet
begun : Header → Session
begun header = record { header = header; steps = [] }

pub start-requires : goal.start-requires
start-requires c = subst IsCheckedHeader (sym (c.in_ok-header.ensures ∙ c.header.ensures.header)) c.header.ensures.checked.checked.header

pub new-requires : goal.new-requires
new-requires c =
    let session = c.args.session.now in
    let header = ap (λ (run : Session). run.header) c.in_ok-run.ensures ∙ c.in_ok-header.ensures ∙ c.header.ensures.header in
    let settings = c.settings-tasks.ensures.settings ∙ c.kernel.ensures.settings ∙ ap settings_of header in
    subst (λ (steps : List Step). HasCallers steps c.settings-tasks.result.tasks) (sym c.steps.ensures.steps)
    (callers_low session c.settings-tasks.result.tasks c.steps.ensures.checked (sym (ap (λ (settings : Settings). settings.tasks) settings)))

pub returns-clause-entered : goal.returns-clause-entered
unfolding begun
returns-clause-entered c =
    let session = c.args.session.now in
    let queues = c.in_ok-queues.queues in
    let header = c.in_ok-header.ensures ∙ c.header.ensures.header in
    let run = c.in_ok-run.ensures ∙ ap begun header in
    let settings = c.settings-tasks.ensures.settings ∙ c.kernel.ensures.settings ∙ ap (λ (run : Session). settings_of run.header) run in
    at_start session _ c.steps.ensures.checked run refl
    (subst (λ (run : Session). IsSound (state_after (start run.header) run.steps)) run c.kernel.ensures.stands.sound)
    (subst (λ (steps : List Step). AreQueues steps 0 (settings_of session.header).tasks queues.heads.items queues.next.items) c.steps.ensures.steps
    (subst (λ (settings : Settings). AreQueues c.steps.result.now 0 settings.tasks queues.heads.items queues.next.items) settings c.in_ok-queues.ensures))
