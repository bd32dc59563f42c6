use Rattle.std.proofs.Common.{◌∙◌, [], ap, refl, subst}
use Rattle.bench_types.specs.declared.header.Header.{Header}
use Rattle.bench_types.specs.declared.kernel_data.Settings.{Settings}
use Rattle.bench_types.specs.Session.{Session}
use Rattle.bench_types.specs.Step.{settings_of}
use Rattle.keeping.specs.Works.{IsWorksAtStart}
use Rattle.keeping.proofs.Going.{held_at_start}
use Rattle.keeping.proofs.keeping.Keeping.start.Goals as goal

begun : Header → Session
begun header = record { header = header; steps = [] }

pub returns-clause-here : goal.returns-clause-here
unfolding begun
returns-clause-here c =
    let header = c.args.header.now in
    let run = c.in_ok-run.ensures ∙ ap begun c.in_ok-copy.ensures in
    let settings = c.settings-tasks.ensures.settings ∙ c.kernel.ensures.settings ∙ ap (λ (run : Session). settings_of run.header) run in
    held_at_start _ c.args.order header c.args.unmade.items c.args.outside.items c.requires.header run refl refl refl refl
    (subst (λ (settings : Settings). IsWorksAtStart c.args.unmade.items settings.tasks c.in_ok-works.works) settings c.in_ok-works.ensures)
    c.requires.unmade c.requires.outside c.requires.few c.kernel.ensures.stands.sound
