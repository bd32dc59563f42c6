use Rattle.std.proofs.Common.{◌∙◌, ◌++◌, ◌∷◌, [], ap, arith, length, subst, sym}
use Rattle.bench_types.specs.Session.{Session}
use Rattle.bench_types.specs.Step.{settings_of, IsCheckedStep}
use Rattle.keeping.specs.Works.{AreFit}
use Rattle.keeping.proofs.Going.{checked_next, held_after}
use Rattle.keeping.proofs.keeping.Keeping.make.Goals as goal

pub make-requires-clause-checked : goal.make-requires-clause-checked
make-requires-clause-checked c =
    subst (λ (run : Session). IsCheckedStep (settings_of run.header) c.args.step) (sym c.go_on.ensures.run)
    (checked_next c.args.self.now c.requires.now c.requires.holds c.args.step c.requires.is)

pub returns-clause-made : goal.returns-clause-made
returns-clause-made c now holds next =
    let gone = c.go_on.ensures.gone now holds next in
    let step = c.args.step in
    held_after c.args.self.now now holds step next _
    (c.in_ok-make.ensures.made ∙ ap (λ (run : Session). record run { steps = run.steps ++ step ∷ [] }) c.go_on.ensures.run)
    c.is_pass-self.ensures (record { order = gone.rest.order; works = gone.rest.works; outside = gone.rest.outside })
    (subst (λ (run : Session). AreFit (settings_of run.header) c.go_on.new.self.works) c.go_on.ensures.run gone.fit) gone.few
    (omega (arith, c.if-steps.false, ap length c.steps.ensures.steps))
