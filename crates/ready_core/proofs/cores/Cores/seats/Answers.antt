use Rattle.std.proofs.Common.{◌<◌, length, ◌∙◌, ap, arith}
use Rattle.std.proofs.lemmas.List.{get_or_read}
use Rattle.bench_model.specs.Cores.{CoresView}
use Rattle.ready_core.specs.Fields.{has_seat, is_set}
use Rattle.ready_core.proofs.cores.Cores.seats.Goals as goal

pub returns : goal.returns
returns c = λ core.
    let task = c.args.task in
    let seats = c.self.inside.seats.items in
    let low : task < length c.self.inside.tasks.items = omega (arith, c.requires, ap (λ (v : CoresView). length v.control.tasks) c.self.view_is) in
    ap (λ m. is_set m core) (get_or_read seats task c.index.result.now (omega (arith, low, c.self.invariant.shape.seated)) c.index.ensures 0)
    ∙ c.self.invariant.shape.at_core task low core ∙ ap (λ (v : CoresView). has_seat v.control task core) c.self.view_is
