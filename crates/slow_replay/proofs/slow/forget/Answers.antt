use Rattle.std.proofs.Common.{not, eqb, rules, tests}
use Rattle.std.proofs.lemmas.Fn.{filter_same}
use Rattle.bench_types.specs.declared.kernel_data.Waiter.{Waiter}
use Rattle.slow_replay.proofs.slow.forget.Goals as goal

pub returns : goal.returns
returns c = filter_same _ (λ (waiter : Waiter). not (eqb waiter.task c.args.task)) _ (λ x b f r. search (rules, tests)) _ _ c.retain.ensures.filtered
