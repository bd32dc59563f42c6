use Rattle.std.proofs.Common.{◌∙◌, ap, sym, option_map, arith}
use Rattle.std.specs.Prelude.{option_and_then}
use Rattle.view_commands.specs.Options.{number_behind}
use Rattle.view_commands.proofs.LastSign.{last_sign}
use Rattle.view_commands.proofs.limits.limit_parts.Goals as goal

pub returns-in-Some : goal.returns-in-Some
returns-in-Some c =
    let split = last_sign 61 c.args.text.now c.rsplit_once.result c.rsplit_once.ensures.cases (omega arith) in
    c.numbered.ensures ∙ ap (option_and_then number_behind) (ap (option_map (λ x. (x.0.now, x.1.now))) (sym c.in-Some.is) ∙ split)

pub returns-in-None : goal.returns-in-None
returns-in-None c =
    let split = last_sign 61 c.args.text.now c.rsplit_once.result c.rsplit_once.ensures.cases (omega arith) in
    ap (option_and_then number_behind) (ap (option_map (λ x. (x.0.now, x.1.now))) (sym c.in-None.is) ∙ split)
