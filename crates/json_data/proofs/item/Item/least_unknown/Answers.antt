use Rattle.std.proofs.Common.{map, option_map, ◌∙◌}
use Rattle.json_data.proofs.Objects.{no_object, unknown_name}
use Rattle.json_data.proofs.item.Item.least_unknown.Goals as goal

pub returns-in-Some : goal.returns-in-Some
returns-in-Some c all is =
    unknown_name (map (λ name. name.now) c.args.names.now) _ _ (option_map (λ name. name.now) c.least_unknown_key.result) all c.args.self.now.valid
    c.in-Some.ensures c.least_unknown_key.ensures is

pub returns-in-None : goal.returns-in-None
returns-in-None c all is = absurd (cc (no_object _ c.args.self.now.valid c.in-None.ensures ∙ is))
