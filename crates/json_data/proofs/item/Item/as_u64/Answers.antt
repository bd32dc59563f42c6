use Rattle.std.proofs.Common.{None, Some, ◌∙◌, ap}
use Rattle.std.specs.Prelude.{option_and_then}
use Rattle.serde_json.specs.Find.{as_u64}
use Rattle.json_data.proofs.Values.{number_at}
use Rattle.json_data.proofs.item.Item.as_u64.Goals as goal

pub returns-in-None : goal.returns-in-None
returns-in-None c = ap (option_and_then as_u64) (number_at _ None c.args.self.now.valid c.in-None.ensures)

pub returns-in-Some : goal.returns-in-Some
returns-in-Some c = c.whole_number.ensures ∙ ap (option_and_then as_u64) (number_at _ (Some _) c.args.self.now.valid c.in-Some.ensures)
