use Rattle.std.proofs.Common.{None, Some, ap, ◌∙◌}
use Rattle.json_data.proofs.Arrays.{array_at}
use Rattle.json_data.proofs.item.Item.as_array.Goals as goal

pub new-requires : goal.new-requires
new-requires c = (array_at _ (Some _) c.args.self.now.valid c.in-Some.ensures).0

pub returns-in-Some : goal.returns-in-Some
returns-in-Some c = ap Some c.new.ensures ∙ (array_at _ (Some _) c.args.self.now.valid c.in-Some.ensures).1

pub returns-in-None : goal.returns-in-None
returns-in-None c = array_at _ None c.args.self.now.valid c.in-None.ensures
