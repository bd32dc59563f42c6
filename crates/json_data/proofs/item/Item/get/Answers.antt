use Rattle.std.proofs.Common.{Some, None}
use Rattle.json_data.proofs.Values.{got}
use Rattle.json_data.proofs.item.Item.get.Goals as goal

pub invariant_of-result : goal.invariant_of-result
invariant_of-result c = record { valid = (got c.args.name.now _ (Some _) c.args.self.now.valid c.in-Some.ensures).0 }

pub returns-in-Some : goal.returns-in-Some
returns-in-Some c = (got c.args.name.now _ (Some _) c.args.self.now.valid c.in-Some.ensures).1

pub returns-in-None : goal.returns-in-None
returns-in-None c = got c.args.name.now _ None c.args.self.now.valid c.in-None.ensures
