use Rattle.std.proofs.Common.{is_some, ap}
use Rattle.json_data.proofs.Objects.{an_object, no_object}
use Rattle.json_data.proofs.item.Item.as_object.Goals as goal

pub new-requires : goal.new-requires
new-requires c = ap is_some (an_object _ _ c.args.self.now.valid c.in-Some.ensures).shows

pub returns-in-None : goal.returns-in-None
returns-in-None c = no_object _ c.args.self.now.valid c.in-None.ensures
