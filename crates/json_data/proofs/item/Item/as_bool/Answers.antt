use Rattle.json_data.proofs.Values.{bool_at}
use Rattle.json_data.proofs.item.Item.as_bool.Goals as goal

pub returns : goal.returns
returns c = bool_at _ c.as_bool.result c.args.self.now.valid c.as_bool.ensures
