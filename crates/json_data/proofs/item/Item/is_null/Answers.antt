use Rattle.json_data.proofs.Values.{null_at}
use Rattle.json_data.proofs.item.Item.is_null.Goals as goal

pub returns : goal.returns
returns c = null_at _ c.is_null.result c.args.self.now.valid c.is_null.ensures
