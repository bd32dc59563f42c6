use Rattle.json_data.proofs.Values.{str_at}
use Rattle.json_data.proofs.item.Item.as_str.Goals as goal

pub returns : goal.returns
returns c = str_at _ _ c.args.self.now.valid c.as_str.ensures
