use Rattle.json_data.proofs.Objects.{object_gathered, object_readable}
use Rattle.json_data.proofs.gathered.hold_all.Goals as goal

pub hold-requires-clause-readable : goal.hold-requires-clause-readable
hold-requires-clause-readable c = object_readable c.args.item.now c.in-Some.members c.in-Some.ensures

pub returns-in-Some : goal.returns-in-Some
returns-in-Some c is = object_gathered c.args.item.now c.in-Some.members c.hold.new.held.items c.in-Some.ensures (c.hold.ensures is)
