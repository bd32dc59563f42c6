use Rattle.std.proofs.Common.{length, ap, arith}
use Rattle.text_locations.proofs.Counts.{tokens_short}
use Rattle.text_locations.proofs.search.location_of_path.Goals as goal

pub index_in_whole-requires : goal.index_in_whole-requires
index_in_whole-requires c = omega (arith, tokens_short c.args.text.now, ap length c.in_ok-reader.ensures.ok)
