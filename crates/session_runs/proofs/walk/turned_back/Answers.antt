use Rattle.std.proofs.Common.{ap, length, sym, ◌∙◌}
use Rattle.session_runs.proofs.walk.turned_back.Goals as goal

pub copy_from_slice-requires : goal.copy_from_slice-requires
copy_from_slice-requires c =
    ap length c.requires ∙ c.first_row.ensures.cores c.args.from ∙ sym (c.first_row.ensures.cores 0) ∙ sym (ap length c.first_row.ensures.row)
