use Rattle.std.proofs.Common.{◌+◌, ◌*◌, string_bytes}
use Rattle.run_pictures.specs.declared.frame.TheConstants.{CORE_ROW}
use Rattle.run_pictures.specs.CoreBands.{core_row}
use Rattle.run_pictures.proofs.Rows.{row_more}
use Rattle.run_pictures.proofs.picture.push_cores.Goals as goal

pub loop-core-preserved : goal.loop-core-preserved
loop-core-preserved c = row_more (λ core. core_row c.args.header.now c.args.frame.now (c.args.y + CORE_ROW * core) c.args.looks.now core) c.loop-core.core
    (string_bytes c.args.text.now) (string_bytes c.loop-core.text) (string_bytes c.push_core_row.new.text) c.loop-core.invariant c.in_ok-push_core_row.ensures
