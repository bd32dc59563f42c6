use Rattle.std.proofs.Common.{string_bytes}
use Rattle.std.specs.Prelude.{slice_index_or}
use Rattle.run_pictures.specs.declared.signs.Sign.TheVariants.{Running}
use Rattle.run_pictures.specs.Signs.{entry_text}
use Rattle.run_pictures.proofs.Rows.{row_more}
use Rattle.run_pictures.proofs.signs.push_entries.Goals as goal

pub loop-k-preserved : goal.loop-k-preserved
loop-k-preserved c =
    let k = c.loop-k.k in
    row_more (λ k. entry_text c.args.y k (slice_index_or c.args.signs.now k Running)) k (string_bytes c.args.text.now) (string_bytes c.loop-k.text)
    (string_bytes c.push_entry.new.text) c.loop-k.invariant c.in_ok-push_entry.ensures
