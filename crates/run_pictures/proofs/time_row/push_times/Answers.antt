use Rattle.std.proofs.Common.{◌≡◌, ◌+◌, ◌++◌, ◌∙◌, List, ap, string_bytes}
use Rattle.std.specs.Prelude.{slice_index_or}
use Rattle.run_pictures.specs.Axis.{place_label}
use Rattle.run_pictures.proofs.Rows.{row_more}
use Rattle.run_pictures.proofs.time_row.push_times.Goals as goal

pub loop-k-preserved : goal.loop-k-preserved
loop-k-preserved c =
    let place = c.args.frame.now.first + c.loop-k.k in
    let written = c.in_ok-push_number.ensures ∙ ap (λ time. string_bytes c.loop-k.text ++ place_label c.args.frame.now c.args.y place time) c.time_at.ensures in
    row_more (λ k. place_label c.args.frame.now c.args.y (c.args.frame.now.first + k) (slice_index_or c.args.times.now (c.args.frame.now.first + k) 0))
    c.loop-k.k (string_bytes c.args.text.now) (string_bytes c.loop-k.text) (string_bytes c.push_number.new.text) c.loop-k.invariant written
