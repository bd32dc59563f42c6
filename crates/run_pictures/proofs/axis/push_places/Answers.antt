use Rattle.std.proofs.Common.{◌+◌, ◌++◌, ◌∙◌, ap, string_bytes}
use Rattle.run_pictures.specs.Axis.{place_label}
use Rattle.run_pictures.proofs.Rows.{row_more}
use Rattle.run_pictures.proofs.axis.push_places.Goals as goal

pub loop-k-preserved : goal.loop-k-preserved
loop-k-preserved c = row_more (λ k. place_label c.args.frame.now c.args.y (c.args.frame.now.first + k) (c.args.frame.now.first + k)) c.loop-k.k (string_bytes c.args.text.now)
    (string_bytes c.loop-k.text) (string_bytes c.push_number.new.text) c.loop-k.invariant
    (c.in_ok-push_number.ensures
    ∙ ap (λ number. string_bytes c.loop-k.text ++ place_label c.args.frame.now c.args.y (c.args.frame.now.first + c.loop-k.k) number) c.from.ensures)
