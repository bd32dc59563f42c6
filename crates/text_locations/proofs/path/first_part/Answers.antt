use Rattle.std.proofs.Common.{◌∷◌, ◌≤◌, length, ap₂, ◌∙◌, sym, arith}
use Rattle.std.specs.Prelude.{not}
use Rattle.std.proofs.lemmas.List.Sums.{prefix_len-le-length}
use Rattle.text_locations.specs.Path.{is_separator, parts}
use Rattle.text_locations.proofs.Paths.{first_piece}
use Rattle.text_locations.proofs.path.first_part.Goals as goal

pub returns-then-end-gt0 : goal.returns-then-end-gt0
returns-then-end-gt0 c =
    let r = c.loop-rest.rest.now in
    let end = c.piece_len-end.result in
    let within : end ≤ length r = omega (arith, c.piece_len-end.ensures, prefix_len-le-length (λ b. not (is_separator b)) r) in
    c.loop-rest.invariant.0 ∙ first_piece r end c.piece_len-end.ensures within c.if-end-gt0.true
    ∙ ap₂ (λ part rest. part ∷ parts rest) (sym c.of_piece.ensures) (sym c.after_piece-rest.ensures)
