use Rattle.std.proofs.Common.{◌∙◌, ◌^◌, ◌-◌, ℕ, ap₂, codes, arith}
use Rattle.clap.specs.Words.{found_of}
use Rattle.run_views.specs.declared.places.Places.{Places}
use Rattle.command_words.proofs.NumberTexts.{number_is_read}
use Rattle.view_commands.proofs.options.places_in.Goals as goal

pub returns : goal.returns
returns c =
    let read = number_is_read 32 0 (2 ^ 32 - 1) (omega arith) (found_of c.args.options.now) in
    let first = c.unwrap_or.ensures ∙ read (codes "from") 0 c.requires.from c.get_one.result c.get_one.ensures.none c.get_one.ensures.value in
    let last = c.unwrap_or-2.ensures ∙ read (codes "to") (2 ^ 32 - 1) c.requires.to c.get_one-2.result c.get_one-2.ensures.none c.get_one-2.ensures.value in
    ap₂ places first last
  where
    places : ℕ → ℕ → Places
    places from to = record { from = from; to = to }
