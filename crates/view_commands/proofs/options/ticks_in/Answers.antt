use Rattle.std.proofs.Common.{◌≡◌, ◌∙◌, ◌<◌, ◌^◌, ℕ, Option, None, Some, unwrap_or, refl, ap, codes, arith}
use Rattle.std.specs.Prelude.{option_map}
use Rattle.std.specs.Option.{option_map_or}
use Rattle.clap.specs.Words.{Text, found_of, one_of, rows_of}
use Rattle.command_words.specs.Asking.{number_of}
use Rattle.command_words.proofs.NumberTexts.{number_is_read}
use Rattle.task_programs.specs.Limits.{max_ticks}
use Rattle.view_commands.proofs.options.ticks_in.Goals as goal

-- what is the same with each other number in place of none is the same
same_number : (read found : Option ℕ) → ((other : ℕ) → unwrap_or read other ≡ unwrap_or found other) → read ≡ found
same_number None None same = refl
same_number None (Some n) same = absurd (omega (arith, same 0, same 1))
same_number (Some n) None same = absurd (omega (arith, same 0, same 1))
same_number (Some n) (Some m) same = ap (λ (k : ℕ). Some k) (same 0)

mapped : (text : Option Text) (other : ℕ) → option_map_or number_of text other ≡ unwrap_or (option_map number_of text) other
mapped None other = refl
mapped (Some text) other = refl

pub returns : goal.returns
returns c =
    let row = one_of (codes "ticks") (rows_of (found_of c.args.options.now)) in
    let few : max_ticks < 2 ^ 32 = omega arith in
    same_number c.get_one.result (option_map number_of row)
    (λ other. number_is_read 32 0 max_ticks few (found_of c.args.options.now) (codes "ticks") other c.requires.ticks c.get_one.result c.get_one.ensures.none
    c.get_one.ensures.value ∙ mapped row other)
