use Rattle.std.proofs.Common.{rules, ◌≡◌, ◌∙◌, Bool, true, false, None, Some, ap, sym, codes, bytes_eq, if◌then◌else◌}
use Rattle.std.specs.Prelude.{option_and_then, option_map}
use Rattle.clap.specs.Words.{found_of}
use Rattle.clap.proofs.WalkLemmas.{first_value-rows}
use Rattle.view_commands.specs.Options.{file_named}
use Rattle.view_commands.proofs.options.file_in.Goals as goal

pub returns-in_default : goal.returns-in_default
returns-in_default c =
    let row = c.get_str.ensures ∙ first_value-rows (found_of c.args.options.now) (codes "file") in
    ap (option_and_then file_named) (ap (option_map (λ s. s.now)) (sym c.in_default.is) ∙ row)

pub returns-then-eq : goal.returns-then-eq
returns-then-eq c =
    let row = c.get_str.ensures ∙ first_value-rows (found_of c.args.options.now) (codes "file") in
    let named : bytes_eq c.in-Some.name.now (codes "-") ≡ true = search rules in
    sym (ap (λ (is : Bool). if is then None else Some c.in-Some.name.now) named) ∙ ap (option_and_then file_named)
    (ap (option_map (λ s. s.now)) (sym c.in-Some.is) ∙ row)

pub returns : goal.returns
returns c =
    let row = c.get_str.ensures ∙ first_value-rows (found_of c.args.options.now) (codes "file") in
    let named : bytes_eq c.in-Some.name.now (codes "-") ≡ false = search rules in
    let text : c.in_ok-text.text.bytes.items ≡ c.in-Some.name.now = search rules in
    ap Some text ∙ sym (ap (λ (is : Bool). if is then None else Some c.in-Some.name.now) named) ∙ ap (option_and_then file_named)
    (ap (option_map (λ s. s.now)) (sym c.in-Some.is) ∙ row)
