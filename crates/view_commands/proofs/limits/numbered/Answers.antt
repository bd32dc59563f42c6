use Rattle.std.proofs.Common.{◌∙◌, ℕ, Bool, ap, sym, Some, None, if◌then◌else◌}
use Rattle.command_words.specs.Asking.{number_of}
use Rattle.view_commands.proofs.NumberTexts.{read_is_amount, unread_is_none}
use Rattle.view_commands.proofs.limits.numbered.Goals as goal

pub returns-in-Ok : goal.returns-in-Ok
returns-in-Ok c =
    let name = c.args.name.now in
    let digits = c.args.digits.now in
    let is = read_is_amount digits c.in-Ok.ensures.value.0.0 in
    ap (λ (n : ℕ). Some (name, n)) c.in-Ok.ensures.value.0.1 ∙ sym (ap (λ (is : Bool). if is then Some (name, number_of digits) else None) is)

pub returns-in-Err : goal.returns-in-Err
returns-in-Err c =
    let name = c.args.name.now in
    let digits = c.args.digits.now in
    let is = unread_is_none digits c.in-Err.ensures.value.0 in
    sym (ap (λ (is : Bool). if is then Some (name, number_of digits) else None) is)
