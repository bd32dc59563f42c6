use Rattle.std.proofs.Common.{◌≡◌, Option, Some, None, ℕ, refl, sym, ap, ◌∙◌}
use Rattle.std.specs.Global.{Vec}
use Rattle.std.specs.Prelude.{option_map}
use Rattle.session_store.specs.Outcomes.{row_items}
use Rattle.bench_commands.proofs.Replays.{start_not_none}
use Rattle.bench_commands.proofs.shown_row.ShownRow.at_start.Goals as goal

none_of : (found : Option (Vec ℕ)) → ((row : Vec ℕ) → found ≡ Some row → ⊥) → found ≡ None
none_of None never = refl
none_of (Some row) never = absurd (never row refl)

pub returns-in_default : goal.returns-in_default
returns-in_default c =
    let session = c.args.store.now.session in
    let none = none_of c.in_ok-tasks.field-0 c.in_default.not-Some in
    absurd (start_not_none session.header session.steps (sym (ap (λ (row : Option (Vec ℕ)). option_map row_items row) none) ∙ c.in_ok-tasks.ensures.row))
