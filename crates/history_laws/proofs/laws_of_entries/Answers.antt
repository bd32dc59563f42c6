use Rattle.history_laws.proofs.Parts.{made-push, made-append, cores_add}
use Rattle.history_laws.proofs.laws_of_entries.Goals as goal

pub returns : goal.returns
returns c = record { one_more_is_made = made-push; made_in_both = made-append; cores_add_up = cores_add }
