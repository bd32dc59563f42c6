use Rattle.std.proofs.Common.{None, Some, ap, ◌∙◌, sym}
use Rattle.serde_json.specs.Data.{item}
use Rattle.json_data.specs.Reading.{rest_of}
use Rattle.json_data.proofs.Arrays.{next_at, next_valid}
use Rattle.json_data.proofs.items.Items.next.Goals as goal

pub invariant_of-self : goal.invariant_of-self
invariant_of-self c = record { valid = next_valid _ _ _ c.args.self.now.valid c.next.ensures.value c.next.ensures.stays }

pub new-requires : goal.new-requires
new-requires c = (next_at _ _ (Some _) c.args.self.now.valid c.in-Some.ensures.value).0

pub returns-in-Some : goal.returns-in-Some
returns-in-Some c = (next_at _ _ (Some _) c.args.self.now.valid c.in-Some.ensures.value).2 ∙ ap (λ d. item d (rest_of c.next.new.self)) (sym c.new.ensures)

pub returns-in-None : goal.returns-in-None
returns-in-None c = next_at _ c.next.new.self None c.args.self.now.valid c.in-None.ensures.value
