use Rattle.json_data.proofs.Twice.{whole_once, whole_twice}
use Rattle.json_data.proofs.document.Document.doubled.Goals as goal

pub returns-in-Twice : goal.returns-in-Twice
returns-in-Twice c = whole_twice c.nodes.result.now c.args.self.now.tape c.in-Twice.doubled
    c.in_ok-whole.whole c.nodes.ensures.tokens c.args.self.now.valid c.in_ok-whole.ensures.passed
    c.in-Twice.is

pub returns-in-Next : goal.returns-in-Next
returns-in-Next c = whole_once c.nodes.result.now c.args.self.now.tape c.in-Next.field-0
    c.in_ok-whole.whole c.nodes.ensures.tokens c.args.self.now.valid c.in_ok-whole.ensures.passed
    c.in-Next.is
