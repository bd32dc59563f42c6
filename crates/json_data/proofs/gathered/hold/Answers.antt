use Rattle.std.proofs.Common.{refl, sym, subst}
use Rattle.json.specs.Json as json
use Rattle.json_data.specs.Held.{Passed}
use Rattle.json_data.specs.Opening.{AreRead}
use Rattle.json_data.proofs.Gathering.{begins_read, passed_push, rest_read}
use Rattle.json_data.proofs.gathered.hold.Goals as goal

pub loop-name-init : goal.loop-name-init
loop-name-init c all inside = (all, inside, subst (λ xs. Passed xs all all) (sym c.requires.empty) refl)

pub invariant_of-value : goal.invariant_of-value
invariant_of-value c =
    let all = c.requires.readable in
    let so_far = c.loop-name.invariant all.0 all.1 in
    let read = rest_read c.loop-name.held.items all.0 so_far.0 so_far.2 all.2 in
    let next = c.in-Some.ensures.value so_far.0 so_far.1 in
    let here : AreRead (json.member c.in-Some.name.now next.0 next.1) = subst AreRead next.2 read in
    record { valid = begins_read _ next.0 next.3 here.0 here.1 }

pub loop-name-preserved : goal.loop-name-preserved
loop-name-preserved c all inside =
    let so_far = c.loop-name.invariant all inside in
    let next = c.in-Some.ensures.value so_far.0 so_far.1 in
    (next.1, next.4, passed_push _ _ _ next.0 all so_far.0 next.1 c.push.ensures.items so_far.2 next.2 next.3)

pub returns : goal.returns
returns c never all inside =
    let so_far = c.loop-name.invariant all inside in
    subst (λ ms. Passed c.loop-name.held.items all ms) (c.in_default.ensures.value so_far.0 so_far.1) so_far.2
