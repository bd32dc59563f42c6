use Rattle.std.proofs.Common.{◌≡◌, [], ◌∷◌, List, length, Some, refl, subst, arith}
use Rattle.json.specs.Json.{value, max_depth}
use Rattle.json.specs.Reads.{token_of}
use Rattle.json.specs.Token.{Token}
use Rattle.text_locations.specs.Leads.{wanted_at}
use Rattle.text_locations.specs.Path.{parts}
use Rattle.text_locations.specs.Walk.{Passes}
use Rattle.text_locations.proofs.Walks.{whole_refused, whole_passed, whole_goes_on}
use Rattle.text_locations.proofs.search.index_in_whole.Goals as goal

pub returns-in-Err : goal.returns-in-Err
returns-in-Err c = whole_refused c.args.reader.now (parts c.args.path.now) (c.in-Err.ensures.invalid refl)

pub returns-in-None : goal.returns-in-None
returns-in-None c =
    let none : c.passed_value.new.reader ≡ [] = grind arith in
    whole_passed c.args.reader.now (parts c.args.path.now) (length c.args.reader.now) c.in-Ok.passed
    (subst (λ (left : List Token). Passes (value max_depth c.args.reader.now) 0 (length c.args.reader.now) left (wanted_at (Some (parts c.args.path.now)) 0)
    c.in-Ok.passed) none c.in-Ok.ensures.ok)

pub returns-in-Some : goal.returns-in-Some
returns-in-Some c =
    let more : c.passed_value.new.reader ≡ token_of c.in-Some.field-0 ∷ c.next.new.self = grind arith in
    whole_goes_on c.args.reader.now (parts c.args.path.now) (length c.args.reader.now) c.in-Ok.passed (token_of c.in-Some.field-0) c.next.new.self
    (subst (λ (left : List Token). Passes (value max_depth c.args.reader.now) 0 (length c.args.reader.now) left (wanted_at (Some (parts c.args.path.now)) 0)
    c.in-Ok.passed) more c.in-Ok.ensures.ok)
