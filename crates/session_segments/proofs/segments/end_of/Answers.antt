use Rattle.std.proofs.Common.{◌≡◌, ◌+◌, ◌-◌, ◌<◌, List, ℕ, length, take, Some, sym, ap, ◌∙◌, arith}
use Rattle.std.specs.Prelude.{slice_get}
use Rattle.std.proofs.lemmas.List.{take_all}
use Rattle.std.proofs.lemmas.Option.{slice_get-get_or, slice_get_within}
use Rattle.bench_types.specs.declared.step.Step.{Step}
use Rattle.segment_laws.specs.Segments.{all_steps, lengths, starts}
use Rattle.segment_laws.proofs.Starts.{more_steps}
use Rattle.session_segments.proofs.Places.{end_found}
use Rattle.session_segments.proofs.segments.end_of.Given as given
use Rattle.session_segments.proofs.segments.end_of.Goals as goal

end_is : (g : given.Over) (c : goal.After-steps g) → c.in-Some.field-0.now + length c.steps.result.now ≡ length
    (all_steps (take (length c.args.places.now) c.args.segments.now))
end_is g c =
    let places = c.args.places.now in
    let segments = c.args.segments.now in
    let n = length places - 1 in
    let segment = c.index-segments-places.result in
    let there = sym c.in-Some.ensures.value in
    let low : n < length places = slice_get_within places n c.in-Some.field-0.now there in
    let next : n + 1 ≡ length places = omega (arith, low) in
    let found : slice_get segments n ≡ Some segment = slice_get-get_or segments n segment (omega (arith, low, c.requires.within)) ∙ ap Some
    (sym c.index-segments-places.is) in
    let replayable = ap (λ (m : ℕ). slice_get (starts 0 (lengths (take m segments))) n) next ∙ ap (λ (ps : List ℕ). slice_get ps n) (sym c.requires.places) ∙
    there in
    ap (λ (steps : List Step). c.in-Some.field-0.now + length steps) c.steps.ensures.steps ∙ end_found segments n c.in-Some.field-0.now segment found replayable
    ∙ ap (λ (m : ℕ). length (all_steps (take m segments))) next

pub overflow_add-result : goal.overflow_add-result
overflow_add-result g c =
    let segments = c.args.segments.now in
    let all : length (all_steps (take (length segments) segments)) ≡ length (all_steps segments) = ap (λ ss. length (all_steps ss))
    (take_all (length segments) segments (omega arith)) in
    omega (arith, end_is g c, more_steps segments (length c.args.places.now) (length segments) c.requires.within, all, c.requires.few)

pub returns-in-Some : goal.returns-in-Some
returns-in-Some g c = end_is g c
