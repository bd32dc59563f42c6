use Rattle.std.proofs.Common.{◌≡◌, ℕ, List, Global, Option, Vec, length, map, suc, ap, subst, sym, ◌∙◌, arith}
use Rattle.std.proofs.lemmas.Result.{IfOk-weaker}
use Rattle.std.proofs.lemmas.List.FromFn.{length-map-range_with_len}
use Rattle.list_orders.specs.Search.{numbers}
use Rattle.kept_runs.specs.Items.{settled_place}
use Rattle.kept_works.specs.Places.{event_place, place_from, AreRowsOf}
use Rattle.kept_works.proofs.FirstPlaces.{document_places}
use Rattle.kept_works.proofs.places.settled_places.Goals as goal

pub places_from-requires : goal.places_from-requires
places_from-requires c =
    let own = event_place c.args.tasks c.args.document.now c.as_slice.result.now (length c.args.settled.now) in
    let many = ap (λ (own : List (Option ℕ)). length own) (c.as_slice-2.ensures.value ∙ c.in_ok-own.ensures)
    ∙ length-map-range_with_len own 0 (length c.args.document.now) in
    omega (arith, many, c.requires.few)

pub returns : goal.returns
returns c =
    let document = c.args.document.now in
    let settled = c.args.settled.now in
    let are = subst (AreRowsOf c.args.tasks settled) (sym c.as_slice.ensures.value) c.in_ok-rows.ensures in
    IfOk-weaker c.places_from.result (λ (places : Vec ℕ Global). places.items ≡ map (place_from c.as_slice-2.result.now (length settled)) (numbers (suc (length c.as_slice-2.result.now))))
    (λ (places : Vec ℕ Global). places.items ≡ map (settled_place document settled) (numbers (suc (length document))))
    (λ places is.
    document_places c.args.tasks document settled c.as_slice.result.now are c.requires.document c.requires.settled c.as_slice-2.result.now places.items
    (c.as_slice-2.ensures.value ∙ c.in_ok-own.ensures) is)
    c.places_from.ensures
