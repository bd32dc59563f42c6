use Rattle.std.proofs.Common.{◌≡◌, ℕ, ◌+◌, ◌<◌, length, get_or, subst, sym, ap, ◌∙◌, arith}
use Rattle.std.specs.Prelude.{slice_set}
use Rattle.std.proofs.lemmas.List.{get_or_read}
use Rattle.run_columns.specs.SlotColumns.{places_in, places_with}
use Rattle.run_columns.proofs.LinedUp.{all_places, bumped, list_of, places_few, places_more, slot_low, AreEach}
use Rattle.run_columns.proofs.slots.slot_counts.Goals as goal

pub overflow_add-index_mut : goal.overflow_add-index_mut
overflow_add-index_mut c =
    let slots = c.args.slots.now in
    let place = c.loop-slot.slot-index in
    let slot = get_or slots place 0 in
    let under = slot_low slots place c.requires.slots c.loop-slot-test.true in
    let low : slot < c.args.count = omega (arith, under, c.requires.low) in
    let old = get_or_read c.loop-slot.counts.items slot c.index_mut.result.now (omega (arith, low, c.loop-slot.invariant.size)) c.index_mut.ensures.value 0 in
    let so = c.loop-slot.invariant.each slot low in
    let few = places_few slots place slot (omega (arith, c.loop-slot-test.true)) in
    omega (arith, old, so, few, c.requires.slots.few, c.loop-slot-test.true)

pub loop-slot-preserved : goal.loop-slot-preserved
loop-slot-preserved c =
    let slots = c.args.slots.now in
    let place = c.loop-slot.slot-index in
    let slot = get_or slots place 0 in
    let counts = c.loop-slot.counts.items in
    let under = slot_low slots place c.requires.slots c.loop-slot-test.true in
    let low : slot < c.args.count = omega (arith, under, c.requires.low) in
    let old = get_or_read counts slot c.index_mut.result.now (omega (arith, low, c.loop-slot.invariant.size)) c.index_mut.ensures.value 0 in
    subst (λ (n : ℕ). AreEach (places_with slots (place + 1)) c.args.count (slice_set counts slot (n + 1))) (sym old)
    (bumped (places_with slots place) (places_with slots (place + 1)) c.args.count slot counts c.loop-slot.invariant low
    (λ k. places_more slots place k c.loop-slot-test.true))

pub returns : goal.returns
returns c =
    let slots = c.args.slots.now in
    let end : c.loop-slot.slot-index ≡ length slots = omega (arith, c.loop-slot-test.false, c.loop-slot.auto.slot-index-end) in
    list_of (places_in slots) c.args.count c.loop-slot.counts.items (record {
      size = c.loop-slot.invariant.size;
      each = λ k low. c.loop-slot.invariant.each k low ∙ ap (λ (n : ℕ). places_with slots n k) end ∙ all_places slots k;
    })
