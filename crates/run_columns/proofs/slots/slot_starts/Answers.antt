use Rattle.std.proofs.Common.{◌≡◌, ℕ, ◌+◌, ◌∙◌, length, map, max, ap, arith}
use Rattle.std.specs.Prelude.{slice_index_or}
use Rattle.std.proofs.lemmas.List.FromFn.{length-map-range_with_len}
use Rattle.list_orders.specs.Search.{numbers}
use Rattle.run_columns.specs.SlotColumns.{places_in, slot_column}
use Rattle.run_columns.proofs.LinedUp.{columns_few, start_more}
use Rattle.run_columns.proofs.slots.slot_starts.Goals as goal

pub width_at-start-requires-clause-counts : goal.width_at-start-requires-clause-counts
width_at-start-requires-clause-counts c =
    let many = ap length c.as_slice.ensures.value ∙ ap length c.in_ok-counts.ensures ∙ length-map-range_with_len (places_in c.args.slots.now) 0
    c.slots_in-count.result in
    omega (arith, many, c.loop-slot-test.true)

pub width_at-start-requires-clause-more : goal.width_at-start-requires-clause-more
width_at-start-requires-clause-more c =
    let many = ap length c.as_slice-in-loop-slot.ensures.value ∙ ap length c.in_ok-more.ensures ∙ length-map-range_with_len (places_in c.args.later.now) 0
    c.slots_in-count.result in
    omega (arith, many, c.loop-slot-test.true)

-- one more slot
more : (c : goal.After-width_at-start) → (c.push.new.self.items ≡ map (slot_column c.args.slots.now c.args.later.now) (numbers (c.loop-slot.slot + 1))) ×
    (c.loop-slot.start + c.width_at-start.result ≡ slot_column c.args.slots.now c.args.later.now (c.loop-slot.slot + 1))
more c =
    let slot = c.loop-slot.slot in
    start_more c.args.slots.now c.args.later.now c.in_ok-counts.counts.items c.in_ok-more.more.items c.loop-slot.starts.items c.push.new.self.items
    c.slots_in-count.result slot c.loop-slot.start c.width_at-start.result c.in_ok-counts.ensures c.in_ok-more.ensures c.loop-slot-test.true
    c.loop-slot.invariant.0 c.loop-slot.invariant.1 c.in_ok-push.ensures.items
    (c.width_at-start.ensures
    ∙ (λ i. max 1 (max (slice_index_or (c.as_slice.ensures.value i) slot 0) (slice_index_or (c.as_slice-in-loop-slot.ensures.value i) slot 0))))

pub overflow_add-start : goal.overflow_add-start
overflow_add-start c =
    let both = more c in
    let few = columns_few c.args.slots.now c.args.later.now (c.loop-slot.slot + 1) in
    omega (
      arith,
      both.1,
      few,
      c.loop-slot-test.true,
      c.slots_in-count.ensures,
      c.requires.slots.few,
      c.requires.later.few,
      c.requires.slots.low,
      c.requires.later.low,
    )

pub loop-slot-preserved : goal.loop-slot-preserved
loop-slot-preserved c = more c

pub returns : goal.returns
returns c =
    let end : c.loop-slot.slot ≡ c.slots_in-count.result = omega (arith, c.loop-slot-test.false, c.loop-slot.auto.slot-end) in
    c.loop-slot.invariant.0 ∙ ap (λ (n : ℕ). map (slot_column c.args.slots.now c.args.later.now) (numbers n)) (end ∙ c.slots_in-count.ensures)
