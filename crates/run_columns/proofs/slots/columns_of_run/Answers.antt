use Rattle.std.proofs.Common.{◌≡◌, ℕ, List, ◌+◌, ◌<◌, length, get_or, subst, sym, arith}
use Rattle.std.specs.Prelude.{slice_set}
use Rattle.std.proofs.lemmas.List.{get_or_read}
use Rattle.run_columns.proofs.LinedUp.{column_few, columns_all, columns_more, columns_none, slot_count, slot_low, ColumnsSoFar}
use Rattle.run_columns.proofs.slots.columns_of_run.Goals as goal

pub loop-slot-init : goal.loop-slot-init
loop-slot-init c =
    subst (λ (columns : List ℕ). ColumnsSoFar c.args.slots.now c.args.later.now c.args.run.now columns c.in_ok-next.next.items 0)
    (sym c.in_ok-columns.ensures.items)
    (columns_none c.args.slots.now c.args.later.now c.args.run.now c.in_ok-next.next.items c.in_ok-next.ensures)

pub index-requires : goal.index-requires
index-requires c =
    let under = slot_low c.args.run.now c.loop-slot.slot-index c.requires.run c.loop-slot-test.true in
    omega (arith, under, c.requires.low, c.loop-slot.invariant.free.size)

pub index_mut-requires : goal.index_mut-requires
index_mut-requires c =
    let under = slot_low c.args.run.now c.loop-slot.slot-index c.requires.run c.loop-slot-test.true in
    omega (arith, under, c.requires.low, c.loop-slot.invariant.free.size)

pub overflow_add-index_mut : goal.overflow_add-index_mut
overflow_add-index_mut c =
    let run = c.args.run.now in
    let place = c.loop-slot.slot-index in
    let slot = get_or run place 0 in
    let next = c.loop-slot.next.items in
    let under = slot_low run place c.requires.run c.loop-slot-test.true in
    let within : slot < slot_count c.args.slots.now c.args.later.now = omega (arith, under, c.requires.low) in
    let old = get_or_read next slot c.index_mut.result.now (omega (arith, within, c.loop-slot.invariant.free.size)) c.index_mut.ensures.value 0 in
    let few = column_few c.args.slots.now c.args.later.now run c.loop-slot.columns.items next place slot c.requires.slots c.requires.later c.requires.run
    (omega (arith, c.loop-slot-test.true)) within c.loop-slot.invariant in
    omega (arith, old, few)

pub loop-slot-preserved : goal.loop-slot-preserved
loop-slot-preserved c =
    let run = c.args.run.now in
    let place = c.loop-slot.slot-index in
    let slot = get_or run place 0 in
    let next = c.loop-slot.next.items in
    let under = slot_low run place c.requires.run c.loop-slot-test.true in
    let low : slot < length next = omega (arith, under, c.requires.low, c.loop-slot.invariant.free.size) in
    let old = get_or_read next slot c.index_mut.result.now low c.index_mut.ensures.value 0 in
    let read = get_or_read next slot c.index.result.now low c.index.ensures 0 in
    subst (λ (n : ℕ). ColumnsSoFar c.args.slots.now c.args.later.now run c.push.new.self.items (slice_set next slot (n + 1)) (place + 1)) (sym old)
    (columns_more c.args.slots.now c.args.later.now run c.loop-slot.columns.items c.push.new.self.items next place c.index.result.now c.requires.run c.requires.low
    c.loop-slot-test.true c.loop-slot.invariant read c.in_ok-push.ensures.items)

pub index-requires-2 : goal.index-requires-2
index-requires-2 c = omega (arith, c.last_slot.ensures, c.requires.low, c.loop-slot.invariant.free.size)

pub returns : goal.returns
returns c =
    let run = c.args.run.now in
    let next = c.loop-slot.next.items in
    let last = c.last_slot.result in
    let end : c.loop-slot.slot-index ≡ length run = omega (arith, c.loop-slot-test.false, c.loop-slot.auto.slot-index-end) in
    let within : last < slot_count c.args.slots.now c.args.later.now = omega (arith, c.last_slot.ensures, c.requires.low) in
    let read = get_or_read next last c.index-2.result.now (omega (arith, within, c.loop-slot.invariant.free.size)) c.index-2.ensures 0 in
    columns_all c.args.slots.now c.args.later.now run c.loop-slot.columns.items c.push-2.new.self.items next c.loop-slot.slot-index c.index-2.result.now last end
    c.last_slot.ensures within c.loop-slot.invariant read c.in_ok-push-2.ensures.items
