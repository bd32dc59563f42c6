use Rattle.std.proofs.Common.{◌≡◌, ◌<◌, ◌^◌, All, length, sym, ap, ap₂, subst, ◌∙◌}
use Rattle.std.specs.Vec.{with_items}
use Rattle.std.proofs.lemmas.List.{with_items_is}
use Rattle.tallies.specs.Sums.{all_added_counts, sums_of, CountsFit}
use Rattle.tallies.specs.Tables.{tallies_in}
use Rattle.tallies.proofs.TableSums.{counts_fit, same_places, same_tasks, seen_room, seen_shapes, seen_sum, summed, ticks_fit}
use Rattle.tallies.proofs.counts.CountTable.add.Goals as goal

pub add_ticks-requires-clause-places : goal.add_ticks-requires-clause-places
add_ticks-requires-clause-places c =
    let a = c.self.inside in
    let b = c.other.inside in
    ap length c.deref_mut.ensures.value
    ∙ same_places a.cores a.runs.items a.counts.items c.self.invariant.size b.cores b.runs.items b.counts.items c.other.invariant.size
    (seen_shapes c.args.self.now c.args.other.now (tallies_in a.cores a.runs.items a.counts.items) (tallies_in b.cores b.runs.items b.counts.items)
    c.self.view_is c.other.view_is c.requires.shapes)
    ∙ sym (ap length c.deref.ensures.value)

pub add_ticks-requires-clause-sums : goal.add_ticks-requires-clause-sums
add_ticks-requires-clause-sums c =
    let a = c.self.inside in
    let b = c.other.inside in
    subst (λ ns. All (λ n. n < 2 ^ 32) ns) (sym (ap₂ sums_of c.deref_mut.ensures.value c.deref.ensures.value))
    (ticks_fit a.cores a.runs.items a.counts.items c.self.invariant.size b.cores b.runs.items b.counts.items c.other.invariant.size
    (seen_shapes c.args.self.now c.args.other.now (tallies_in a.cores a.runs.items a.counts.items) (tallies_in b.cores b.runs.items b.counts.items)
    c.self.view_is c.other.view_is c.requires.shapes) (seen_room c.args.self.now c.args.other.now (tallies_in a.cores a.runs.items a.counts.items)
    (tallies_in b.cores b.runs.items b.counts.items) c.self.view_is c.other.view_is c.requires.sums))

pub add_counts-requires-clause-tasks : goal.add_counts-requires-clause-tasks
add_counts-requires-clause-tasks c =
    let a = c.self.inside in
    let b = c.other.inside in
    ap length c.deref_mut-2.ensures.value
    ∙ same_tasks a.cores a.runs.items a.counts.items c.self.invariant.size b.cores b.runs.items b.counts.items c.other.invariant.size
    (seen_shapes c.args.self.now c.args.other.now (tallies_in a.cores a.runs.items a.counts.items) (tallies_in b.cores b.runs.items b.counts.items)
    c.self.view_is c.other.view_is c.requires.shapes)
    ∙ sym (ap length c.deref-2.ensures.value)

pub add_counts-requires-clause-sums : goal.add_counts-requires-clause-sums
add_counts-requires-clause-sums c =
    let a = c.self.inside in
    let b = c.other.inside in
    subst (All CountsFit) (sym (ap₂ all_added_counts c.deref_mut-2.ensures.value c.deref-2.ensures.value))
    (counts_fit a.cores a.runs.items a.counts.items c.self.invariant.size b.cores b.runs.items b.counts.items c.other.invariant.size
    (seen_shapes c.args.self.now c.args.other.now (tallies_in a.cores a.runs.items a.counts.items) (tallies_in b.cores b.runs.items b.counts.items)
    c.self.view_is c.other.view_is c.requires.shapes) (seen_room c.args.self.now c.args.other.now (tallies_in a.cores a.runs.items a.counts.items)
    (tallies_in b.cores b.runs.items b.counts.items) c.self.view_is c.other.view_is c.requires.sums))

pub returns : goal.returns
returns c =
    let a = c.self.inside in
    let b = c.other.inside in
    let runs : (with_items a.runs c.add_ticks.new.runs).items ≡ sums_of a.runs.items b.runs.items =
    with_items_is a.runs c.add_ticks.new.runs (c.add_ticks.auto.runs ∙ c.deref_mut.ensures.len) ∙ c.add_ticks.ensures ∙ ap₂ sums_of c.deref_mut.ensures.value
    c.deref.ensures.value in
    let counts : (with_items a.counts c.add_counts.new.counts).items ≡ all_added_counts a.counts.items b.counts.items =
    with_items_is a.counts c.add_counts.new.counts (c.add_counts.auto.counts ∙ c.deref_mut-2.ensures.len) ∙ c.add_counts.ensures ∙ ap₂ all_added_counts
    c.deref_mut-2.ensures.value c.deref-2.ensures.value in
    ap₂ (tallies_in a.cores) runs counts
    ∙ summed a.cores a.runs.items a.counts.items c.self.invariant.size b.cores b.runs.items b.counts.items c.other.invariant.size
    (seen_shapes c.args.self.now c.args.other.now (tallies_in a.cores a.runs.items a.counts.items) (tallies_in b.cores b.runs.items b.counts.items)
    c.self.view_is c.other.view_is c.requires.shapes)
    ∙ seen_sum c.args.self.now c.args.other.now (tallies_in a.cores a.runs.items a.counts.items) (tallies_in b.cores b.runs.items b.counts.items) c.self.view_is
    c.other.view_is
