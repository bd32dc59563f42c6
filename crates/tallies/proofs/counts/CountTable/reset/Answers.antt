use Rattle.std.proofs.Common.{◌≡◌, length, map, replicate, sym, ap, ap₂, ◌∙◌, arith}
use Rattle.std.specs.Vec.{vec_len, with_items}
use Rattle.std.proofs.lemmas.List.{with_items_is}
use Rattle.list_orders.specs.Search.{numbers}
use Rattle.tallies.specs.Tables.{tallies_in}
use Rattle.tallies.proofs.Begins.{first_counts, first_table}
use Rattle.tallies.proofs.Tables.{seen_cores, seen_length}
use Rattle.tallies.proofs.TickLoop.{shape_length, shape_runs}
use Rattle.tallies.proofs.counts.CountTable.reset.Goals as goal

pub begin_counts-requires : goal.begin_counts-requires
begin_counts-requires c =
    ap length c.deref_mut.ensures.value ∙ sym (seen_length c.self.inside.cores c.self.inside.runs.items c.self.inside.counts.items c.args.self.now
    c.self.view_is) ∙ shape_length c.args.self.now c.args.kernel.now.settings c.requires

pub returns : goal.returns
returns c =
    let kernel = c.args.kernel.now in
    let old = c.args.self.now in
    let inside = c.self.inside in
    let tasks = shape_length old kernel.settings c.requires in
    let runs : c.fill.new.self.items ≡ replicate (vec_len inside.runs) 0 = c.fill.ensures.items (λ y e. e) in
    let counts : (with_items inside.counts c.begin_counts.new.counts).items ≡ map (first_counts kernel.control) (numbers kernel.settings.tasks) =
    with_items_is inside.counts c.begin_counts.new.counts (c.begin_counts.auto.counts ∙ c.deref_mut.ensures.len) ∙ c.begin_counts.ensures in
    ap₂ (tallies_in inside.cores) runs counts
    ∙ first_table kernel.settings kernel.control inside.cores (vec_len inside.runs)
    (λ task low. sym (seen_cores c.self.inside.cores c.self.inside.runs.items c.self.inside.counts.items c.args.self.now c.self.view_is task
    (omega (arith, low, tasks))) ∙ shape_runs old kernel.settings task c.requires (omega (arith, low, tasks)))
