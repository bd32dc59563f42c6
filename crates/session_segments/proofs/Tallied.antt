-- Tallies that are counted while a session is replayed, step by step.
use Rattle.std.proofs.Common.{◌≡◌, ℕ, suc, ◌+◌, ◌-◌, ◌^◌, ◌<◌, ◌≤◌, List, [], ◌∷◌, ◌++◌, length, take, get_or, refl, sym, ap, subst, ◌∙◌, arith}
use Rattle.std.proofs.lemmas.List.{take_more, take_all, length-take-le}
use Rattle.bench_types.specs.declared.kernel_data.Settings.{Settings}
use Rattle.bench_types.specs.declared.reply.Reply.{Reply}
use Rattle.bench_types.specs.declared.step.Step.{Step}
use Rattle.bench_types.specs.declared.step.Step.TheVariants.{Tick}
use Rattle.bench_types.specs.Limits.{max_steps}
use Rattle.bench_model.specs.Equal.{StandsFor}
use Rattle.bench_model.specs.Lists.{View, list_queues}
use Rattle.bench_model.specs.Session.{step_of, state_after}
use Rattle.bench_model.specs.Table.{Table, stamp_queues}
use Rattle.bench_model.specs.Tally.{TaskTally}
use Rattle.bench_model.specs.Tallied.{first_tallies, tallied, moment_of, tallied_after, part_tallies, shape, shape_of, AllCountsBelow}
use Rattle.session_laws.specs.TallyLaws.{seen_moment}
use Rattle.session_laws.proofs.Shapes.{tallied_shape}
use Rattle.session_laws.proofs.Tallies.{part_few, tallied_seen}
use Rattle.tallies.proofs.Rooms.{wider_room}
use Rattle.tallies.proofs.TickLoop.{shape_length}

-- one step more at the end is counted last
tallied_push : (table : Table) (steps : List Step) (step : Step) (old : List TaskTally)
    → tallied_after table (steps ++ step ∷ []) old ≡ tallied stamp_queues (moment_of (state_after table steps) step) (tallied_after table steps old)
tallied_push table [] step old = refl
tallied_push table (first ∷ steps) step old = tallied_push (step_of first table).1 steps step (tallied stamp_queues (moment_of table first) old)

-- the tallies of the first steps after a table, with a number for each task and core
pub record IsTallied (settings : Settings) (table : Table) (steps : List Step) (place : ℕ) (counted : List TaskTally) : Type 0 where
  pub counts : counted ≡ part_tallies settings table (take place steps)
  pub sizes : shape counted ≡ shape_of settings

pub tallied_starts : (settings : Settings) (table : Table) (steps : List Step) (counted : List TaskTally) → counted ≡ first_tallies settings table.control →
    shape counted ≡ shape_of settings → IsTallied settings table steps 0 counted
tallied_starts settings table steps counted first sizes = record { counts = first; sizes = sizes }

-- one step more of those that are counted after a table, as a kernel makes it
pub counted_goes : (settings : Settings) (table : Table) (steps : List Step) (place : ℕ) (view next : View) (reply : Reply) (first old new : List TaskTally) →
    place < length steps → settings ≡ view.settings
    → StandsFor view (state_after table (take place steps)) → reply ≡ (step_of (get_or steps place Tick) (state_after table (take place steps))).0 → StandsFor
    next (step_of (get_or steps place Tick) (state_after table (take place steps))).1
    → new ≡ tallied list_queues (record { before = view; step = get_or steps place Tick; reply = reply; after = next }) old
    → shape old ≡ shape_of settings → old ≡ tallied_after table (take place steps) first → new ≡ tallied_after table (take (place + 1) steps) first
counted_goes settings table steps place view next reply first old new early same stands replied later counted sizes so_far =
    let before = state_after table (take place steps) in
    let step = get_or steps place Tick in
    let moment = moment_of before step in
    let shown : seen_moment moment ≡ record { before = view; step = step; reply = reply; after = next } = cc (stands.shows, sym replied, later.shows) in
    let few : length old ≤ before.settings.tasks = omega (
      arith,
      shape_length old settings sizes,
      ap (λ (s : Settings). s.tasks) same,
      ap
          (λ (v : View). v.settings.tasks) stands.shows,
    ) in
    counted ∙ ap (λ m. tallied list_queues m old) (sym shown) ∙ sym (tallied_seen moment old stands.sound.consistent few) ∙ ap (tallied stamp_queues moment)
    so_far
    ∙ sym (tallied_push table (take place steps) step first) ∙ ap (λ (ss : List Step). tallied_after table ss first) (sym (take_more steps place Tick early))

pub tallied_goes : (settings : Settings) (table : Table) (steps : List Step) (place : ℕ) (view next : View) (reply : Reply) (old new : List TaskTally) → place <
    length steps → settings ≡ view.settings
    → StandsFor view (state_after table (take place steps)) → reply ≡ (step_of (get_or steps place Tick) (state_after table (take place steps))).0 → StandsFor
    next (step_of (get_or steps place Tick) (state_after table (take place steps))).1
    → new ≡ tallied list_queues (record { before = view; step = get_or steps place Tick; reply = reply; after = next }) old
    → IsTallied settings table steps place old → IsTallied settings table steps (place + 1) new
tallied_goes settings table steps place view next reply old new early same stands replied later counted so_far = record {
  counts = counted_goes settings table steps place view next reply (first_tallies settings table.control) old new early same stands replied later counted
      so_far.sizes so_far.counts;
  sizes = ap shape counted ∙ tallied_shape list_queues (record { before = view; step = get_or steps place Tick; reply = reply; after = next }) old ∙
      so_far.sizes;
}

-- no count of few steps is near the end of its numbers
pub tallied_room : (settings : Settings) (table : Table) (steps : List Step) (place : ℕ) (counted : List TaskTally) → place ≤ length steps → length steps ≤
    max_steps → IsTallied settings table steps place counted → AllCountsBelow (2 ^ 32 - 1) counted
tallied_room settings table steps place counted within few so_far =
    let bound : suc (length (take place steps)) ≤ 2 ^ 32 - 1 = omega (arith, length-take-le place steps within, within, few) in
    wider_room counted bound (subst (AllCountsBelow (suc (length (take place steps)))) (sym so_far.counts) (part_few settings table (take place steps)))

pub tallied_ends : (settings : Settings) (table : Table) (steps : List Step) (place : ℕ) (counted : List TaskTally) → length steps ≤ place → IsTallied settings
    table steps place counted → counted ≡ part_tallies settings table steps
tallied_ends settings table steps place counted all so_far = so_far.counts ∙ ap (part_tallies settings table) (take_all place steps all)

-- the first tallies of a kernel are those of a table that it stands for
pub first_stands : (view : View) (table : Table) → StandsFor view table → first_tallies view.settings view.control ≡ first_tallies view.settings table.control
first_stands view table stands = ap (λ (v : View). first_tallies view.settings v.control) (sym stands.shows)
