use Rattle.std.proofs.Common.{◌-◌, ◌*◌, ◌/◌, ◌<◌, length, take, get_or, refl, sym, ap, subst, ◌∙◌, arith}
use Rattle.std.proofs.lemmas.Option.{slice_get_read}
use Rattle.session_store.specs.Sums.{CheckpointSums}
use Rattle.session_store.specs.Trials.{AreTallied}
use Rattle.session_store.proofs.StoreSums.{other_header}
use Rattle.session_store.proofs.StoreTallies.{first_of}
use Rattle.session_store.proofs.sums.summed.Goals as goal

pub index-requires : goal.index-requires
index-requires c =
    let block = (length c.args.front.now - 1) / 16 in
    let low : block * 16 < length c.args.front.now = omega (arith, c.requires.some) in
    let there = c.requires.sums.are_sums.all block low in
    omega (arith, there, ap (λ (sums : CheckpointSums). length sums.before) c.sums.view_is)

pub returns-clause-tallied : goal.returns-clause-tallied
returns-clause-tallied c = λ header rest replay.
    let front = c.args.front.now in
    let sums = c.requires.sums in
    let block = (length front - 1) / 16 in
    let low : block * 16 < length front = omega (arith, c.requires.some) in
    let first = first_of front c.requires.some in
    let found = slice_get_read c.args.sums.now.before (length c.args.sums.now.before) block c.index.result.now refl (sums.are_sums.all block low)
    (c.index.ensures ∙ ap (λ (sums : CheckpointSums). get_or sums.before block c.index.result.now) c.sums.view_is) in
    subst (AreTallied header (take (block * 16) front)) (sym c.in_ok-sum.ensures)
    (other_header sums.header header front sums.rest rest first.0 (block * 16) c.index.result.now first.1 sums.replay replay
    (sums.are_sums.each block c.index.result.now low found))
