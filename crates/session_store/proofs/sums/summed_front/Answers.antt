use Rattle.std.proofs.Common.{◌++◌, length, refl, sym}
use Rattle.std.proofs.lemmas.Option.{slice_get_read}
use Rattle.session_store.proofs.StoreTallies.{first_there, none_tallied}
use Rattle.session_store.proofs.sums.summed_front.Goals as goal

pub returns-in_ok-first_tallies-in-None-clause-tallied : goal.returns-in_ok-first_tallies-in-None-clause-tallied
returns-in_ok-first_tallies-in-None-clause-tallied c = λ header rest replay.
    let front = c.args.front.now in
    let first = c.index-front-0.result in
    let found = slice_get_read front (length front) 0 first refl c.requires.some c.index-front-0.is in
    let summed_front = c.in_ok-first_tallies-in-None.ensures in
    none_tallied header (front ++ rest) replay first first.kernel c.in_ok-first_tallies-in-None.field-0 (sym (first_there front rest first found)) refl
    summed_front.tallies summed_front.shape
