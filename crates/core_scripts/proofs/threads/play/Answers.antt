use Rattle.std.proofs.Common.{◌∙◌, ap, sym}
use Rattle.history_laws.proofs.Recorded.{legal_sound}
use Rattle.core_scripts.proofs.Ends.{may_close, played_each}
use Rattle.core_scripts.proofs.threads.play.Goals as goal

pub unreachable-requires-in_default : goal.unreachable-requires-in_default
unreachable-requires-in_default g c =
    let closes = may_close c.in-Ok.made.0 c.args.scripts.now c.in_ok-seats.seats.items c.in_ok-seats.ensures c.in-Ok.made.0.cores
    (c.requires.scripts.one_per_core ∙ sym c.in-Ok.ensures.rig.1) in
    let refused = c.in_default.ensures.refused.2 in
    absurd (cc (closes, refused))

pub returns-clause-played : goal.returns-clause-played
returns-clause-played g c =
    let header = c.in-Ok-close.ensures.header ∙ ap (λ terms. terms.header) c.in-Ok.ensures.rig.0 in
    let its = c.in-Ok-close.recorded in
    let sound = legal_sound its.header its.entries c.in-Ok-close.ensures.session.header.passes c.in-Ok-close.ensures.legal in
    played_each c.in-Ok.made.0 c.args.scripts.now c.in_ok-seats.seats.items c.in_ok-seats.ensures its.header c.args.limit its.entries
    sound c.in-Ok-close.ensures.unheld
    (c.in-Ok.ensures.rig.0 ∙ ap (λ header. record { header = header; limit = c.args.limit }) (sym header)) c.in-Ok-close.ensures.seats
