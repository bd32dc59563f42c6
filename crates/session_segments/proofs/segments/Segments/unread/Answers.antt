use Rattle.std.proofs.Common.{sym, subst, ◌∙◌}
use Rattle.session_segments.specs.Meetings.{IsUnreadFrom}
use Rattle.session_segments.proofs.Delaying.{unread_of_none}
use Rattle.session_segments.proofs.segments.Segments.unread.Goals as goal

pub returns-then-self-eq0 : goal.returns-then-self-eq0
returns-then-self-eq0 g c = rw (sym c.self.view_is) (unread_of_none c.self.inside.segments.items (sym c.self.invariant.1 ∙ c.if-self-eq0.true))
