use Rattle.std.proofs.Common.{subst, sym}
use Rattle.smp_kernel.specs.Deadlines.{AreNear, AreNone}
use Rattle.smp_kernel.proofs.Lefts.{lefts_later, near_anew, none_anew}
use Rattle.smp_kernel.proofs.deadlines.next_count.Goals as goal

pub returns-then-passed-lt-MOST_PASSED-clause-lefts : goal.returns-then-passed-lt-MOST_PASSED-clause-lefts
returns-then-passed-lt-MOST_PASSED-clause-lefts c = lefts_later c.args.passed c.args.ends.now

pub returns-clause-near : goal.returns-clause-near
returns-clause-near c = subst (AreNear 1) (sym c.count_anew.ensures) (near_anew c.args.passed c.args.ends.now c.requires.near)

pub returns-clause-none : goal.returns-clause-none
returns-clause-none c some none = subst (AreNone some) (sym c.count_anew.ensures) (none_anew c.args.passed c.args.ends.now some none)
