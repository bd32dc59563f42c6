-- Up to where a run that keeps work is known, as people are told.
use Rattle.std.specs.Prelude.{◌≡◌, ℕ, List, [], Option, Some, None}
use Rattle.bench_types.specs.declared.header.Header.{Header}
use Rattle.kept_runs.specs.declared.call_order.CallOrder.{CallOrder}
use Rattle.kept_runs.specs.declared.known_limit.KnownLimit.{KnownLimit}
use Rattle.kept_sessions.specs.Runs.{IsKnownRunOf}
use Rattle.kept_sessions.specs.Sessions.{KeptView}
use Rattle.run_comparisons.specs.Known.{known_line}
use Rattle.run_sources.specs.declared.source.Source.{Source}
use Rattle.run_sources.specs.declared.source.Source.TheVariants as source
use Rattle.session_runs.specs.Run.{RunView}

-- up to where a run is known; nothing where all of it is
abbrev pub known_text : Header → Option KnownLimit → List ℕ
known_text header None = []
known_text header (Some limit) = known_line header limit

-- up to where the run of a source is known: one that keeps work up to a limit, another one wholly
abbrev pub IsKnownTo : Source → RunView → Option KnownLimit → Type 0
IsKnownTo (source.Session session) run limit = limit ≡ None
IsKnownTo (source.Settled session) run limit = limit ≡ None
IsKnownTo (source.Workload workload) run limit = limit ≡ None
IsKnownTo (source.Kept made order) run limit = IsKnownRunOf order made run limit

-- this is told of up to where a run that keeps work is known
pub record IsToldKnown (order : CallOrder) (made : KeptView) (run : RunView) (text : List ℕ) :
    Type 0 where
  pub limit : Option KnownLimit
  pub known : IsKnownRunOf order made run limit
  pub is_told : text ≡ known_text run.session.header limit
