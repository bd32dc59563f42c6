-- What the fields of a recording keep.
use Rattle.std.specs.Prelude.{◌≡◌, ℕ, ◌+◌, ◌≤◌, List, length, Ok}
use Rattle.bench_types.specs.declared.entry.Entry.{Entry}
use Rattle.bench_types.specs.declared.header.Header.{Header}
use Rattle.bench_types.specs.Header.{header_check}
use Rattle.bench_types.specs.Step.{settings_of}
use Rattle.bench_model.specs.Equal.{StandsFor}
use Rattle.bench_model.specs.History.{end_of, AreByCurrent, IsLegal}
use Rattle.bench_model.specs.Holds.{depth_of}
use Rattle.bench_model.specs.Lists.{View}

-- The kernel of a checked header stands for the table after the entries, which are legal. Their
-- calls are by the current tasks. There is room for the calls that close an open hold.
pub record IsRecording (header : Header) (entries : List Entry) (limit capacity : ℕ)
    (kernel : View) : Type 0 where
  pub passes : header_check header ≡ Ok tt
  pub stands : StandsFor kernel (end_of header entries)
  pub settings : kernel.settings ≡ settings_of header
  pub legal : IsLegal header entries
  pub current : AreByCurrent header entries
  pub memory : limit ≤ capacity
  pub closable : length entries + depth_of (end_of header entries).hold ≤ limit
