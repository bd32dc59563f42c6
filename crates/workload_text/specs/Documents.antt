-- Which documents are workloads.
use Rattle.std.specs.Prelude.{ℕ, List, Bool, true, false, ◌&&◌, ◌||◌, codes, is_none, is_some, Result, Ok, Err}
use Rattle.serde_json.specs.Data.{Data}
use Rattle.serde_json.specs.Find.{get}
use Rattle.session_text.specs.declared.fault.TextFault.{TextFault}
use Rattle.session_text.specs.Session.{document}

-- the value is an object with the member of that name
abbrev pub has_member : List ℕ → Data → Bool
has_member name d = is_some (get name d)

-- a workload stands in the value, or it is one: it says how many ticks there are, and no steps
abbrev pub is_workload : Data → Bool
is_workload d =
    has_member (codes "workload") d
    || (has_member (codes "ticks") d
    && (is_none (get (codes "session") d) && is_none (get (codes "steps") d)))

abbrev pub is_workload_read : Result Data TextFault → Bool
is_workload_read (Ok d) = is_workload d
is_workload_read (Err fault) = false

-- a text that is no JSON is none
abbrev pub is_workload_text : List ℕ → Bool
is_workload_text text = is_workload_read (document text)
