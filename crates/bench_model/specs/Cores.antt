-- The cores, the control blocks and the ready lists: the part of what can be seen of a kernel that
-- its choices of cores and of tasks read and change.
use Rattle.std.specs.Prelude.{ℕ, List, [], length, Bool, ◌==◌, None}
use Rattle.std.specs.Int.{bit_at}
use Rattle.bench_model.specs.Control.{Control}
use Rattle.bench_model.specs.Lists.{View}

pub record CoresView : Type 0 where
  pub priorities : ℕ
  pub slicing : Bool
  pub control : Control
  -- the ready tasks, running ones too: the greatest priority in use first, each priority in the
  -- order of its ready list
  pub ready : List ℕ

-- the part of what can be seen of a kernel
abbrev pub cores_of : View → CoresView
cores_of view =
    record {
      priorities = view.settings.priorities;
      slicing = view.settings.slicing;
      control = view.control;
      ready = view.orders.ready;
    }

-- a kernel of which this is the part, where no task waits, is in a call or has a notification, and
-- no mutex and no queue is there
abbrev pub bare_view : CoresView → View
bare_view cores = record {
  settings = record {
    cores = length cores.control.cores;
    priorities = cores.priorities;
    slicing = cores.slicing;
    mutexes = 0;
    notes = 0;
    queues = None;
    units = 1;
    tasks = length cores.control.tasks;
  };
  control = cores.control;
  calls = [];
  notes = [];
  holders = [];
  queues = [];
  hold = None;
  orders = record {
    ready = cores.ready;
    tick = 0;
    delayed = [];
    waiters = [];
    deadlines = [];
    values = [];
  };
}

-- what a rule of whole kernels does to this part
abbrev pub cores_rule : (View → View) → CoresView → CoresView
cores_rule rule cores = cores_of (rule (bare_view cores))

-- the bit of the core is set among those of a mask
abbrev pub has_core : ℕ → ℕ → Bool
has_core mask core = bit_at mask core == 1
