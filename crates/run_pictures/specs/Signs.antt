-- The legend: what stands in it, and where.
use Rattle.std.specs.Prelude.{ℕ, ◌+◌, ◌*◌, ◌/◌, ◌%◌, ◌==◌, List, [], ◌∷◌, ◌++◌, filter, flat_map, length, codes, decimal, Bool, true, false, not, ◌||◌, nat_lt}
use Rattle.std.specs.Prelude.{Option, None, Some, is_some, slice_index_or}
use Rattle.std.specs.List.{list_any}
use Rattle.list_orders.specs.Search.{numbers}
use Rattle.bench_types.specs.declared.header.Header.{Header}
use Rattle.run_views.specs.declared.look.Look.{Look}
use Rattle.run_pictures.specs.declared.run_looks.Made.{Made}
use Rattle.run_pictures.specs.declared.marks.Mark.{Mark}
use Rattle.run_pictures.specs.declared.marks.Mark.TheVariants as mark
use Rattle.run_pictures.specs.declared.signs.Sign.{Sign}
use Rattle.run_pictures.specs.declared.signs.Sign.TheVariants.{Running, Idle, Ready, Blocked, Suspended, Due, Held, Inherited, PreemptionOff, Taken, Messages, Interrupt, Refused, Unknown}
use Rattle.run_pictures.specs.declared.stance.Stance.{Stance}
use Rattle.run_pictures.specs.declared.stance.Stance.TheVariants as stance
use Rattle.run_pictures.specs.Marks.{mark_at}
use Rattle.run_pictures.specs.MutexLines.{is_taken}
use Rattle.run_pictures.specs.Poses.{stands_ready}
use Rattle.run_pictures.specs.Preemption.{preempt_in}
use Rattle.run_pictures.specs.QueueLines.{is_changed, queues_of}
use Rattle.run_pictures.specs.Shown.{Shown}
use Rattle.run_pictures.specs.Stances.{stance_in, status_in}
use Rattle.run_pictures.specs.Unknown.{unknown_in}

-- a core has one of the idle tasks, those below so many, as its current task
abbrev pub has_idle : ℕ → Look → Bool
has_idle cores look = list_any (λ core. nat_lt core.current cores) look.cores

abbrev pub has_user : ℕ → Look → Bool
has_user cores look = list_any (λ core. not (nat_lt core.current cores)) look.cores

-- some core is due to switch
abbrev pub has_due : Look → Bool
has_due look = list_any (λ core. core.pend || core.asked) look.cores

abbrev pub is_held : Look → Bool
is_held look = is_some look.hold

abbrev pub is_blocked : Stance → Bool
is_blocked stance.Ready = false
is_blocked (stance.Runs core) = false
is_blocked (stance.Blocked wake cause) = true
is_blocked stance.Suspended = false

abbrev pub is_away : Stance → Bool
is_away stance.Suspended = true
is_away stance = false

-- some user task stands ready and on no core
abbrev pub has_ready : Header → Look → Bool
has_ready header look =
    list_any (λ user. stands_ready (stance_in (header.config.cores + user) look))
    (numbers (length header.tasks))

abbrev pub has_blocked : Header → Look → Bool
has_blocked header look =
    list_any (λ user. is_blocked (stance_in (header.config.cores + user) look))
    (numbers (length header.tasks))

abbrev pub has_suspended : Header → Look → Bool
has_suspended header look =
    list_any (λ user. is_away (stance_in (header.config.cores + user) look))
    (numbers (length header.tasks))

-- the priority in use of some user task is not its own
abbrev pub has_inherited : Header → Look → Bool
has_inherited header look =
    list_any (λ user. let status = status_in (header.config.cores + user) look in
    not (status.in_use == status.base))
    (numbers (length header.tasks))

-- some user task has preemption off
abbrev pub has_unpreempted : Header → Look → Bool
has_unpreempted header look =
    list_any (λ user. not (preempt_in (header.config.cores + user) look))
    (numbers (length header.tasks))

abbrev pub is_interrupt : Option Mark → Bool
is_interrupt (Some mark.Interrupt) = true
is_interrupt (Some mark.Refused) = false
is_interrupt None = false

abbrev pub is_refusal : Option Mark → Bool
is_refusal (Some mark.Refused) = true
is_refusal (Some mark.Interrupt) = false
is_refusal None = false

-- at one of so many places that are shown an interrupt is marked
abbrev pub has_interrupt : List Made → ℕ → Bool
has_interrupt made count = list_any (λ k. is_interrupt (mark_at made k)) (numbers count)

abbrev pub has_refusal : List Made → ℕ → Bool
has_refusal made count = list_any (λ k. is_refusal (mark_at made k)) (numbers count)

-- whether a run has what the sign stands for, at a place that is shown
abbrev pub is_used : Shown → Sign → Bool
is_used shown Running = list_any (has_user shown.header.config.cores) shown.run_looks.looks
is_used shown Idle = list_any (has_idle shown.header.config.cores) shown.run_looks.looks
is_used shown Ready = list_any (has_ready shown.header) shown.run_looks.looks
is_used shown Blocked = list_any (has_blocked shown.header) shown.run_looks.looks
is_used shown Suspended = list_any (has_suspended shown.header) shown.run_looks.looks
is_used shown Due = list_any has_due shown.run_looks.looks
is_used shown Held = list_any is_held shown.run_looks.looks
is_used shown Inherited = list_any (has_inherited shown.header) shown.run_looks.looks
is_used shown PreemptionOff = list_any (has_unpreempted shown.header) shown.run_looks.looks
is_used shown Taken =
    list_any (is_taken shown.run_looks.looks) (numbers shown.header.config.mutexes)
is_used shown Messages =
    list_any (is_changed shown.run_looks.looks) (numbers (queues_of shown.header))
is_used shown Interrupt = has_interrupt shown.run_looks.made (length shown.run_looks.looks)
is_used shown Refused = has_refusal shown.run_looks.made (length shown.run_looks.looks)
is_used shown Unknown = is_some (unknown_in shown)

-- in their order
abbrev pub all_signs : List Sign
all_signs =
    Running ∷ Ready ∷ Blocked ∷ Suspended ∷ Idle ∷ Due ∷ Held ∷ Inherited ∷ PreemptionOff ∷ Taken
    ∷ Messages ∷ Interrupt ∷ Refused ∷ Unknown ∷ []

-- the legend of a run has what the run has
abbrev pub signs_of : Shown → List Sign
signs_of shown = filter (is_used shown) all_signs

-- and that of two runs what one of them has
abbrev pub signs_of_both : Shown → Shown → List Sign
signs_of_both before after =
    filter (λ sign. is_used before sign || is_used after sign) all_signs

-- how the sign looks
unfoldable pub drawing : Sign → List ℕ
drawing Running = codes "<rect class='c0' width='20' height='14'/>"
drawing Ready = codes "<rect class='r c0' y='3' width='20' height='8'/>"
drawing Blocked = codes "<rect class='w' y='5' width='20' height='4'/>"
drawing Suspended = codes "<rect class='i' y='4' width='20' height='6'/>"
drawing Idle = codes "<rect class='i' width='20' height='14'/>"
drawing Due =
    codes "<rect class='c0' width='20' height='14'/><rect class='d' width='20' height='4'/>"
drawing Held =
    codes "<rect class='c0' width='20' height='14'/><rect class='h' y='10' width='20' height='4'/>"
drawing Inherited = codes "<rect class='u' y='6' width='20' height='3'/>"
drawing PreemptionOff = codes "<rect class='p' y='6' width='20' height='3'/>"
drawing Taken = codes "<rect class='m c0' width='20' height='14'/>"
drawing Messages = codes "<rect class='q' width='20' height='14'/>"
drawing Interrupt = codes "<path class='n' d='M6 3h8l-4 7z'/>"
drawing Refused = codes "<path class='x' d='M6 3l8 8m0-8l-8 8'/>"
drawing Unknown =
    codes "<rect class='c0' width='20' height='14'/><rect class='b f' x='8' width='12' height='14'/>"
    ++ codes "<path class='y' d='M8 0v14'/>"

unfoldable pub meaning : Sign → List ℕ
meaning Running = codes "running"
meaning Ready = codes "ready"
meaning Blocked = codes "blocked"
meaning Suspended = codes "suspended"
meaning Idle = codes "idle task"
meaning Due = codes "core due to switch"
meaning Held = codes "core holds the kernel"
meaning Inherited = codes "priority inherited"
meaning PreemptionOff = codes "preemption off"
meaning Taken = codes "mutex held"
meaning Messages = codes "messages in a queue"
meaning Interrupt = codes "interrupt"
meaning Refused = codes "refused"
meaning Unknown = codes "not known"

-- where the k-th sign of the legend stands: four stand side by side
abbrev pub across : ℕ → ℕ
across k = 8 + 212 * (k % 4)

abbrev pub below : ℕ → ℕ → ℕ
below y k = y + 18 * (k / 4)

-- what follows begins there
abbrev pub moved_text : ℕ → ℕ → List ℕ
moved_text x y =
    codes "<g transform='translate(" ++ decimal x ++ codes "," ++ decimal y ++ codes ")'>"

-- what it means, in words beside it
unfoldable pub words_text : Sign → List ℕ
words_text sign = codes "<text class='s' x='26' y='11'>" ++ meaning sign ++ codes "</text></g>\n"

unfoldable pub entry_text : ℕ → ℕ → Sign → List ℕ
entry_text y k sign = moved_text (across k) (below y k) ++ drawing sign ++ words_text sign

abbrev pub entries_text : ℕ → List Sign → List ℕ
entries_text y signs =
    flat_map (λ k. entry_text y k (slice_index_or signs k Running)) (numbers (length signs))

-- how many pixels so many signs take from top to bottom
abbrev pub legend_height : ℕ → ℕ
legend_height count = 18 * ((count + 3) / 4)
