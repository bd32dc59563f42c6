-- Worked command lines.
use Rattle.std.specs.Prelude.{◌≡◌, ℕ, List, [], ◌∷◌, Bool, true, false, Option, Some, None, codes}
use Rattle.clap.specs.Words.{Text}
use Rattle.kept_runs.specs.declared.call_order.CallOrder.TheVariants.{Oldest, LeastCore}
use Rattle.ranked_changes.specs.declared.change.Family.{Family}
use Rattle.report_figures.specs.declared.limits.Bound.TheVariants.{AtMost, AtLeast}
use Rattle.run_pictures.specs.declared.frame.Axis.TheVariants as by
use Rattle.run_pictures.specs.declared.picture.Extent.{Extent}
use Rattle.run_views.specs.declared.places.Places.{Places}
use Rattle.session_reports.specs.Asked as limit
use Rattle.session_reports.specs.declared.report.Form.TheVariants.{Json, Table}
use Rattle.shown_runs.specs.declared.ask.Ask.{Ask}
use Rattle.shown_runs.specs.declared.ask.Ask.TheVariants as ask
use Rattle.view_commands.specs.declared.request.Command.TheVariants.{Advise, Show}
use Rattle.view_commands.specs.declared.request.Documents.TheVariants as documents
use Rattle.view_commands.specs.declared.request.SessionRuns.{SessionRuns}
use Rattle.view_commands.specs.declared.request.SessionRuns.TheVariants.{AsWritten, Settled, Kept}
use Rattle.view_commands.specs.CommandLine.{Asked, a_view, help, version, lacks, a_mistake, asked, lone_ties, no_axis, no_families, no_limits, no_order, two_ways}

-- without the flag `--strict`, of runs that are made so, of a file or of standard input
abbrev pub a_lenient : SessionRuns → Ask → Option Text → Asked
a_lenient sessions asked =
    a_view (record {
      command = Show asked;
      sessions = sessions;
      documents = documents.All;
      strict = false;
    })

-- the same with the flag
abbrev pub a_strict : SessionRuns → Ask → Option Text → Asked
a_strict sessions asked =
    a_view (record {
      command = Show asked;
      sessions = sessions;
      documents = documents.All;
      strict = true;
    })

-- by the words after the program's name
abbrev pub asked_after : List Text → Asked
asked_after words = asked (Some (codes "smp_view" ∷ words))

abbrev pub places : ℕ → ℕ → Places
places from to = record { from = from; to = to }

abbrev pub by_places : ℕ → ℕ → Extent
by_places from to = record { places = places from to; axis = by.Places }

abbrev pub by_ticks : ℕ → ℕ → Extent
by_ticks from to = record { places = places from to; axis = by.Ticks }

abbrev pub by_time : ℕ → ℕ → Extent
by_time from to = record { places = places from to; axis = by.Time }

-- the last place, where none is given
abbrev pub most : ℕ
most = 4294967295

-- a trace of these places, tasks and cores, of a file or of standard input
abbrev pub a_trace : Places → List Text → List ℕ → Option Text → Asked
a_trace places tasks cores =
    a_lenient AsWritten
    (ask.Trace (record { places = places; tasks = tasks; cores = cores }))

-- the same of the settled run
abbrev pub a_settled_trace : Places → List Text → List ℕ → Option Text → Asked
a_settled_trace places tasks cores =
    a_lenient Settled (ask.Trace (record { places = places; tasks = tasks; cores = cores }))

pub record WorkedTraces : Type 0 where
  pub bare : asked_after (codes "trace" ∷ []) ≡ a_trace (places 0 most) [] [] None
  pub from :
      asked_after (codes "trace" ∷ codes "--from" ∷ codes "3" ∷ [])
      ≡ a_trace (places 3 most) [] [] None
  pub between :
      asked_after (codes "trace" ∷ codes "--to=+7" ∷ codes "--from=003" ∷ [])
      ≡ a_trace (places 3 7) [] [] None
  pub hyphen_before_zero :
      asked_after (codes "trace" ∷ codes "--from=-0" ∷ []) ≡ a_trace (places 0 most) [] [] None
  pub tasks_and_cores :
      asked_after (codes "trace" ∷ codes "--task" ∷ codes "B" ∷ codes "--core" ∷ codes "1"
      ∷ codes "--task=-x" ∷ codes "--core=0" ∷ [])
      ≡ a_trace (places 0 most) (codes "B" ∷ codes "-x" ∷ []) (1 ∷ 0 ∷ []) None
  pub file :
      asked_after (codes "trace" ∷ codes "run.json" ∷ [])
      ≡ a_trace (places 0 most) [] [] (Some (codes "run.json"))
  pub file_before_options :
      asked_after (codes "trace" ∷ codes "run.json" ∷ codes "--from" ∷ codes "3" ∷ [])
      ≡ a_trace (places 3 most) [] [] (Some (codes "run.json"))
  pub file_behind_options :
      asked_after (codes "trace" ∷ codes "--from" ∷ codes "3" ∷ codes "run.json" ∷ [])
      ≡ a_trace (places 3 most) [] [] (Some (codes "run.json"))
  pub standard_input :
      asked_after (codes "trace" ∷ codes "-" ∷ []) ≡ a_trace (places 0 most) [] [] None
  pub end_of_options :
      asked_after (codes "trace" ∷ codes "--" ∷ codes "-x" ∷ [])
      ≡ a_trace (places 0 most) [] [] (Some (codes "-x"))
  pub settled :
      asked_after (codes "trace" ∷ codes "--from" ∷ codes "3" ∷ codes "--settle" ∷ [])
      ≡ a_settled_trace (places 3 most) [] [] None

pub record WorkedViews : Type 0 where
  pub session : asked_after (codes "session" ∷ []) ≡ a_lenient AsWritten ask.Session None
  pub session_of_file :
      asked_after (codes "session" ∷ codes "run.json" ∷ [])
      ≡ a_lenient AsWritten ask.Session (Some (codes "run.json"))
  pub settle : asked_after (codes "settle" ∷ codes "-" ∷ []) ≡ a_lenient Settled ask.Session None
  pub compare : asked_after (codes "compare" ∷ []) ≡ a_lenient AsWritten ask.Compare None
  pub compare_settled :
      asked_after (codes "compare" ∷ codes "run.json" ∷ codes "--settle" ∷ [])
      ≡ a_lenient Settled ask.Compare (Some (codes "run.json"))
  pub strict_session :
      asked_after (codes "session" ∷ codes "--strict" ∷ codes "run.json" ∷ [])
      ≡ a_strict AsWritten ask.Session (Some (codes "run.json"))
  pub strict_settle :
      asked_after (codes "settle" ∷ codes "-" ∷ codes "--strict" ∷ [])
      ≡ a_strict Settled ask.Session None
  pub strict_comparison :
      asked_after (codes "compare" ∷ codes "--strict" ∷ codes "--settle" ∷ [])
      ≡ a_strict Settled ask.Compare None
  pub picture :
      asked_after (codes "timeline" ∷ []) ≡ a_lenient AsWritten (ask.Timeline (by_places 0 most)) None
  pub picture_between :
      asked_after (codes "timeline" ∷ codes "--from" ∷ codes "3" ∷ codes "--to" ∷ codes "7" ∷ [])
      ≡ a_lenient AsWritten (ask.Timeline (by_places 3 7)) None
  pub picture_settled :
      asked_after (codes "timeline" ∷ codes "--to" ∷ codes "7" ∷ codes "--settle" ∷ [])
      ≡ a_lenient Settled (ask.Timeline (by_places 0 7)) None
  pub picture_by_ticks :
      asked_after (codes "timeline" ∷ codes "--axis" ∷ codes "tick" ∷ [])
      ≡ a_lenient AsWritten (ask.Timeline (by_ticks 0 most)) None
  pub picture_by_time :
      asked_after (codes "timeline" ∷ codes "--axis=time" ∷ codes "--settle" ∷ [])
      ≡ a_lenient Settled (ask.Timeline (by_time 0 most)) None
  pub page :
      asked_after (codes "page" ∷ codes "--from" ∷ codes "3" ∷ codes "run.json" ∷ [])
      ≡ a_lenient AsWritten (ask.Page (by_places 3 most))
      (Some (codes "run.json"))
  pub page_settled :
      asked_after (codes "page" ∷ codes "--settle" ∷ codes "--to=7" ∷ [])
      ≡ a_lenient Settled (ask.Page (by_places 0 7)) None
  pub page_by_ticks :
      asked_after (codes "page" ∷ codes "--axis=tick" ∷ [])
      ≡ a_lenient AsWritten (ask.Page (by_ticks 0 most)) None
  pub report :
      asked_after (codes "report" ∷ []) ≡ a_lenient AsWritten (ask.Report Table) None
  pub report_as_json :
      asked_after (codes "report" ∷ codes "--json" ∷ codes "--settle" ∷ [])
      ≡ a_lenient Settled (ask.Report Json) None

pub record WorkedKeptRuns : Type 0 where
  pub compare :
      asked_after (codes "compare" ∷ codes "--keep-work" ∷ [])
      ≡ a_lenient (Kept Oldest) ask.Compare None
  pub settle :
      asked_after (codes "settle" ∷ codes "--keep-work" ∷ codes "--ties" ∷ codes "core" ∷ [])
      ≡ a_lenient (Kept LeastCore) ask.Session None
  pub trace :
      asked_after (codes "trace" ∷ codes "--ties=core" ∷ codes "run.json"
      ∷ codes "--keep-work" ∷ codes "--from=3" ∷ [])
      ≡ a_lenient (Kept LeastCore)
      (ask.Trace (record { places = places 3 most; tasks = []; cores = [] })) (Some (codes "run.json"))
  pub report :
      asked_after (codes "report" ∷ codes "--keep-work" ∷ codes "--ties=oldest"
      ∷ codes "--strict" ∷ [])
      ≡ a_strict (Kept Oldest) (ask.Report Table) None
  pub both_ways :
      asked_after (codes "compare" ∷ codes "--settle" ∷ codes "--keep-work" ∷ []) ≡ lacks two_ways
  pub ties_alone :
      asked_after (codes "settle" ∷ codes "--ties" ∷ codes "core" ∷ []) ≡ lacks lone_ties
  pub settled_ties :
      asked_after (codes "page" ∷ codes "--settle" ∷ codes "--ties=oldest" ∷ []) ≡ lacks lone_ties
  pub unknown_order :
      asked_after (codes "timeline" ∷ codes "--keep-work" ∷ codes "--ties" ∷ codes "cores" ∷ [])
      ≡ lacks no_order
  pub session : asked_after (codes "session" ∷ codes "--keep-work" ∷ []) ≡ a_mistake
  pub simulate : asked_after (codes "simulate" ∷ codes "--ties=core" ∷ []) ≡ a_mistake

-- the run of a workload that goes on for so many ticks, or for as many as it says, of a file or of
-- standard input
abbrev pub a_simulation : Option ℕ → Option Text → Asked
a_simulation ticks =
    a_view (record {
      command = Show ask.Session;
      sessions = AsWritten;
      documents = documents.Workloads ticks;
      strict = false;
    })

pub record WorkedSimulations : Type 0 where
  pub as_said :
      asked_after (codes "simulate" ∷ codes "design.json" ∷ [])
      ≡ a_simulation None (Some (codes "design.json"))
  pub ticks :
      asked_after (codes "simulate" ∷ codes "--ticks" ∷ codes "100" ∷ [])
      ≡ a_simulation (Some 100) None
  pub too_many_ticks :
      asked_after (codes "simulate" ∷ codes "--ticks=1000001" ∷ []) ≡ a_mistake

-- the value of this name may be at most so much, or at least so much
abbrev pub at_most : Text → ℕ → limit.Asked
at_most name number = record { name = name; bound = AtMost number }

abbrev pub at_least : Text → ℕ → limit.Asked
at_least name number = record { name = name; bound = AtLeast number }

-- a check of these limits, of a file or of standard input
abbrev pub a_check : SessionRuns → List limit.Asked → Option Text → Asked
a_check sessions limits = a_lenient sessions (ask.Check limits)

pub record WorkedChecks : Type 0 where
  pub one_limit :
      asked_after (codes "check" ∷ codes "--at-most" ∷ codes "A.run=3" ∷ [])
      ≡ a_check AsWritten (at_most (codes "A.run") 3 ∷ []) None
  pub greatest_first :
      asked_after (codes "check" ∷ codes "--at-least=A.run=1" ∷ codes "--settle"
      ∷ codes "run.json" ∷ codes "--at-most=B.run=+2" ∷ [])
      ≡ a_check Settled (at_most (codes "B.run") 2 ∷ at_least (codes "A.run") 1 ∷ [])
      (Some (codes "run.json"))
  pub last_sign :
      asked_after (codes "check" ∷ codes "--at-most" ∷ codes "a=b.run=3" ∷ [])
      ≡ a_check AsWritten (at_most (codes "a=b.run") 3 ∷ []) None
  pub no_limit : asked_after (codes "check" ∷ codes "run.json" ∷ []) ≡ lacks no_limits
  pub no_number :
      asked_after (codes "check" ∷ codes "--at-most" ∷ codes "A.run=x" ∷ []) ≡ lacks no_limits
  pub no_sign :
      asked_after (codes "check" ∷ codes "--at-least" ∷ codes "A.run" ∷ []) ≡ lacks no_limits

-- advice on the number of this name, over these families, and so many of the best, of a file or of
-- standard input
abbrev pub some_advice : Text → SessionRuns → Family → ℕ → Option Text → Asked
some_advice name sessions family best =
    a_view (record {
      command = Advise (record { name = name; family = family; best = best });
      sessions = sessions;
      documents = documents.All;
      strict = false;
    })

abbrev pub families : Bool → Bool → Bool → Bool → Family
families priority mask pin order =
    record { priority = priority; mask = mask; pin = pin; order = order }

pub record WorkedAdvice : Type 0 where
  pub usual :
      asked_after (codes "advise" ∷ codes "--task" ∷ codes "A" ∷ codes "--less=run" ∷ [])
      ≡ some_advice (codes "A.run") AsWritten (families true true false true) 10 None
  pub settled_best :
      asked_after (codes "advise" ∷ codes "--settle" ∷ codes "--less=ready" ∷ codes "run.json"
      ∷ codes "--task=B" ∷ codes "--best=3" ∷ codes "--over" ∷ codes "order,priority" ∷ [])
      ≡ some_advice (codes "B.ready") Settled (families true false false true) 3 (Some (codes "run.json"))
  pub pinned :
      asked_after (codes "advise" ∷ codes "--task=A" ∷ codes "--less=run" ∷ codes "--over=pin"
      ∷ [])
      ≡ some_advice (codes "A.run") AsWritten (families false false true false) 10 None
  pub no_task : asked_after (codes "advise" ∷ codes "--less=run" ∷ []) ≡ a_mistake
  pub no_number : asked_after (codes "advise" ∷ codes "--task=A" ∷ []) ≡ a_mistake
  pub no_family :
      asked_after (codes "advise" ∷ codes "--task=A" ∷ codes "--less=run" ∷ codes "--over=masks"
      ∷ [])
      ≡ lacks no_families

pub record WorkedHelp : Type 0 where
  pub of_program : asked_after (codes "--help" ∷ []) ≡ help
  pub by_letter : asked_after (codes "-h" ∷ codes "again" ∷ []) ≡ help
  pub of_trace :
      asked_after (codes "trace" ∷ codes "--settle" ∷ codes "--from" ∷ codes "3"
      ∷ codes "--help" ∷ [])
      ≡ help
  pub of_session : asked_after (codes "session" ∷ codes "run.json" ∷ codes "-h" ∷ []) ≡ help
  pub of_settle : asked_after (codes "settle" ∷ codes "--help" ∷ []) ≡ help
  pub of_compare : asked_after (codes "compare" ∷ codes "-h" ∷ []) ≡ help
  pub of_timeline : asked_after (codes "timeline" ∷ codes "--help" ∷ []) ≡ help
  pub of_page : asked_after (codes "page" ∷ codes "--help" ∷ []) ≡ help

pub record WorkedVersions : Type 0 where
  pub of_program : asked_after (codes "--version" ∷ []) ≡ version
  pub by_letter : asked_after (codes "-V" ∷ []) ≡ version
  pub before_a_command : asked_after (codes "--version" ∷ codes "trace" ∷ []) ≡ version

pub record WorkedMistakes : Type 0 where
  pub no_command : asked_after [] ≡ a_mistake
  pub help_as_command : asked_after (codes "help" ∷ []) ≡ a_mistake
  pub version_of_a_command : asked_after (codes "trace" ∷ codes "--version" ∷ []) ≡ a_mistake
  pub unknown_command : asked_after (codes "trce" ∷ []) ≡ a_mistake
  pub option_before_command : asked_after (codes "--settle" ∷ codes "trace" ∷ []) ≡ a_mistake
  pub unknown_option : asked_after (codes "trace" ∷ codes "-x" ∷ []) ≡ a_mistake
  pub no_value : asked_after (codes "trace" ∷ codes "--from" ∷ []) ≡ a_mistake
  pub option_as_value :
      asked_after (codes "trace" ∷ codes "--task" ∷ codes "--settle" ∷ []) ≡ a_mistake
  pub negative_place : asked_after (codes "trace" ∷ codes "--from=-1" ∷ []) ≡ a_mistake
  pub place_too_great :
      asked_after (codes "trace" ∷ codes "--to" ∷ codes "4294967296" ∷ []) ≡ a_mistake
  pub core_no_number : asked_after (codes "trace" ∷ codes "--core" ∷ codes "x" ∷ []) ≡ a_mistake
  pub two_first_places :
      asked_after (codes "trace" ∷ codes "--from" ∷ codes "3" ∷ codes "--from=3" ∷ []) ≡ a_mistake
  pub two_settles :
      asked_after (codes "compare" ∷ codes "--settle" ∷ codes "--settle" ∷ []) ≡ a_mistake
  pub two_stricts :
      asked_after (codes "session" ∷ codes "--strict" ∷ codes "--strict" ∷ []) ≡ a_mistake
  pub strict_with_value : asked_after (codes "compare" ∷ codes "--strict=x" ∷ []) ≡ a_mistake
  pub settle_with_value : asked_after (codes "compare" ∷ codes "--settle=x" ∷ []) ≡ a_mistake
  pub two_files :
      asked_after (codes "session" ∷ codes "run.json" ∷ codes "other.json" ∷ []) ≡ a_mistake
  pub session_from_place :
      asked_after (codes "session" ∷ codes "--from" ∷ codes "3" ∷ []) ≡ a_mistake
  pub settled_settle : asked_after (codes "settle" ∷ codes "--settle" ∷ []) ≡ a_mistake
  pub compared_task : asked_after (codes "compare" ∷ codes "--task" ∷ codes "A" ∷ []) ≡ a_mistake
  pub page_of_task : asked_after (codes "page" ∷ codes "--task" ∷ codes "A" ∷ []) ≡ a_mistake
  pub unknown_axis :
      asked_after (codes "timeline" ∷ codes "--axis" ∷ codes "core" ∷ []) ≡ lacks no_axis
  pub unknown_axis_of_page :
      asked_after (codes "page" ∷ codes "--axis" ∷ codes "core" ∷ []) ≡ lacks no_axis
  pub picture_of_core : asked_after (codes "timeline" ∷ codes "--core" ∷ codes "0" ∷ []) ≡ a_mistake
  pub no_text : asked None ≡ a_mistake
