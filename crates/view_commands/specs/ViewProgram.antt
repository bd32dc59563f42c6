-- How the program ends, and what it has read and written then.
use Rattle.std.specs.Prelude.{◌≡◌, ◌⊎◌, ℕ, List, ◌++◌, Option, Some, None, codes, string_bytes}
use Rattle.program_io.specs.declared.ending.Ending.{Ending}
use Rattle.program_io.specs.declared.ending.Ending.TheVariants.{Failed, NotOpened}
use Rattle.program_io.specs.declared.ending.RunFault.TheVariants.{Memory}
use Rattle.program_io.specs.Endings.{Account, Bytes, EndsBad, EndsHelp, EndsShowing, EndsTelling, Untouched}
use Rattle.view_commands.specs.declared.request.Job.{Job}
use Rattle.command_words.specs.Said.{IsMistake}
use Rattle.view_commands.specs.declared.request.Request.{Request}
use Rattle.view_commands.specs.declared.request.Request.TheVariants.{Show, Help, Version, Lacking, Bad}
use Rattle.view_commands.specs.CommandLine.{Asked, a_view, help, version, lacks, a_mistake, asked, version_line}
use Rattle.view_commands.specs.Commands.{IsView}

-- that the file of this name can't be opened
abbrev pub open_line : List ℕ → List ℕ
open_line name = codes "fault open " ++ name ++ codes "\n"

-- what the file of each name holds, where that is known
abbrev pub Files : Type 0
Files = List ℕ → Bytes

-- it is told that the file of this name can't be opened, or memory was refused before
abbrev pub IsNotOpened : List ℕ → Ending → Type 0
IsNotOpened name (NotOpened line) = string_bytes line ≡ open_line name
IsNotOpened name (Failed Memory) = Unit {0}
IsNotOpened name ending = ⊥

-- A view of the file of a name: once that was opened, it is what was read. Before that nothing was
-- read or written.
abbrev pub EndsFile : Job → List ℕ → Bytes → Account
EndsFile job name file ending read_old read_new write_old write_new =
    EndsTelling (IsView job) ending file read_new write_old write_new
    ⊎ (IsNotOpened name ending × Untouched read_old read_new write_old write_new)

-- by what was asked, what is told of the end; a mistake's text begins with `error: `
abbrev pub EndsAsked : Asked → Files → Account
EndsAsked (a_view job (Some name)) files = EndsFile job name (files name)
EndsAsked (a_view job None) files = EndsTelling (IsView job)
EndsAsked help files = EndsHelp
EndsAsked version files = EndsShowing version_line
EndsAsked (lacks text) files = EndsBad (λ told. told ≡ text)
EndsAsked a_mistake files = EndsBad IsMistake

-- by a request, whose texts are told whole
abbrev pub EndsRequest : Request → Files → Account
EndsRequest (Show job file) files = EndsAsked (a_view job file) files
EndsRequest (Help text) files = EndsShowing (string_bytes text)
EndsRequest Version files = EndsShowing version_line
EndsRequest (Lacking text) files = EndsBad (λ told. told ≡ string_bytes text)
EndsRequest (Bad text) files = EndsBad (λ told. told ≡ string_bytes text)

-- by the words of the command line; none where one of them is no text
abbrev pub Ends : Files → Option (List (List ℕ)) → Account
Ends files words = EndsAsked (asked words) files
