-- What stands at the left of a task's row: its name, and below it its base priority and its mask.
use Rattle.std.specs.Prelude.{ℕ, ◌+◌, List, [], ◌∷◌, ◌++◌, flat_map, length, map, codes, decimal, Bool, nat_lt, if◌then◌else◌}
use Rattle.std.specs.List.{list_all}
use Rattle.bench_types.specs.declared.header.Header.{Header}
use Rattle.bench_types.specs.Header.{name_of}
use Rattle.list_orders.specs.Search.{numbers}
use Rattle.run_views.specs.declared.look.Look.{Look}
use Rattle.run_pictures.specs.declared.bar.Letters.TheVariants.{Small}
use Rattle.run_pictures.specs.declared.stretch.Stretch.{Stretch}
use Rattle.run_pictures.specs.declared.task_names.Terms.{Terms}
use Rattle.run_pictures.specs.Bar.{name_text, origin_text, over_text}
use Rattle.run_pictures.specs.Escape.{escaped}
use Rattle.run_pictures.specs.Hindrances.{has_core}
use Rattle.run_pictures.specs.Same.{are_same_terms}
use Rattle.run_pictures.specs.Stances.{status_in}
use Rattle.run_pictures.specs.StretchesOf.{stretches_of}

-- the base priority and the mask of the task
abbrev pub terms_in : ℕ → Look → Terms
terms_in task look =
    record { base = (status_in task look).base; mask = (status_in task look).mask }

unfoldable pub terms_stretches : ℕ → List Look → ℕ → List (Stretch Terms)
terms_stretches first looks task = stretches_of are_same_terms first (map (terms_in task) looks)

-- the mask has each of so many cores
abbrev pub has_all : ℕ → ℕ → Bool
has_all mask cores = list_all (has_core mask) (numbers cores)

-- the mask, where it has not all cores
abbrev pub mask_text : ℕ → ℕ → List ℕ
mask_text cores mask = if has_all mask cores then [] else codes ", mask " ++ decimal mask

unfoldable pub terms_text : ℕ → Terms → List ℕ
terms_text cores terms =
    codes "priority " ++ decimal terms.base ++ mask_text cores terms.mask

-- a stretch, on a line of its own
unfoldable pub terms_part : ℕ → Stretch Terms → List ℕ
terms_part cores stretch =
    codes "\n" ++ over_text stretch.first stretch.last ++ terms_text cores stretch.value

unfoldable pub all_printed : Header → ℕ → List (Stretch Terms) → List ℕ
all_printed header task stretches =
    name_of header task ++ flat_map (terms_part header.config.cores) stretches

-- that there are later stretches
unfoldable pub later_text : List (Stretch Terms) → List ℕ
later_text stretches = if nat_lt (length stretches) 2 then [] else codes " .."

-- words that are told on hover, and the end of a text
unfoldable pub title_text : List ℕ → List ℕ
title_text words = codes "<title>" ++ flat_map escaped words ++ codes "</title></text>\n"

-- what the task has at first, and on hover the stretches of what it has
unfoldable pub line_text : Header → ℕ → ℕ → Terms → List (Stretch Terms) → List ℕ
line_text header y task terms stretches =
    origin_text Small 8 y ++ terms_text header.config.cores terms ++ later_text stretches
    ++ title_text (all_printed header task stretches)

abbrev pub terms_line : Header → ℕ → ℕ → List (Stretch Terms) → List ℕ
terms_line header y task [] = []
terms_line header y task (stretch ∷ stretches) =
    line_text header y task stretch.value (stretch ∷ stretches)

-- the name of the task's row, and below it its base priority and its mask, by their stretches
unfoldable pub name_lines : Header → ℕ → ℕ → List (Stretch Terms) → List ℕ
name_lines header y task stretches =
    name_text (y + 16) (name_of header task) ++ terms_line header (y + 32) task stretches

-- the same, as the looks have it
unfoldable pub task_name : Header → ℕ → ℕ → List Look → ℕ → List ℕ
task_name header first y looks task = name_lines header y task (terms_stretches first looks task)
