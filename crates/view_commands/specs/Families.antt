-- Which changes a command line asks for: a list of words, with commas between them.
use Rattle.std.specs.Prelude.{◌==◌, List, Bool, true, bytes_eq, codes, Option, Some, None, if◌then◌else◌}
use Rattle.std.specs.List.{list_all, list_any, slice_split}
use Rattle.clap.specs.Words.{Text}
use Rattle.ranked_changes.specs.declared.change.Family.{Family}

-- what stands between the commas
abbrev pub words_of : Text → List Text
words_of text = slice_split (λ byte. byte == 44) text

-- the word names a family of changes
abbrev pub is_family : Text → Bool
is_family word =
    if bytes_eq word (codes "priority") then true
    else if bytes_eq word (codes "mask") then true
    else if bytes_eq word (codes "pin") then true else bytes_eq word (codes "order")

-- it is among the words
abbrev pub has_word : Text → List Text → Bool
has_word word words = list_any (bytes_eq word) words

-- the families that the words name
abbrev pub family_with : List Text → Family
family_with words = record {
  priority = has_word (codes "priority") words;
  mask = has_word (codes "mask") words;
  pin = has_word (codes "pin") words;
  order = has_word (codes "order") words;
}

-- the same, if each word names one
abbrev pub family_of : Text → Option Family
family_of text =
    if list_all is_family (words_of text) then Some (family_with (words_of text)) else None
