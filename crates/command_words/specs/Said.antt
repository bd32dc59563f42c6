-- What clap says in place of a command.
use Rattle.std.specs.Prelude.{◌≡◌, ⊤, ℕ, List, [], ◌++◌, nat_eq, Bool, true, Option, IfSome, codes, string_bytes, if◌then◌else◌}
use Rattle.std.specs.List.{starts_with}
use Rattle.command_words.specs.declared.saying.Saying.{Saying}
use Rattle.command_words.specs.declared.saying.Saying.TheVariants.{Help, Mistake, Version}
use Rattle.command_words.specs.Asking.{Class, helps, mistakes, versions}

abbrev pub class_in : Saying → Class
class_in (Help text) = helps
class_in Version = versions
class_in (Mistake text) = mistakes

-- the text that is told; of the version there is none
abbrev pub text_in : Saying → List ℕ
text_in (Help text) = string_bytes text
text_in Version = []
text_in (Mistake text) = string_bytes text

-- a text that tells what is wrong begins with this
abbrev pub mistake_mark : List ℕ
mistake_mark = codes "error: "

abbrev pub is_mistake : List ℕ → Bool
is_mistake text = starts_with nat_eq text mistake_mark

abbrev pub IsMistake : List ℕ → Type 0
IsMistake text = is_mistake text ≡ true

-- the text of an error as it is where it begins so, and else after that
abbrev pub mistake_text : List ℕ → List ℕ
mistake_text text = if is_mistake text then text else mistake_mark ++ text

-- where the text of an error is known, this is what is told of it: all of it
abbrev pub SaysText : Option (List ℕ) → Saying → Type 0
SaysText output (Help text) = IfSome output (λ told. string_bytes text ≡ told)
SaysText output Version = ⊤
SaysText output (Mistake text) = IfSome output (λ told. string_bytes text ≡ mistake_text told)

-- a mistake is told by a text that begins so
abbrev pub SaysMistake : Saying → Type 0
SaysMistake (Help text) = ⊤
SaysMistake Version = ⊤
SaysMistake (Mistake text) = IsMistake (string_bytes text)
