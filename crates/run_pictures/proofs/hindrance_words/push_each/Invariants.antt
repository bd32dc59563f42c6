use Rattle.std.proofs.Common.{◌≡◌, ◌++◌, flat_map, take, string_bytes}
use Rattle.run_pictures.specs.HindranceWords.{hindrance_text}
use Rattle.run_pictures.proofs.hindrance_words.push_each.Given as goal

abbrev pub invariant-loop-hindrance : goal.invariant-loop-hindrance
invariant-loop-hindrance l = string_bytes l.text ≡ string_bytes l.initial.text ++ flat_map (hindrance_text l.header) (take l.hindrance-index l.hindrances)
