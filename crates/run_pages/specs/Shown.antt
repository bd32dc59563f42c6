-- What a page shows.
use Rattle.std.specs.Prelude.{ℕ, List, Option}

pub record Shown : Type 0 where
  pub title : List ℕ
  -- the SVG of the run, or of two
  pub picture : List ℕ
  -- the number of the first place
  pub first : ℕ
  -- what the trace tells of each place
  pub places : List (List ℕ)
  -- the run before edits beside the run after them, where there are edits
  pub comparison : Option (List ℕ)
  -- as HTML
  pub report : List ℕ
