-- The numbers of a subject, counted place by place.
use Rattle.std.specs.Prelude.{ℕ}
use Rattle.run_numbers.specs.declared.subject.Reading.{Reading}

pub record Gauge : Type 0 where
  pub reading : Reading
  -- the time since the condition failed last
  pub stretch : ℕ
  -- the place of the first step that takes some of it, or the last place where there is none
  pub start : ℕ
