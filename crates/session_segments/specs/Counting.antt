-- How a meter grows, for the crates above.
pub use Rattle.smp_kernel.specs.Counting.{meter_after, CountsUpTo}
