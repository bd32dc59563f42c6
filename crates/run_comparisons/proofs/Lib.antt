mod Aligned
mod AlikePrinted
mod AlikeRows
mod AlikeSteps
mod BothRuns
mod ColumnsOf
mod EventPlaces
mod GainsPrinted
pub mod KeptComings
mod KeptEvents
mod KnownRows
mod LastRows
mod MadePairs
mod Moments
mod Moved
mod NoDifference
pub mod OnePair
mod Outcomes
mod Ranges
mod RefusalsFound
pub mod RowsCounted
mod SameCalls
mod SameSteps
mod SharedMet
mod SharedPlaces
mod ShownRows
mod Tiling
mod Walks
mod WithItself
