pub mod KeptLimits
