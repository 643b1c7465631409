pub mod ClosedYears
