mod Counts
mod RowSums
mod Closing
mod Named
mod NamedDeeds
mod Rows
mod FundPosts
mod NetChange
mod GovPosts
mod PositionChange
mod DeedSums
mod ItemDeeds
mod ItemSteps
mod ItemAccounts
mod ComparisonLines
mod ComparisonDeeds
mod VoucherStates
mod Comparison
mod OpenVouchers
mod OpenBills
pub mod ReadCharts
pub mod Articulated
pub mod TrialBalances
