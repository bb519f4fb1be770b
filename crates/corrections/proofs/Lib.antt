-- Laws of completing and listing: what the code's total says (Checks, Exact), which figure completes a body (Completes), lists
-- made by counting (Areas, Members), one digit for each place (Fixes), the list is whole (Theorems), what is done (Finished).
mod Outcomes
mod Schemes
mod Checks
pub mod Completes
mod Areas
mod Members
pub mod Exact
pub mod Fixes
mod Rows
pub mod Theorems
pub mod Finished
