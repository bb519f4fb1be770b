-- Check figures: weighted totals, the rules that have them, and what a check finds.
pub mod Total
pub mod Figures
pub mod Findings
pub mod Rules
pub mod Changes
pub mod Completing
pub mod Inner
