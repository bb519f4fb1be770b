-- Laws of check figures: what a finding shows (Judging), how a total changes (Shift), each rule's one total (Links), what is detected
-- (Detect), which figure completes a body (Completing), how large totals are (Range), a number of
-- 0208 as one (Pair); and of the turns of loops (Steps), parts of texts of digits (Digits), totals of 0 (Zeros), the totals of the code (Adding).
pub mod Steps
pub mod Judging
pub mod Digits
pub mod Zeros
mod Italian
mod Signed
pub mod Shift
pub mod Links
pub mod Pair
pub mod Detect
pub mod Completing
pub mod Adding
pub mod Range
