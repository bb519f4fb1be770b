-- What a contract of an inner function says; no rule cites it.
use Rattle.std.specs.Prelude.{◌≡◌, ℕ, ◌≤◌, List, true, ◌<◌, length, take, slice_index}
use Rattle.ascii.specs.Area.{put}
use Rattle.ascii.specs.Written.{space}
use Rattle.ascii.specs.Class.{all, within}

-- the first k of the bytes s are code points by themselves and not white, and have gone to the area, from n on
pub record IsRun (s old : List ℕ) (n k : ℕ) (new : List ℕ) : Type 0 where
  pub few : k ≤ length s
  pub dark : all (within 0x21 0x7f) (take k s) ≡ true
  pub stored : new ≡ put old n (take k s)

-- the first k of the bytes s are spaces
pub record Blank (s : List ℕ) (k : ℕ) : Type 0 where
  pub most : k ≤ length s
  pub blank : (i : ℕ) → i < k → slice_index s i ≡ space
