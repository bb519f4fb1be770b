-- What the answers mean, in other words: when a text fits a form, and which place is the first that fails.
use Rattle.std.specs.Prelude.{◌≡◌, true, false, List, ℕ, ◌≤◌, ◌<◌, length, get_or}
use Rattle.forms.specs.Form.{Form, class_at, of_class}

pub record Fitting (f : Form) (s : List ℕ) : Type 0 where
  pub least : f.least ≤ length s
  pub most : length s ≤ f.most
  pub each : (k : ℕ) → k < length s → of_class (class_at f.head f.rest k) (get_or s k 0) ≡ true

pub record First (f : Form) (s : List ℕ) (m : ℕ) : Type 0 where
  pub least : f.least ≤ length s
  pub most : length s ≤ f.most
  pub inside : m < length s
  pub fails : of_class (class_at f.head f.rest m) (get_or s m 0) ≡ false
  pub before : (k : ℕ) → k < m → of_class (class_at f.head f.rest k) (get_or s k 0) ≡ true
