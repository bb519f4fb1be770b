-- What the contracts of inner functions cite; no rule cites it.
use Rattle.std.specs.Prelude.{List, ℕ, ◌==◌}
use Rattle.std.specs.List.{position_or_len}
use Rattle.ascii.specs.Written.{newline}

-- how many bytes stand before the first newline
unfoldable pub upto : List ℕ → ℕ
upto s = position_or_len (λ b. b == newline) s
