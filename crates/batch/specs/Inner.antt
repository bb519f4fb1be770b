-- What the contracts of inner functions cite; no rule cites it.
use Rattle.std.specs.Prelude.{◌≡◌, List, [], ◌∷◌, ◌++◌, ℕ, length}
use Rattle.std.specs.List.{FoldsTo}
use Rattle.answer.specs.declared.record.Answer.{Answer}
use Rattle.batch.specs.Batch.{batched, BatchRight}

-- a call answers a line, and its answer goes behind the earlier ones
abbrev pub AnswersNext : {F : Type 0} → (F → List ℕ → Answer → F → Type 0) → F × List Answer → List ℕ → F × List Answer → Type 0
AnswersNext called p line q = (a : Answer) × called p.0 line a q.0 × (q.1 ≡ p.1 ++ a ∷ [])

-- the first lines of a text are answered by calls, one after the other, which take `f` to `f'`
pub record EachRight {F : Type 0} (called : F → List ℕ → Answer → F → Type 0) (f f' : F) (s old new : List ℕ) (count used : ℕ) : Type 0 where
  pub answers : List Answer
  pub calls : FoldsTo (AnswersNext called) (f, []) (batched (length old) s) (f', answers)
  pub batch : BatchRight (λ ls. answers) s old new count used
