-- Each call is of a tenth of the number.
use Rattle.answer.proofs.numeral.+numeral_len.Given as goal

abbrev pub decreases-numeral_len : goal.decreases-numeral_len
decreases-numeral_len l = l.n
