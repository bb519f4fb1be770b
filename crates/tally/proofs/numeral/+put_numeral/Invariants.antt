-- Each call is of a tenth of the number.
use Rattle.tally.proofs.numeral.+put_numeral.Given as goal

abbrev pub decreases-put_numeral : goal.decreases-put_numeral
decreases-put_numeral l = l.n
