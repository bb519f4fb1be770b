-- What the five rules detect, from the laws of their figures. Assumes nothing.
use Rattle.figures.specs.Changes.{RefusesReplaced, AcceptsExchanged, never, by_five, zero_and_nine}
use Rattle.figures.proofs.Detect.{gln_replaced, mod11_replaced, mod97_replaced, se_orgnr_replaced, abn_replaced, gln_exchanged, mod11_exchanged, mod97_exchanged, se_orgnr_exchanged, abn_exchanged}
use Rattle.rules.specs.declared.rule.Rule.TheVariants.{R40, R41, R43, R49, R50}
use Rattle.rules.specs.Finding.{accepts}

pub replaced_0088 : RefusesReplaced (accepts R40)
unfolding accepts
replaced_0088 = gln_replaced

pub replaced_0192 : RefusesReplaced (accepts R41)
unfolding accepts
replaced_0192 = mod11_replaced

pub replaced_0208 : RefusesReplaced (accepts R43)
unfolding accepts
replaced_0208 = mod97_replaced

pub replaced_0007 : RefusesReplaced (accepts R49)
unfolding accepts
replaced_0007 = se_orgnr_replaced

pub replaced_0151 : RefusesReplaced (accepts R50)
unfolding accepts
replaced_0151 = abn_replaced

-- neighbours that differ by 5 stay accepted
pub exchanged_0088 : AcceptsExchanged (accepts R40) by_five
unfolding accepts
exchanged_0088 = gln_exchanged

pub exchanged_0192 : AcceptsExchanged (accepts R41) never
unfolding accepts
exchanged_0192 = mod11_exchanged

pub exchanged_0208 : AcceptsExchanged (accepts R43) never
unfolding accepts
exchanged_0208 = mod97_exchanged

-- 0 and 9 stay accepted
pub exchanged_0007 : AcceptsExchanged (accepts R49) zero_and_nine
unfolding accepts
exchanged_0007 = se_orgnr_exchanged

pub exchanged_0151 : AcceptsExchanged (accepts R50) never
unfolding accepts
exchanged_0151 = abn_exchanged
