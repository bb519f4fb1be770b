-- `codice::groups::codice_fiscale` meets its contract: 16 points by their groups. Assumes nothing.
use Rattle.codice.proofs.Walk.{sixteen}
use Rattle.codice.proofs.groups.codice_fiscale.Goals as goal

pub returns-in-Some-eq16 : goal.returns-in-Some-eq16
returns-in-Some-eq16 c = sixteen _ _ _ _ c.in-Some-eq16.ensures c.in-Some-eq16.field-0-test c.failing_group.ensures
