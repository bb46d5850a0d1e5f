-- The contract is the theorem.
use Rattle.agree.proofs.Whole.{agreement}
use Rattle.agree.proofs.agreement_stands.Goals as goal

pub returns : goal.returns
returns g c = agreement g.row.P.Denot g.row.M.Denot
