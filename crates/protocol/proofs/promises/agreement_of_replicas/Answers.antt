-- The contract is the theorem.
use Rattle.protocol.proofs.Whole.{agreement_of_replicas_lem}
use Rattle.protocol.proofs.promises.agreement_of_replicas.Goals as goal

pub returns : goal.returns
returns c = agreement_of_replicas_lem
