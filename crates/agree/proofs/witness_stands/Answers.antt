-- The contract is the witness.
use Rattle.agree.proofs.Witness.{happens}
use Rattle.agree.proofs.witness_stands.Goals as goal

pub returns : goal.returns
returns c = happens
