use Rattle.protocol.proofs.Witness.{sealed_well}
use Rattle.protocol.proofs.examples.runs_are_well_sealed.Goals as goal

pub returns : goal.returns
returns c = sealed_well
