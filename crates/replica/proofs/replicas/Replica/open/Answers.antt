-- The promises to whoever opens a replica: the theorem on runs, and that every call is a step of one.
use Rattle.protocol.proofs.Whole.{agreement_of_replicas_lem}
use Rattle.replica.proofs.Stepping.{calls_are_steps}
use Rattle.replica.proofs.replicas.Replica.open.Goals as goal

pub returns-clause-agreement : goal.returns-clause-agreement
returns-clause-agreement g c = agreement_of_replicas_lem

pub returns-clause-steps : goal.returns-clause-steps
returns-clause-steps g c = calls_are_steps
