use Rattle.protocol.proofs.Held.{release_needs_higher_lem}
use Rattle.protocol.proofs.promises.release_needs_higher.Goals as goal

pub returns : goal.returns
returns c = release_needs_higher_lem
