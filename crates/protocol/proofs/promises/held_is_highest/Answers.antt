use Rattle.protocol.proofs.Held.{held_is_highest_lem}
use Rattle.protocol.proofs.promises.held_is_highest.Goals as goal

pub returns : goal.returns
returns c = held_is_highest_lem
