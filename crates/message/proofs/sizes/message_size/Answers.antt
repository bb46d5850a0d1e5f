use Rattle.message.proofs.Sizing.{sizes_hold, sizes_reckoned}
use Rattle.message.proofs.sizes.message_size.Goals as goal

pub returns : goal.returns
returns c = record { size = c.measure.ensures; hold = sizes_hold; reckoned = sizes_reckoned }
