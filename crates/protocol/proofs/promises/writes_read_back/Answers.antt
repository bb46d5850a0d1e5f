use Rattle.protocol.proofs.Reading.{writes_read_back_lem}
use Rattle.protocol.proofs.promises.writes_read_back.Goals as goal

pub returns : goal.returns
returns c = writes_read_back_lem
