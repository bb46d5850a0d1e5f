use Rattle.protocol.proofs.Lasting.{commits_once_lem}
use Rattle.protocol.proofs.promises.commits_once.Goals as goal

pub returns : goal.returns
returns c = commits_once_lem
