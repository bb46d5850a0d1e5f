use Rattle.std.proofs.Common.{◌≡◌, arith, rules}
use Rattle.outbox.specs.Written.{seals_length}
use Rattle.outbox.proofs.Ballots.{seals_small}
use Rattle.outbox.proofs.layouts.seals_len.Goals as goal

pub returns-clause-small : goal.returns-clause-small
returns-clause-small c = let is : c.sum.result ≡ seals_length c.args.votes.now = search rules in let most = seals_small c.args.votes.now in omega arith
