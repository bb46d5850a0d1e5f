use Rattle.std.proofs.Common.{leb, ap, ◌∙◌}
use Rattle.ballots.proofs.Viewed.{tally_naming}
use Rattle.ballots.proofs.latest.is_agreed.Goals as goal

pub returns : goal.returns
returns c = ap (leb c.args.quorum) (c.count.ensures ∙ tally_naming c.args.round c.args.slip c.args.latest.now)
