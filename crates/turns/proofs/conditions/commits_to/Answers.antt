use Rattle.std.proofs.Common.{◌∙◌}
use Rattle.turns.proofs.Counted.{tally_members}
use Rattle.turns.proofs.conditions.commits_to.Goals as goal

pub returns : goal.returns
returns c = c.count.ensures ∙ tally_members c.args.pool c.args.records.now c.of_members.result.now c.of_members.ensures c.args.page.now
