use Rattle.std.proofs.Common.{length, ap}
use Rattle.std.proofs.lemmas.List.{take_all}
use Rattle.message.specs.Encoding.{table}
use Rattle.outbox.specs.Written.{vote_blocks}
use Rattle.outbox.proofs.Ballots.{table_more}
use Rattle.outbox.proofs.Pieces.{adds_none, adds_then, adds_as}
use Rattle.outbox.proofs.layouts.add_vote_entries.Goals as goal

pub loop-vote-init : goal.loop-vote-init
loop-vote-init c = adds_none _ _

pub loop-vote-preserved : goal.loop-vote-preserved
loop-vote-preserved c =
    adds_as _ (table_more c.args.sort c.args.votes.now c.loop-vote.vote-index c.loop-vote-test.true c.vote-item.result c.vote-item.is _ (ap length c.as_slice.ensures.bytes))
    (adds_then c.loop-vote.invariant c.add_row.ensures)

pub returns : goal.returns
returns c =
    adds_as _ (ap (λ vs. table (vote_blocks c.args.sort vs)) (take_all c.loop-vote.vote-index c.args.votes.now c.loop-vote-test.false)) c.loop-vote.invariant
