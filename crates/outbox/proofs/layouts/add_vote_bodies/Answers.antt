use Rattle.std.proofs.Common.{ap}
use Rattle.std.proofs.lemmas.List.{take_all}
use Rattle.message.specs.Encoding.{bodies}
use Rattle.outbox.specs.Written.{vote_blocks}
use Rattle.outbox.proofs.Ballots.{bodies_more}
use Rattle.outbox.proofs.Pieces.{adds_none, adds_then, adds_as}
use Rattle.outbox.proofs.layouts.add_vote_bodies.Goals as goal

pub loop-vote-init : goal.loop-vote-init
loop-vote-init c sort = adds_none _ _

pub loop-vote-preserved : goal.loop-vote-preserved
loop-vote-preserved c sort =
    adds_as _ (bodies_more sort c.args.votes.now c.loop-vote.vote-index c.loop-vote-test.true c.vote-item.result c.vote-item.is _ c.as_slice.ensures.bytes)
    (adds_then (c.loop-vote.invariant sort) c.add.ensures.added)

pub returns : goal.returns
returns c sort =
    adds_as _ (ap (λ vs. bodies (vote_blocks sort vs)) (take_all c.loop-vote.vote-index c.args.votes.now c.loop-vote-test.false)) (c.loop-vote.invariant sort)
