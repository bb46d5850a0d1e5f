use Rattle.std.proofs.Common.{ap, arith}
use Rattle.base.specs.Pools.{quorum}
use Rattle.base.specs.Certified.{kind_of, sort_of, word_of}
use Rattle.sending.specs.Drafts.{cert_for}
use Rattle.holding.proofs.Endings.{sending_as}
use Rattle.holding.proofs.Sizes.{few}
use Rattle.turns.proofs.Certified.{quorum_few, few_votes, lowest_votes}
use Rattle.turns.proofs.certifying.certify.Goals as goal

pub returns : goal.returns
returns g c small =
    let n = c.args.notice.now
    in let small_quorum = quorum_few n.pool
    in let small_pool = few n.pool
    in sending_as _ _ _ _ _ _ _ _ _
    (ap (cert_for n.head (kind_of n.certified) (sort_of n.certified) (word_of n.certified) n.slip)
    (lowest_votes _ _ c.as_slice.ensures.is _ (quorum n.pool) _ (cc) (c.lowest-votes.ensures.votes (omega arith) small)))
    (c.send_certificate.ensures.sent (few_votes _ c.as_slice.ensures.fits))
