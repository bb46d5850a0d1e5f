use Rattle.holding.proofs.Endings.{sending_as}
use Rattle.turns.proofs.Proposed.{few_statements, lock_as, select_as}
use Rattle.turns.proofs.proposing.send_proposal.Goals as goal
use Rattle.turns.proofs.proposing.send_proposal.Goals.{in-Lock, in-Select}

pub returns : goal.returns
returns g c =
    let number = (g.S.Sealer.meaning c.args.sealer.now).number
    in let latest = c.of.result.now
    in let sent = c.certify.ensures (few_statements c.args.pool latest c.of.ensures.long)
    in elim c.match-proposal.branch [
      | in-Lock w ↦ sending_as _ _ _ _ _ _ _ _ _ (lock_as c.args.pool c.args.state.now c.member.result.0 number c.member.ensures latest c.of.ensures.places c.match-proposal.certified c.args.proposal w.in-Lock.slip w.certified-is w.in-Lock.is) sent
      | in-Select w ↦ sending_as _ _ _ _ _ _ _ _ _ (select_as c.args.pool c.args.state.now c.member.result.0 number c.member.ensures latest c.of.ensures.places c.match-proposal.certified c.args.proposal w.in-Select.slip w.certified-is w.in-Select.is) sent
    ]
