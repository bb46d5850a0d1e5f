use Rattle.ballots.specs.Views.{records_view}
use Rattle.holding.specs.Views.{box_of}
use Rattle.std.proofs.lemmas.Result.{err_from_is_err_and}
use Rattle.turns.specs.Views.{gathering_view}
use Rattle.turns.proofs.Forwards.{forward_asked, forward_due}
use Rattle.turns.proofs.forwarding.judge_forward.Goals as goal

pub returns-in_err-judge_turn : goal.returns-in_err-judge_turn
returns-in_err-judge_turn g c =
    let b = box_of g.S.Sealer.meaning g.R.Rulebook.admitted g.R.Rulebook.ranked c.args.core.now
    in let p = err_from_is_err_and c.from_residual.result c.from_residual.ensures.1
    in rw (p.1, p.2) (forward_asked b (gathering_view c.args.turn.now) (records_view c.args.records.now) _ c.in_err-judge_turn.ensures)

pub returns : goal.returns
returns g c =
    let b = box_of g.S.Sealer.meaning g.R.Rulebook.admitted g.R.Rulebook.ranked c.args.core.now
    in let records = records_view c.args.records.now
    in forward_due b (gathering_view c.args.turn.now) records _ c.in_ok-judge_turn.ensures c.if-ne.ensures c.if-not-leads.ensures (c.propose.ensures records)
