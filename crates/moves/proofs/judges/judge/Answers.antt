use Rattle.holding.specs.Views.{box_of}
use Rattle.judging.specs.Views.{sent_of}
use Rattle.std.proofs.lemmas.Result.{err_from_is_err_and}
use Rattle.std.proofs.Common.{Some, None, refl}
use Rattle.holding.proofs.Passing.{refused_as, passed_as}
use Rattle.moves.proofs.Verdicts.{slip_refused, state_decides}
use Rattle.moves.proofs.judges.judge.Goals as goal

pub returns-in_err-judge_page-clause-refuses : goal.returns-in_err-judge_page-clause-refuses
returns-in_err-judge_page-clause-refuses g c =
    let core = c.args.core.now
    in let b = box_of g.S.Sealer.meaning g.R.Rulebook.admitted g.R.Rulebook.ranked core
    in let p = err_from_is_err_and c.from_residual-in_err-judge_page.result c.from_residual-in_err-judge_page.ensures.1
    in rw (p.1, p.2) (λ w. slip_refused b (sent_of c.args.m.now) b.sealer.knows refl (c.in_ok-stage.ensures.refuses w) (passed_as _ (c.in_ok-judge_seals.ensures w)) c.slip_of.result c.slip_of.ensures c.in_err-judge_page.field-0.0 (refused_as _ _ c.in_err-judge_page.ensures))

pub returns-in_err-judge_standing-clause-refuses : goal.returns-in_err-judge_standing-clause-refuses
returns-in_err-judge_standing-clause-refuses g c =
    let core = c.args.core.now
    in let b = box_of g.S.Sealer.meaning g.R.Rulebook.admitted g.R.Rulebook.ranked core
    in let p = err_from_is_err_and c.from_residual-in_err-judge_standing.result c.from_residual-in_err-judge_standing.ensures.1
    in rw (p.1, p.2) (λ w. state_decides b (sent_of c.args.m.now) b.sealer.knows refl (c.in_ok-stage.ensures.refuses w) (passed_as _ (c.in_ok-judge_seals.ensures w)) c.slip_of.result c.slip_of.ensures c.member.result.0 (Some c.in_err-judge_standing.field-0.0) c.member.ensures (passed_as _ c.in_ok-judge_page.ensures) (refused_as _ _ c.in_err-judge_standing.ensures))

pub returns-clause-refuses : goal.returns-clause-refuses
returns-clause-refuses g c =
    let core = c.args.core.now
    in let b = box_of g.S.Sealer.meaning g.R.Rulebook.admitted g.R.Rulebook.ranked core
    in λ w. state_decides b (sent_of c.args.m.now) b.sealer.knows refl (c.in_ok-stage.ensures.refuses w) (passed_as _ (c.in_ok-judge_seals.ensures w)) c.slip_of.result c.slip_of.ensures c.member.result.0 None c.member.ensures (passed_as _ c.in_ok-judge_page.ensures) (passed_as _ c.in_ok-judge_standing.ensures)
