use Rattle.std.proofs.lemmas.Result.{err_from_is_err_and}
use Rattle.holding.specs.Views.{box_of}
use Rattle.holding.proofs.Endings.{outcome_as}
use Rattle.moves.specs.Refusing.{begin_refused}
use Rattle.moves.proofs.Refusals.{begin_judged, is_refused, is_judged}
use Rattle.moves.proofs.calls.begin.Goals as goal

pub returns-in_err-judge_begin : goal.returns-in_err-judge_begin
returns-in_err-judge_begin g c =
    let b = box_of g.S.Sealer.meaning g.R.Rulebook.admitted g.R.Rulebook.ranked c.args.core.now
    in let p = err_from_is_err_and c.from_residual.result c.from_residual.ensures.1
    in rw (p.1, p.2) (is_refused b c.args.fill.now.len c.args.out.now (begin_refused b) _ _ (begin_judged b) c.in_err-judge_begin.field-0.0 c.in_err-judge_begin.ensures)

pub returns : goal.returns
returns g c =
    let b = box_of g.S.Sealer.meaning g.R.Rulebook.admitted g.R.Rulebook.ranked c.args.core.now
    in outcome_as b _ _ _ _ _ _ _ _ (is_judged b c.args.fill.now.len c.args.out.now (begin_refused b) _ _ (begin_judged b) c.in_ok-judge_begin.ensures) c.state_round.ensures
