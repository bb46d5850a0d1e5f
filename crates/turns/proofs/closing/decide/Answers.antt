use Rattle.std.proofs.Common.{[], ◌∷◌, Ok, Err, refl}
use Rattle.ballots.specs.Views.{records_view}
use Rattle.base.specs.Seals.{seal_bytes}
use Rattle.holding.specs.Views.{box_of}
use Rattle.std.proofs.lemmas.Result.{err_from_is_err_and}
use Rattle.turns.specs.Plans.{closing_plan}
use Rattle.turns.specs.Views.{counting_view}
use Rattle.turns.proofs.Counted.{decided}
use Rattle.turns.proofs.Ending.{judged_not, certified, uncertified}
use Rattle.turns.proofs.closing.decide.Goals as goal

pub returns-in_err-judge_closing : goal.returns-in_err-judge_closing
returns-in_err-judge_closing g c =
    let b = box_of g.S.Sealer.meaning g.R.Rulebook.admitted g.R.Rulebook.ranked c.args.core.now
    in let p = err_from_is_err_and c.from_residual.result c.from_residual.ensures.1
    in rw (p.1, p.2) (judged_not b _ _ _ _ _ _ c.in_err-judge_closing.field-0.0 c.in_err-judge_closing.ensures refl refl refl)

pub returns-in_err-certify : goal.returns-in_err-certify
returns-in_err-certify g c =
    let b = box_of g.S.Sealer.meaning g.R.Rulebook.admitted g.R.Rulebook.ranked c.args.core.now
    in let turn = counting_view c.args.turn.now
    in let p = err_from_is_err_and c.from_residual-in_err-certify.result c.from_residual-in_err-certify.ensures.1
    in rw (p.1, p.2) (uncertified b _ _ _ _ _ _ (closing_plan b turn (records_view c.args.records.now)) c.in_ok-judge_closing.ensures _ _ refl refl
    (g.S.Sealer.meaning c.certify.new.sealer) refl c.in_err-certify.field-0.0
    (decided b turn c.args.records.now (g.S.Sealer.meaning c.certify.new.sealer) c.member.result.0 c.args.fill.now.len c.certify.new.fill.len c.args.out.now c.certify.new.out (Err c.in_err-certify.field-0.0) _ c.in_err-certify.ensures c.member.ensures (cc)))

pub returns : goal.returns
returns g c =
    let b = box_of g.S.Sealer.meaning g.R.Rulebook.admitted g.R.Rulebook.ranked c.args.core.now
    in let turn = counting_view c.args.turn.now
    in certified b _ _ _ _ _ _ (closing_plan b turn (records_view c.args.records.now)) c.in_ok-judge_closing.ensures _ _ refl refl
    (g.S.Sealer.meaning c.certify.new.sealer) refl (seal_bytes c.in_ok-certify.field-0 ∷ []) refl
    (decided b turn c.args.records.now (g.S.Sealer.meaning c.certify.new.sealer) c.member.result.0 c.args.fill.now.len c.certify.new.fill.len c.args.out.now c.certify.new.out (Ok (seal_bytes c.in_ok-certify.field-0 ∷ [])) _ c.in_ok-certify.ensures c.member.ensures (cc))
