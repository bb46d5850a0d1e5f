use Rattle.std.proofs.Common.{◌≡◌, cond, [], Ok, refl, ap, ◌∙◌}
use Rattle.std.proofs.lemmas.Result.{err_from_is_err_and}
use Rattle.base.specs.Refusals.{passing}
use Rattle.holding.specs.Views.{box_of}
use Rattle.holding.proofs.Endings.{with_sealer, outcome_as, ends_quiet}
use Rattle.protocol.specs.Messages.{taken}
use Rattle.protocol.specs.Rounds.{shelved, with_candidates, plainly}
use Rattle.moves.specs.Refusing.{offer_refused}
use Rattle.moves.proofs.Refusals.{offer_judged, offer_placed, is_refused, is_judged}
use Rattle.moves.proofs.calls.offer.Goals as goal

pub returns-in_err-judge_offer : goal.returns-in_err-judge_offer
returns-in_err-judge_offer g c =
    let b = box_of g.S.Sealer.meaning g.R.Rulebook.admitted g.R.Rulebook.ranked c.args.core.now
    in let p = err_from_is_err_and c.from_residual.result c.from_residual.ensures.1
    in rw (p.1, p.2) (is_refused b 0 [] (offer_refused b c.args.slip.now) _ _ (offer_judged b c.args.slip.now) c.in_err-judge_offer.field-0.0 c.in_err-judge_offer.ensures)

pub returns : goal.returns
returns g c =
    let b = box_of g.S.Sealer.meaning g.R.Rulebook.admitted g.R.Rulebook.ranked c.args.core.now
    in let s = c.args.slip.now
    in let passed : Ok tt ≡ passing (offer_refused b s) = c.in_ok-judge_offer.ensures
    in let cs = b.view.candidates
    in outcome_as b _ 0 0 [] [] _ _ _ (is_judged b 0 [] (offer_refused b s) _ _ (offer_judged b s) passed)
    (ends_quiet b _ 0 0 [] [] refl refl (plainly taken (with_candidates b.view (shelved s cs))) refl
    (ap (λ l. with_sealer b b.sealer (with_candidates b.view l)) (c.shelve.ensures ∙ ap (λ t. cond t (shelved s cs) cs) (offer_placed b s passed))))
