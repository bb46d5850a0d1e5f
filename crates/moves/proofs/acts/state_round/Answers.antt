use Rattle.std.proofs.Common.{refl, ap}
use Rattle.std.proofs.lemmas.Result.{err_from_is_err_and}
use Rattle.sending.specs.Sending.{two_of}
use Rattle.holding.specs.Views.{box_of, view_of, settings_view}
use Rattle.moves.proofs.Doing.{states, states_not}
use Rattle.holding.proofs.Endings.{with_sealer}
use Rattle.moves.proofs.acts.state_round.Goals as goal

pub returns-in_err-seals : goal.returns-in_err-seals
returns-in_err-seals g c =
    let b = box_of g.S.Sealer.meaning g.R.Rulebook.admitted g.R.Rulebook.ranked c.args.core.now
    in let p = err_from_is_err_and c.from_residual.result c.from_residual.ensures.1
    in rw (p.1, p.2) (states_not b _ _ _ _ _ (view_of c.args.core.now.settings.pool c.args.next) c.args.round.0 c.member-own.result.0 c.candidate-page.result (g.S.Sealer.meaning c.send_change.new.sealer) c.member-own.ensures c.candidate-page.ensures c.in_err-seals.field-0.0 c.in_err-seals.ensures refl)

pub returns : goal.returns
returns g c =
    let b = box_of g.S.Sealer.meaning g.R.Rulebook.admitted g.R.Rulebook.ranked c.args.core.now
    in let m = g.S.Sealer.meaning c.send_change.new.sealer
    in states b _ _ _ _ _ (view_of c.args.core.now.settings.pool c.args.next) c.args.round.0 c.member-own.result.0 c.candidate-page.result m c.member-own.ensures c.candidate-page.ensures (two_of c.in_ok-seals.seals) c.in_ok-seals.ensures
    (ap (with_sealer b m) (c.note_own.ensures (settings_view c.args.core.now.settings) refl))
