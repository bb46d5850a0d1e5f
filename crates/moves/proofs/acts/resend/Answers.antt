use Rattle.std.proofs.Common.{sym, refl, ap, ◌∙◌}
use Rattle.ballots.specs.Views.{latest_view}
use Rattle.std.proofs.lemmas.Result.{err_from_is_err_and}
use Rattle.sending.specs.Sending.{two_of}
use Rattle.holding.specs.Views.{box_of}
use Rattle.holding.proofs.Endings.{ends_quiet}
use Rattle.protocol.specs.Calls.{again, resending}
use Rattle.protocol.specs.Judging.{latest_of}
use Rattle.moves.proofs.Doing.{resends, resends_not}
use Rattle.moves.proofs.acts.resend.Goals as goal
use Rattle.moves.proofs.acts.resend.Goals.{in-Some+in_ok-send_change, in_default}

pub returns-in_err-send_change : goal.returns-in_err-send_change
returns-in_err-send_change g c =
    let b = box_of g.S.Sealer.meaning g.R.Rulebook.admitted g.R.Rulebook.ranked c.args.core.now
    in let p = err_from_is_err_and c.from_residual.result c.from_residual.ensures.1
    in rw (p.1, p.2) (resends_not b _ _ _ _ _ (latest_view c.in-Some.latest) c.member-own.result.0 (g.S.Sealer.meaning c.send_change.new.sealer) c.member-own.ensures c.in-Some.ensures c.in_err-send_change.field-0.0 c.in_err-send_change.ensures refl)

pub returns : goal.returns
returns g c =
    let b = box_of g.S.Sealer.meaning g.R.Rulebook.admitted g.R.Rulebook.ranked c.args.core.now
    in elim c.match-latest_of.branch [
      | in-Some+in_ok-send_change w ↦
          rw (w.core-is, w.out-is, w.fill-is)
          (resends b _ _ _ _ _ (latest_view w.in-Some.latest) c.member-own.result.0 (g.S.Sealer.meaning w.send_change.new.sealer) c.member-own.ensures w.in-Some.ensures (two_of w.in_ok-send_change.field-0) w.in_ok-send_change.ensures refl)
      | in_default w ↦
          rw (w.core-is, w.out-is, w.fill-is)
          (ends_quiet b _ _ _ _ _ refl refl (resending b) (ap (again b) (ap (latest_of b.view) (sym c.member-own.ensures) ∙ sym w.in_default.ensures)) refl)
    ]
