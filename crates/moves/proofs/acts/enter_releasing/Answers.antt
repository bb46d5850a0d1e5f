use Rattle.std.proofs.Common.{[], ◌∷◌, refl, ap}
use Rattle.base.specs.Seals.{seal_bytes}
use Rattle.shelf.specs.Views.{held_view}
use Rattle.std.proofs.lemmas.Result.{err_from_is_err_and}
use Rattle.std.specs.Option.{option_map}
use Rattle.protocol.specs.Messages.{taken}
use Rattle.protocol.specs.Rounds.{release_of, releasing}
use Rattle.holding.specs.Views.{box_of, view_of}
use Rattle.holding.proofs.Endings.{with_sealer, ends_quiet}
use Rattle.moves.proofs.Doing.{releases, releases_not, short_lock}
use Rattle.moves.proofs.acts.enter_releasing.Goals as goal
use Rattle.moves.proofs.acts.enter_releasing.Goals.{in-Some+in_ok-send_release, in_default}

pub returns-in_err-send_release : goal.returns-in_err-send_release
returns-in_err-send_release g c =
    let b = box_of g.S.Sealer.meaning g.R.Rulebook.admitted g.R.Rulebook.ranked c.args.core.now
    in let p = err_from_is_err_and c.from_residual.result c.from_residual.ensures.1
    in rw (p.1, p.2) (releases_not b _ _ _ _ _ (view_of c.args.core.now.settings.pool c.args.next.now) (held_view c.in-Some.held) (ap (option_map held_view) c.in-Some.is) c.member.result.0 _ (g.S.Sealer.meaning c.send_release.new.sealer) c.member.ensures c.as_slice.ensures.bytes c.in_err-send_release.field-0.0
    (c.in_err-send_release.ensures.sent (short_lock _ c.as_slice.ensures.small)) refl)

pub returns : goal.returns
returns g c =
    let b = box_of g.S.Sealer.meaning g.R.Rulebook.admitted g.R.Rulebook.ranked c.args.core.now
    in let pool = c.args.core.now.settings.pool
    in let v = view_of pool c.args.next.now
    in elim c.match-next.branch [
      | in-Some+in_ok-send_release w ↦
          let m = g.S.Sealer.meaning w.send_release.new.sealer
          in rw (w.core-is, w.out-is, w.fill-is)
          (releases b _ _ _ _ _ v (held_view w.in-Some.held) (ap (option_map held_view) w.in-Some.is) w.member.result.0 _ m w.member.ensures w.as_slice.ensures.bytes (seal_bytes w.in_ok-send_release.field-0 ∷ [])
          (w.in_ok-send_release.ensures.sent (short_lock _ w.as_slice.ensures.small)) (ap (with_sealer b m) (c.released-core.ensures pool)))
      | in_default w ↦
          rw (w.core-is, w.out-is, w.fill-is)
          (ends_quiet b _ _ _ _ _ refl refl (releasing b taken v) (ap (λ h. release_of b.sealer.number v (option_map held_view h)) w.in_default.is) (ap (with_sealer b b.sealer) (c.released-core.ensures pool)))
    ]
