use Rattle.std.proofs.Common.{[], ◌∷◌, refl, ap, ◌∙◌}
use Rattle.base.specs.Seals.{seal_bytes}
use Rattle.holding.specs.Views.{box_of}
use Rattle.holding.proofs.Endings.{with_sealer}
use Rattle.protocol.specs.Judging.{round_in}
use Rattle.protocol.specs.Rounds.{moved}
use Rattle.std.proofs.lemmas.Result.{err_from_is_err_and}
use Rattle.moves.proofs.ByKind.{commits, commits_not}
use Rattle.moves.proofs.taking.on_lock.Goals as goal

pub returns-in_err-send_commit : goal.returns-in_err-send_commit
returns-in_err-send_commit g c cert is =
    let b = box_of g.S.Sealer.meaning g.R.Rulebook.admitted g.R.Rulebook.ranked c.args.core.now
    in let p = err_from_is_err_and c.from_residual.result c.from_residual.ensures.1
    in rw (p.1, p.2) (commits_not b _ _ _ _ _ c.args.message.now c.args.head cert c.args.slip.now is c.member.result.0 c.member.ensures (g.S.Sealer.meaning c.send_commit.new.sealer) c.in_err-send_commit.field-0.0 c.in_err-send_commit.ensures refl)

pub returns : goal.returns
returns g c cert is =
    let b = box_of g.S.Sealer.meaning g.R.Rulebook.admitted g.R.Rulebook.ranked c.args.core.now
    in let m = g.S.Sealer.meaning c.send_commit.new.sealer
    in let pool = c.args.core.now.settings.pool
    in commits b _ _ _ _ _ c.args.message.now c.args.head cert c.args.slip.now is c.member.result.0 c.member.ensures m (seal_bytes c.in_ok-send_commit.field-0 ∷ []) c.in_ok-send_commit.ensures
    (ap (with_sealer b m) (c.come_to.ensures pool ∙ (λ i. moved (c.lock.ensures pool c.requires.place c.requires.short i) (round_in c.args.head) (c.requires.committing i))))
