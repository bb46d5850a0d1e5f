use Rattle.std.proofs.Common.{sym, refl, ap}
use Rattle.holding.specs.Views.{box_of}
use Rattle.holding.proofs.Endings.{with_sealer}
use Rattle.judging.specs.Views.{locked_of}
use Rattle.moves.proofs.ByKind.{relocked}
use Rattle.moves.proofs.taking.on_release.Goals as goal

pub returns-then-above_all : goal.returns-then-above_all
returns-then-above_all g c fill out =
    let b = box_of g.S.Sealer.meaning g.R.Rulebook.admitted g.R.Rulebook.ranked c.args.core.now
    in let above = c.if-above_all.ensures
    in relocked b _ _ _ _ _ c.args.lock.now (locked_of c.args.inner.now) refl refl above
    (ap (with_sealer b b.sealer) (c.relock.ensures c.args.core.now.settings.pool (c.requires.place (sym above)) c.requires.short))
