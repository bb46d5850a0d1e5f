use Rattle.std.proofs.Common.{sym, refl, ap}
use Rattle.base.specs.Seals.{seal_bytes}
use Rattle.holding.specs.Views.{box_of, view_of, settings_view}
use Rattle.holding.proofs.Endings.{with_sealer}
use Rattle.moves.proofs.ByKind.{repeated, uncalled, called}
use Rattle.moves.proofs.taking.on_change.Goals as goal

pub returns-then-repeated : goal.returns-then-repeated
returns-then-repeated g c =
    let b = box_of g.S.Sealer.meaning g.R.Rulebook.admitted g.R.Rulebook.ranked c.args.core.now
    in repeated b _ _ _ _ _ c.args.head c.args.page.now (seal_bytes c.args.rchg.now) (seal_bytes c.args.cand.now) refl refl c.if-repeated.ensures refl

pub returns-in-None : goal.returns-in-None
returns-in-None g c =
    let pool = c.args.core.now.settings.pool
    in let settings = settings_view c.args.core.now.settings
    in let b = box_of g.S.Sealer.meaning g.R.Rulebook.admitted g.R.Rulebook.ranked c.args.core.now
    in let first = c.if-repeated.ensures
    in uncalled b _ _ _ _ _ c.args.head c.args.page.now (seal_bytes c.args.rchg.now) (seal_bytes c.args.cand.now) refl refl
    (view_of pool c.note_statement.new.self) first (c.note_statement.ensures pool (c.requires (sym first)))
    (c.in-None.ensures settings refl) (ap (with_sealer b b.sealer) (c.go_on_changing.ensures settings refl))

pub returns-in-Some : goal.returns-in-Some
returns-in-Some g c =
    let pool = c.args.core.now.settings.pool
    in let b = box_of g.S.Sealer.meaning g.R.Rulebook.admitted g.R.Rulebook.ranked c.args.core.now
    in let first = c.if-repeated.ensures
    in called b _ _ _ _ _ c.args.head c.args.page.now (seal_bytes c.args.rchg.now) (seal_bytes c.args.cand.now)
    (view_of pool c.note_statement.new.self) c.in-Some.round.0 _ first (c.note_statement.ensures pool (c.requires (sym first)))
    (c.in-Some.ensures (settings_view c.args.core.now.settings) refl) c.state_round.ensures
