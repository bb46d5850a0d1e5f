use Rattle.std.proofs.Common.{◌≡◌, Some, None, Err, sym, ap, ◌∙◌}
use Rattle.std.proofs.lemmas.Result.{err_from_is_err_and}
use Rattle.base.specs.declared.refusals.Refusal.TheVariants.{Misshapen}
use Rattle.message.specs.Views.{lock_view}
use Rattle.message.specs.Comparing.{higher_of}
use Rattle.message.specs.Shapes.{lock_of}
use Rattle.shelf.specs.Views.{held_view}
use Rattle.std.specs.Option.{option_map, ok_or}
use Rattle.holding.specs.Views.{box_of}
use Rattle.moves.specs.Comparing.{if_lock, handed}
use Rattle.moves.proofs.Compares.{handed_higher, compares}
use Rattle.moves.proofs.comparing.higher_of.Goals as goal

pub returns-in-Some : goal.returns-in-Some
returns-in-Some g c =
    let b = box_of g.S.Sealer.meaning g.R.Rulebook.admitted g.R.Rulebook.ranked c.args.core.now
    in let n = g.S.Checker.seal_long
    in let pool = b.settings.pool
    in let m = c.args.received.now
    in ap handed (c.higher_lock.ensures ∙ ap (λ f. higher_of (lock_of f.pool f.seal_len c.as_slice.result.now) (lock_of f.pool f.seal_len m) c.as_slice.result c.args.received) c.format-format.ensures) ∙ handed_higher (lock_of pool n c.as_slice.result.now) (lock_of pool n m) c.as_slice.result c.args.received
    ∙ (λ i. higher_of (lock_of pool n (c.as_slice.ensures.bytes i)) (lock_of pool n m) (c.as_slice.ensures.bytes i) m)
    ∙ compares b m n (Some (held_view c.in-Some.held)) (g.met.S.Sealer.long c.args.core.now.sealer) c.if-not-is_member.ensures (ap (option_map held_view) c.in-Some.is)

pub returns-in_ok-ok_or-in-None : goal.returns-in_ok-ok_or-in-None
returns-in_ok-ok_or-in-None g c =
    let b = box_of g.S.Sealer.meaning g.R.Rulebook.admitted g.R.Rulebook.ranked c.args.core.now
    in let n = g.S.Checker.seal_long
    in let m = c.args.received.now
    in ap (λ o. if_lock (option_map lock_view o) m) (sym c.in_ok-ok_or-in-None.ensures.ok_part)
    ∙ ap (λ l. if_lock l m) (c.parse_lock.ensures.reads ∙ ap (λ f. lock_of f.pool f.seal_len m) c.format-format.ensures)
    ∙ compares b m n None (g.met.S.Sealer.long c.args.core.now.sealer) c.if-not-is_member.ensures (ap (option_map held_view) c.in-None.is)

pub returns-in_err-ok_or-in-None : goal.returns-in_err-ok_or-in-None
returns-in_err-ok_or-in-None g c =
    let b = box_of g.S.Sealer.meaning g.R.Rulebook.admitted g.R.Rulebook.ranked c.args.core.now
    in let n = g.S.Checker.seal_long
    in let m = c.args.received.now
    in let p = err_from_is_err_and c.from_residual.result c.from_residual.ensures.1
    in let e = c.in_err-ok_or-in-None.ensures
    in let why : c.in_err-ok_or-in-None.field-0.0 ≡ Misshapen = cc (e.value ∙ ap (λ o. ok_or o Misshapen) e.ok_part)
    in rw (p.1, p.2)
    (ap Err why
    ∙ ap (λ o. if_lock (option_map lock_view o) m) (sym e.ok_part)
    ∙ ap (λ l. if_lock l m) (c.parse_lock.ensures.reads ∙ ap (λ f. lock_of f.pool f.seal_len m) c.format-format.ensures)
    ∙ compares b m n None (g.met.S.Sealer.long c.args.core.now.sealer) c.if-not-is_member.ensures (ap (option_map held_view) c.in-None.is))
