use Rattle.std.proofs.Common.{refl, ap, ◌∙◌, rules}
use Rattle.std.proofs.lemmas.Result.{err_from_is_err_and}
use Rattle.outbox.specs.declared.drafts.Fill.{Fill}
use Rattle.sending.proofs.sends.send.Goals as goal

pub returns-in_err-seals-clause-made : goal.returns-in_err-seals-clause-made
returns-in_err-seals-clause-made g c room =
    let p = err_from_is_err_and c.from_residual.result c.from_residual.ensures.1
    in rw (p.1, p.2) (record { shown = _; shows = refl; left = _; met = c.in_err-seals.ensures; leaves = refl })

pub returns-clause-laid : goal.returns-clause-laid
returns-clause-laid g c room =
    record { fill_shown = _; out_shown = _; made_shown = _; fill_left = _; out_left = _; shows_fill = ap (λ (f : Fill). f.len) c.fill.ensures.value ∙ c.begin-draft.ensures.now; shows_out = refl; shows_made = refl; met = c.lay.ensures; leaves_fill = search rules; leaves_out = refl }
