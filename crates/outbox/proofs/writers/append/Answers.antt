use Rattle.std.proofs.Common.{refl, ap, ◌∙◌, rules}
use Rattle.outbox.specs.declared.drafts.Fill.{Fill}
use Rattle.outbox.proofs.writers.append.Goals as goal

pub returns-clause-laid : goal.returns-clause-laid
returns-clause-laid g c room =
    record { fill_shown = _; out_shown = _; fill_left = _; out_left = _; shows_fill = ap (λ (f : Fill). f.len) c.fill.ensures.value ∙ c.begin-draft.ensures.now; shows_out = refl; met = c.lay.ensures; leaves_fill = search rules; leaves_out = refl }
