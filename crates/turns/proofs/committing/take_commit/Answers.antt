use Rattle.std.proofs.Common.{refl}
use Rattle.holding.specs.Views.{box_of}
use Rattle.std.proofs.lemmas.Result.{err_from_is_err_and}
use Rattle.turns.proofs.Ending.{judged_not}
use Rattle.turns.proofs.committing.take_commit.Goals as goal

pub returns-in_err-received : goal.returns-in_err-received
returns-in_err-received g c =
    let b = box_of g.S.Sealer.meaning g.R.Rulebook.admitted g.R.Rulebook.ranked c.args.core.now
    in let p = err_from_is_err_and c.from_residual.result c.from_residual.ensures.1
    in rw (p.1, p.2) (record { ends = judged_not b b 0 0 _ _ _ c.in_err-received.field-0.0 c.in_err-received.ensures refl refl refl; kept = refl })
