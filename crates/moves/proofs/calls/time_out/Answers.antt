use Rattle.std.proofs.Common.{◌≡◌, ◌+◌, true, ltb, Ok, sym, refl, ap, ◌∙◌, arith}
use Rattle.base.specs.Pools.{last_round}
use Rattle.base.specs.declared.refusals.Refusal.TheVariants.{BooksEnd}
use Rattle.base.specs.declared.stages.Stage.TheVariants.{Committing}
use Rattle.std.proofs.lemmas.Bool.Decides.{nat_tests}
use Rattle.holding.specs.Views.{box_of}
use Rattle.holding.proofs.Endings.{with_sealer, outcome_as, ends_quiet}
use Rattle.protocol.specs.Calls.{timed_out}
use Rattle.protocol.specs.Messages.{taken}
use Rattle.protocol.specs.Plans.{unless}
use Rattle.protocol.specs.Rounds.{moved, plainly, stating}
use Rattle.moves.proofs.calls.time_out.Goals as goal

pub returns-in-Locking : goal.returns-in-Locking
returns-in-Locking g c =
    let b = box_of g.S.Sealer.meaning g.R.Rulebook.admitted g.R.Rulebook.ranked c.args.core.now
    in outcome_as b _ _ _ _ _ _ _ _ (sym (ap (timed_out b) c.in-Locking.is))
    (ends_quiet b _ _ _ _ _ refl refl (plainly taken (moved b.view b.view.round Committing)) refl (ap (with_sealer b b.sealer) (c.come_to.ensures c.args.core.now.settings.pool)))

pub returns-else-next-ge-LAST_ROUND : goal.returns-else-next-ge-LAST_ROUND
returns-else-next-ge-LAST_ROUND g c =
    let b = box_of g.S.Sealer.meaning g.R.Rulebook.admitted g.R.Rulebook.ranked c.args.core.now
    in let more : ltb b.view.round last_round ≡ true = grind (arith, nat_tests)
    in outcome_as b _ _ _ _ _ _ _ _ (sym (ap (timed_out b) c.in-Releasing.is ∙ ap (λ t. unless t BooksEnd (Ok (stating b taken b.view (b.view.round + 1)))) more)) c.state_round.ensures
