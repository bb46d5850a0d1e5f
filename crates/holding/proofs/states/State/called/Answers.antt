use Rattle.std.proofs.Common.{sym, ap, ◌∙◌}
use Rattle.ballots.specs.Asking.{calls_for}
use Rattle.base.specs.Pools.{tolerance}
use Rattle.protocol.specs.Rounds.{highest_round}
use Rattle.holding.proofs.Changes.{resting_as}
use Rattle.holding.proofs.states.State.called.Goals as goal

pub returns : goal.returns
returns c s same =
    let resting = resting_as _ _ c.eq.ensures
    in let few = c.tolerance.ensures ∙ ap tolerance (sym same)
    in c.highest.ensures
    ∙ (λ i. highest_round (calls_for c.args.self.now.round.0 (resting i) (few i) (c.of.ensures.places i)) (c.of.ensures.places i))
