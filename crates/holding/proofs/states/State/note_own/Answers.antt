use Rattle.std.proofs.Common.{ap, ◌∙◌}
use Rattle.base.specs.Pools.{members}
use Rattle.base.specs.declared.stages.Stage.TheVariants.{Changing}
use Rattle.protocol.specs.Rounds.{onward, moved}
use Rattle.holding.specs.Views.{view_of}
use Rattle.holding.proofs.Sizes.{few}
use Rattle.holding.proofs.Endings.{statements_as}
use Rattle.holding.proofs.states.State.note_own.Goals as goal

pub returns : goal.returns
returns c s same =
    c.go_on.ensures s same
    ∙ ap (onward s) (c.come_to.ensures c.args.pool ∙ ap (λ l. moved (statements_as (view_of c.args.pool c.args.self.now) l) c.args.round.0 Changing) (c.set.ensures (members c.args.pool) (few c.args.pool)))
