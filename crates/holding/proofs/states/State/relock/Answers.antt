use Rattle.std.proofs.Common.{◌∙◌}
use Rattle.holding.specs.Views.{view_of}
use Rattle.holding.proofs.Changes.{place_free, locks_free}
use Rattle.holding.proofs.states.State.relock.Goals as goal

pub returns : goal.returns
returns c pool place small =
    let v = view_of pool c.args.self.now
    in c.lock.ensures pool (place_free v _ c.args.round.0 c.args.message.now _ place c.unlock.ensures) small
    ∙ locks_free v _ c.args.round.0 c.args.message.now _ place c.unlock.ensures
