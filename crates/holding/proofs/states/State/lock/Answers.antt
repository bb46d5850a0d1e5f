use Rattle.holding.specs.Views.{view_of}
use Rattle.holding.proofs.Changes.{locks_held, locks_kept}
use Rattle.holding.proofs.states.State.lock.Goals as goal
use Rattle.holding.proofs.states.State.lock.Goals.{then-above_all, else-above_all}

pub returns : goal.returns
returns c pool place small =
    let v = view_of pool c.args.self.now
    in elim c.if-above_all.branch [
      | then-above_all w ↦ rw w.self-is (locks_held v _ _ c.args.message.now _ _ place (rw w.self-is at c.shelve.ensures) c.lock.ensures _ small w.new.ensures w.if-above_all.ensures)
      | else-above_all w ↦ rw w.self-is (locks_kept v _ _ c.args.message.now _ _ place (rw w.self-is at c.shelve.ensures) c.lock.ensures w.if-above_all.ensures)
    ]
