use Rattle.std.proofs.Common.{arith}
use Rattle.shelf.proofs.Changing.{locked_here, locked_further, locked_nowhere}
use Rattle.shelf.proofs.marks.lock_at.Goals as goal

pub returns-then-eq : goal.returns-then-eq
returns-then-eq c =
    locked_here c.args.slip.now c.args.round.0 c.args.candidates.now c.loop-c.candidates c.loop-c.c-index c.loop-c.invariant
    c.raise.result (omega arith) c.if-eq.ensures c.raise.ensures

pub loop-c-preserved : goal.loop-c-preserved
loop-c-preserved c =
    locked_further c.args.slip.now c.args.round.0 c.args.candidates.now c.loop-c.candidates c.loop-c.c-index c.loop-c.invariant (omega arith) c.if-eq.ensures

pub returns : goal.returns
returns c = locked_nowhere c.args.slip.now c.args.round.0 c.args.candidates.now c.loop-c.candidates c.loop-c.c-index c.loop-c.invariant (omega arith)
