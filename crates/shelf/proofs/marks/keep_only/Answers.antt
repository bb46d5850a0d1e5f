use Rattle.std.specs.Option.{option_map}
use Rattle.shelf.specs.Locks.{lock_view}
use Rattle.shelf.proofs.Changing.{kept_further, kept_all}
use Rattle.shelf.proofs.marks.keep_only.Goals as goal

pub loop-c-preserved : goal.loop-c-preserved
loop-c-preserved c =
    kept_further (option_map lock_view c.args.only.now) c.args.candidates.now c.loop-c.candidates c.loop-c.c-index c.loop-c.invariant
    c.kept_in-c.result c.loop-c-test.true c.loop-c.auto.candidates c.kept_in-c.ensures

pub returns : goal.returns
returns c =
    kept_all (option_map lock_view c.args.only.now) c.args.candidates.now c.loop-c.candidates c.loop-c.c-index c.loop-c.invariant c.loop-c-test.false c.loop-c.auto.candidates
