use Rattle.base.specs.Bounded.{items}
use Rattle.shelf.proofs.Shelving.{front_kept}
use Rattle.shelf.proofs.held.Held.new.Goals as goal

pub returns : goal.returns
returns c =
    let kept = front_kept c.args.message.now (items c.empty-bytes.result) (items c.extend.new.self) c.min.result 760 c.extend.result c.min.ensures c.empty-bytes.ensures c.extend.ensures.fits c.extend.ensures.items in
    λ i. record { slip = c.args.slip; round = c.args.round.0; bytes = kept i }
