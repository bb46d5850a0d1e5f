use Rattle.std.proofs.Common.{[], ◌∷◌, ap}
use Rattle.base.specs.Kinds.{kind_number}
use Rattle.base.specs.Numbers.{be4}
use Rattle.outbox.proofs.Pieces.{adds_then, adds_as}
use Rattle.outbox.proofs.drafts.add_header.Goals as goal

pub returns : goal.returns
returns c =
    let h = c.args.head
    in let one = adds_as (kind_number c.args.kind ∷ h.sender.0 ∷ c.args.count ∷ 0 ∷ []) (ap (λ k. k ∷ h.sender.0 ∷ c.args.count ∷ 0 ∷ []) c.number.ensures) c.add.ensures.added
    in let two = adds_as (be4 h.height.0) c.to_be_bytes.ensures c.add-2.ensures.added
    in let three = adds_as (be4 h.round.0) c.to_be_bytes-2.ensures c.add-3.ensures.added
    in adds_then one (adds_then two three)
