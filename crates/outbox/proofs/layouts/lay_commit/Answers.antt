use Rattle.std.proofs.Common.{◌≡◌, ℕ, List, ◌∷◌, ◌++◌, length}
use Rattle.std.proofs.lemmas.List.{append-nil}
use Rattle.base.specs.Numbers.{be2}
use Rattle.base.specs.Seals.{seal_bytes}
use Rattle.base.specs.Slips.{slip_bytes}
use Rattle.base.specs.declared.seals.Seal.{Seal}
use Rattle.base.specs.declared.slips.Slip.{Slip}
use Rattle.message.specs.Contents.{commit}
use Rattle.message.specs.Encoding.{encoded, header}
use Rattle.message.specs.declared.shapes.Head.{Head}
use Rattle.outbox.specs.Written.{sent}
use Rattle.outbox.proofs.Pieces.{adds_then, adds_as}
use Rattle.outbox.proofs.layouts.lay_commit.Goals as goal

-- its pieces in their order
pieces : (h : Head) (s : Slip) (seal : Seal) (n : ℕ) (b : List ℕ) → n ≡ length (slip_bytes s) → b ≡ seal_bytes seal → header 4 h 2 ++ ((1 ∷ 0 ∷ be2 n) ++ ((4 ∷ h.sender.0 ∷ be2 (length b)) ++ (slip_bytes s ++ b))) ≡ encoded (sent h (commit s (seal_bytes seal)))
pieces h s seal n b is same = rw (is, same, append-nil)

pub returns : goal.returns
returns c =
    adds_as _ (pieces c.args.head c.args.slip.now c.args.seal.now c.size.result c.as_slice-seal.result.now c.size.ensures.size c.as_slice-seal.ensures.bytes)
    (adds_then c.add_header.ensures (adds_then c.add_entry.ensures (adds_then c.add_entry-2.ensures
    (adds_then c.add_slip.ensures c.add.ensures.added))))
