use Rattle.std.proofs.Common.{◌≡◌, ℕ, List, [], ◌∷◌, ◌++◌, length}
use Rattle.std.proofs.lemmas.List.{append-nil}
use Rattle.base.specs.Numbers.{be2}
use Rattle.base.specs.Seals.{seal_bytes}
use Rattle.base.specs.declared.seals.Seal.{Seal}
use Rattle.message.specs.Encoding.{block, framed, header}
use Rattle.message.specs.declared.shapes.Head.{Head}
use Rattle.outbox.proofs.Pieces.{adds_then, adds_as}
use Rattle.outbox.proofs.layouts.lay_release.Goals as goal

-- its pieces in their order
pieces : (h : Head) (l : List ℕ) (seal : Seal) (b : List ℕ) → b ≡ seal_bytes seal → header 6 h 2 ++ ((6 ∷ 0 ∷ be2 (length l)) ++ ((5 ∷ h.sender.0 ∷ be2 (length b)) ++ (l ++ b))) ≡ framed 6 h (block 6 0 l ∷ (block 5 h.sender.0 (seal_bytes seal) ∷ []))
pieces h l seal b same = rw (same, append-nil)

pub returns : goal.returns
returns c =
    let all = adds_as _ (pieces c.args.head c.args.lock.now c.args.own.now c.as_slice-own.result.now c.as_slice-own.ensures.bytes)
    (adds_then c.add_header.ensures (adds_then c.add_entry.ensures (adds_then c.add_entry-2.ensures
    (adds_then c.add.ensures.added c.add-2.ensures.added))))
    in record { laid = all; told = λ inner. all }
