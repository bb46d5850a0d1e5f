use Rattle.std.proofs.Common.{◌≡◌, ℕ, ◌+◌, cond, List, [], ◌∷◌, ◌++◌, length, is_some, Some, None, Option, rules}
use Rattle.std.proofs.lemmas.List.{append-nil}
use Rattle.base.specs.Numbers.{be2}
use Rattle.base.specs.Seals.{seal_bytes}
use Rattle.base.specs.declared.seals.Seal.{Seal}
use Rattle.base.specs.declared.slips.Slip.{Slip}
use Rattle.message.specs.Contents.{change}
use Rattle.message.specs.Encoding.{encoded, header, page_blocks, table, bodies}
use Rattle.message.specs.declared.shapes.Head.{Head}
use Rattle.outbox.specs.Written.{sent}
use Rattle.outbox.proofs.Pieces.{adds_then, adds_as}
use Rattle.outbox.proofs.layouts.lay_change.Goals as goal

-- its pieces in their order
pieces : (h : Head) (page : Option Slip) (x y : Seal) (a b : List ℕ) (n : ℕ) → a ≡ seal_bytes x → b ≡ seal_bytes y → n ≡ 2 + cond (is_some page) 1 0
    → header 1 h n ++ (table (page_blocks page []) ++ ((2 ∷ h.sender.0 ∷ be2 (length a)) ++ ((3 ∷ h.sender.0 ∷ be2 (length b)) ++ (bodies (page_blocks page []) ++ (a ++ b)))))
    ≡ encoded (sent h (change page (seal_bytes x) (seal_bytes y)))
pieces h None x y a b n ea eb is = rw (ea, eb, is) (simp append-nil)
pieces h (Some s) x y a b n ea eb is = rw (ea, eb, is) (simp append-nil)

pub returns : goal.returns
returns c =
    adds_as _ (pieces c.args.head c.args.page.now c.args.rchg.now c.args.cand.now c.as_slice-rchg.result.now c.as_slice-cand.result.now _ c.as_slice-rchg.ensures.bytes c.as_slice-cand.ensures.bytes (search rules))
    (adds_then c.add_header.ensures (adds_then c.add_page_entry.ensures (adds_then c.add_entry.ensures (adds_then c.add_entry-2.ensures
    (adds_then c.add_page.ensures (adds_then c.add.ensures.added c.add-2.ensures.added))))))
