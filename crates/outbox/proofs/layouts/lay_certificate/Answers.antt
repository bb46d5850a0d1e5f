use Rattle.std.proofs.Common.{◌≡◌, ℕ, ◌+◌, List, ◌∷◌, ◌++◌, length, arith}
use Rattle.std.proofs.lemmas.Bool.Decides.{nat_tests}
use Rattle.base.specs.Kinds.{kind_number}
use Rattle.base.specs.Numbers.{be2}
use Rattle.base.specs.Seals.{seal_bytes}
use Rattle.base.specs.Slips.{slip_bytes}
use Rattle.base.specs.declared.seals.Seal.{Seal}
use Rattle.base.specs.declared.seals.Vote.{Vote}
use Rattle.base.specs.declared.slips.Slip.{Slip}
use Rattle.message.specs.Encoding.{cert_blocks, framed, header, table, bodies}
use Rattle.message.specs.declared.shapes.Head.{Head}
use Rattle.outbox.specs.Written.{cert_with, vote_blocks}
use Rattle.outbox.proofs.Ballots.{length_votes}
use Rattle.outbox.proofs.Pieces.{adds_then, adds_as}
use Rattle.outbox.proofs.layouts.lay_certificate.Goals as goal

-- its pieces in their order
pieces : (kind sort : ℕ) (h : Head) (s : Slip) (seal : Seal) (vs : List Vote) (b : List ℕ) (n count : ℕ) → b ≡ seal_bytes seal → n ≡ length (slip_bytes s) → count ≡ 2 + length vs
    → header kind h count ++ ((1 ∷ 0 ∷ be2 n) ++ ((5 ∷ h.sender.0 ∷ be2 (length b)) ++ (table (vote_blocks sort vs) ++ (slip_bytes s ++ (b ++ bodies (vote_blocks sort vs)))))) ≡ framed kind h (cert_blocks sort h (cert_with s seal vs))
pieces kind sort h s seal vs b n count same is counts =
    let all : count ≡ length (cert_blocks sort h (cert_with s seal vs)) = let k = length_votes sort vs in omega arith
    in rw (same, is, all)

pub returns : goal.returns
returns c few =
    adds_as _ (pieces (kind_number c.args.kind) c.args.sort c.args.head c.args.slip.now c.args.own.now c.args.votes.now c.as_slice-own.result.now c.size.result _ c.as_slice-own.ensures.bytes c.size.ensures.size (grind (arith, nat_tests)))
    (adds_then c.add_header.ensures (adds_then c.add_entry.ensures (adds_then c.add_entry-2.ensures (adds_then c.add_vote_entries.ensures
    (adds_then c.add_slip.ensures (adds_then c.add.ensures.added (c.add_vote_bodies.ensures c.args.sort)))))))
