use Rattle.std.proofs.Common.{◌≡◌, true, ℕ, ◌+◌, ◌*◌, List, [], ◌∷◌, map, length, Some, sym, ◌∙◌, arith, rules}
use Rattle.protocol.specs.Plans.{draft_bytes, draft_size}
use Rattle.base.specs.Slips.{slip_bytes}
use Rattle.base.specs.declared.seals.Vote.{Vote}
use Rattle.base.specs.declared.slips.Slip.{Slip}
use Rattle.message.specs.declared.shapes.Head.{Head}
use Rattle.message.specs.Encoding.{cert_blocks, framed}
use Rattle.outbox.specs.Written.{signed_by, cert_with, countable, seals_length}
use Rattle.outbox.specs.Appending.{Adds}
use Rattle.outbox.proofs.Pieces.{adds_as}
use Rattle.base.specs.Kinds.{kind_number}
use Rattle.base.specs.Certified.{kind_of, sort_of, word_of}
use Rattle.sending.specs.Drafts.{cert_for}
use Rattle.base.specs.declared.certified.Certified.{Certified}
use Rattle.sending.proofs.Sent.{sent_one, cert_fills, cert_size_lem}
use Rattle.sending.proofs.sends.send_certificate.Goals as goal

module _ (h : Head) (what : Certified) (s : Slip) (vs : List Vote) (n w : ℕ) (is : n ≡ length (slip_bytes s)) (weighs : w ≡ 4 * length vs + seals_length vs) (k m long : ℕ) (seal : k ≡ m) (same : long ≡ m) where
  size : 20 + n + k + w ≡ draft_size (cert_for h (kind_of what) (sort_of what) (word_of what) s (map signed_by vs)) long
  size = let e = cert_size_lem h (kind_of what) (sort_of what) (word_of what) s vs long in omega arith

  fills : (x : List ℕ) → length x ≡ long → length (draft_bytes (cert_for h (kind_of what) (sort_of what) (word_of what) s (map signed_by vs)) (x ∷ [])) ≡ 20 + n + k + w
  fills x ex = let e = cert_fills h (kind_of what) (sort_of what) (word_of what) s vs long x ex in omega arith

pub returns-clause-sent : goal.returns-clause-sent
returns-clause-sent g c few =
    sent_one (g.S.Sealer.meaning c.args.sealer.now) _ _ _ _
    (size c.args.head c.args.certified c.args.slip.now c.args.votes.now c.size.result c.votes_room.result c.size.ensures.size (c.votes_room.ensures.room few) c.seal_length.result g.S.Checker.seal_long _ c.seal_length.ensures (g.met.S.Sealer.long c.args.sealer.now))
    _ _ _ _ _ c.send.result c.says-stated.result
    (λ i. sym (c.says-stated.ensures ∙ (λ j. record { word = c.word.ensures j; height = c.args.head.height; round = c.args.head.round; page = Some c.args.slip.now })) i ∷ [])
    (fills c.args.head c.args.certified c.args.slip.now c.args.votes.now c.size.result c.votes_room.result c.size.ensures.size (c.votes_room.ensures.room few) c.seal_length.result g.S.Checker.seal_long _ c.seal_length.ensures (g.met.S.Sealer.long c.args.sealer.now))
    (λ e. let k = c.send.ensures.short e in (k.0, ((λ i. g.S.Sealer.meaning (k.1.0 i)), k.1.1)))
    (λ e. let k = c.send.ensures.made e in search rules)
    c.send.ensures.laid
    (λ own l. adds_as _ (λ i. framed (kind_number (c.kind-kind.ensures i)) c.args.head (cert_blocks ((c.number-sort.ensures ∙ c.sort.ensures) i) c.args.head (cert_with c.args.slip.now own c.args.votes.now)))
    (let t : countable c.args.votes.now ≡ true → Adds c.args.fill.now.len c.send.new.fill.len (framed (kind_number c.kind-kind.result) c.args.head (cert_blocks c.number-sort.result c.args.head (cert_with c.args.slip.now own c.args.votes.now))) c.args.out.now c.send.new.out = search rules in t few))
