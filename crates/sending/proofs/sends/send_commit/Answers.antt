use Rattle.std.proofs.Common.{◌≡◌, ℕ, ◌+◌, List, [], ◌∷◌, length, sym, arith, rules}
use Rattle.protocol.specs.Plans.{draft_bytes, draft_size}
use Rattle.base.specs.Slips.{slip_bytes}
use Rattle.base.specs.declared.slips.Slip.{Slip}
use Rattle.message.specs.declared.shapes.Head.{Head}
use Rattle.protocol.specs.Messages.{commit_draft}
use Rattle.sending.proofs.Sent.{sent_one, commit_fills, commit_size}
use Rattle.sending.proofs.sends.send_commit.Goals as goal

module _ (h : Head) (s : Slip) (n : ℕ) (is : n ≡ length (slip_bytes s)) (k m long : ℕ) (seal : k ≡ m) (same : long ≡ m) where
  size : 20 + n + k ≡ draft_size (commit_draft h.sender.0 h.height.0 h.round.0 s) long
  size = let e = commit_size h.sender.0 h.height.0 h.round.0 s long in omega arith

  fills : (x : List ℕ) → length x ≡ long → length (draft_bytes (commit_draft h.sender.0 h.height.0 h.round.0 s) (x ∷ [])) ≡ 20 + n + k
  fills x ex = let e = commit_fills h.sender.0 h.height.0 h.round.0 s long x ex in omega arith

pub returns : goal.returns
returns g c =
    sent_one (g.S.Sealer.meaning c.args.sealer.now) _ _ _ _
    (size c.args.head c.args.slip.now c.size.result c.size.ensures.size c.seal_length.result g.S.Checker.seal_long _ c.seal_length.ensures (g.met.S.Sealer.long c.args.sealer.now))
    _ _ _ _ _ c.send.result c.says-stated.result (λ i. sym c.says-stated.ensures i ∷ [])
    (fills c.args.head c.args.slip.now c.size.result c.size.ensures.size c.seal_length.result g.S.Checker.seal_long _ c.seal_length.ensures (g.met.S.Sealer.long c.args.sealer.now))
    (λ e. let k = c.send.ensures.short e in (k.0, ((λ i. g.S.Sealer.meaning (k.1.0 i)), k.1.1)))
    (λ e. let k = c.send.ensures.made e in search rules)
    c.send.ensures.laid
    (λ seal l. search rules)
