use Rattle.std.proofs.Common.{◌≡◌, ℕ, ◌+◌, List, [], ◌∷◌, length, sym, arith, rules}
use Rattle.protocol.specs.Plans.{draft_bytes, draft_size}
use Rattle.base.specs.declared.slips.Slip.{Slip}
use Rattle.message.specs.declared.shapes.Head.{Head}
use Rattle.sending.specs.Drafts.{release_for}
use Rattle.sending.proofs.Sent.{sent_one, release_fills, release_size}
use Rattle.sending.proofs.sends.send_release.Goals as goal

module _ (h : Head) (s : Slip) (l : List ℕ) (k m long : ℕ) (seal : k ≡ m) (same : long ≡ m) where
  size : 20 + length l + k ≡ draft_size (release_for h s l) long
  size = let e = release_size h s l long in omega arith

  fills : (x : List ℕ) → length x ≡ long → length (draft_bytes (release_for h s l) (x ∷ [])) ≡ 20 + length l + k
  fills x ex = let e = release_fills h s l long x ex in omega arith

pub returns-clause-sent : goal.returns-clause-sent
returns-clause-sent g c lays =
    sent_one (g.S.Sealer.meaning c.args.sealer.now) _ _ _ _
    (size c.args.head c.args.slip.now c.args.lock.now c.seal_length.result g.S.Checker.seal_long _ c.seal_length.ensures (g.met.S.Sealer.long c.args.sealer.now))
    _ _ _ _ _ c.send.result c.says-stated.result (λ i. sym c.says-stated.ensures i ∷ [])
    (fills c.args.head c.args.slip.now c.args.lock.now c.seal_length.result g.S.Checker.seal_long _ c.seal_length.ensures (g.met.S.Sealer.long c.args.sealer.now))
    (λ e. let k = c.send.ensures.short e in (k.0, ((λ i. g.S.Sealer.meaning (k.1.0 i)), k.1.1)))
    (λ e. let k = c.send.ensures.made e in search rules)
    c.send.ensures.laid
    (λ seal l. search rules)
