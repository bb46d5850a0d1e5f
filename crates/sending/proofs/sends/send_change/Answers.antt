use Rattle.std.proofs.Common.{◌≡◌, ℕ, ◌+◌, ◌*◌, List, [], ◌∷◌, length, Option, sym, arith, rules}
use Rattle.base.specs.declared.slips.Slip.{Slip}
use Rattle.outbox.specs.Written.{slip_length}
use Rattle.protocol.specs.Plans.{draft_bytes, draft_size}
use Rattle.protocol.specs.Rounds.{change_draft}
use Rattle.sending.proofs.Sent.{sent_two, change_fills, change_size}
use Rattle.sending.proofs.sends.send_change.Goals as goal

module _ (own height round : ℕ) (page : Option Slip) (n k m long : ℕ) (room : n ≡ slip_length page) (seal : k ≡ m) (is : long ≡ m) where
  size : 20 + n + 2 * k ≡ draft_size (change_draft own height round page) long
  size = let e = change_size own height round page long in omega arith

  fills : (x y : List ℕ) → length x ≡ long → length y ≡ long → length (draft_bytes (change_draft own height round page) (x ∷ (y ∷ []))) ≡ 20 + n + 2 * k
  fills x y ex ey = let e = change_fills own height round page long x y ex ey in omega arith

pub returns : goal.returns
returns g c =
    let m = g.S.Sealer.meaning c.args.sealer.now
    in sent_two m _ _ _ _
    (size c.args.head.sender.0 c.args.head.height.0 c.args.head.round.0 c.args.page.now c.slip_room.result c.seal_length.result g.S.Checker.seal_long _ c.slip_room.ensures.room c.seal_length.ensures (g.met.S.Sealer.long c.args.sealer.now))
    _ _ _ _ _ c.send.result c.says-changes.result c.says-stands.result (λ i. sym c.says-changes.ensures i ∷ (sym c.says-stands.ensures i ∷ []))
    (fills c.args.head.sender.0 c.args.head.height.0 c.args.head.round.0 c.args.page.now c.slip_room.result c.seal_length.result g.S.Checker.seal_long m.long c.slip_room.ensures.room c.seal_length.ensures (g.met.S.Sealer.long c.args.sealer.now))
    (λ e. let k = c.send.ensures.short e in (k.0, ((λ i. g.S.Sealer.meaning (k.1.0 i)), k.1.1)))
    (λ e. let k = c.send.ensures.made e in search rules)
    c.send.ensures.laid
    (λ seals l. search rules)
