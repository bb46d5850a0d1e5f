-- What the six kinds of messages hold. P is what stands for a seal: its bytes, or a piece of the message.
use Rattle.std.specs.Prelude.{ℕ, List, map, Option}
use Rattle.base.specs.declared.slips.Slip.{Slip}
use Rattle.message.specs.declared.shapes.Head.{Head}

-- a seal in a member's name
pub record Signed (P : Type 0) : Type 0 where
  pub signer : ℕ
  pub seal : P

-- a slip, the leader's own seal, and a quorum's seals
pub record Cert (P : Type 0) : Type 0 where
  pub slip : Slip
  pub own : P
  pub votes : List (Signed P)

-- a lock message: who sent it for which height and round, and what it holds
pub record Locked (P : Type 0) : Type 0 where
  pub head : Head
  pub cert : Cert P

pub data Content (P : Type 0) : Type 0 where
  -- a page, the sender's seal on the round change and on the candidate
  change : Option Slip → P → P → Content P
  lock : Cert P → Content P
  select : Cert P → Content P
  -- a slip, the sender's seal on the commit
  commit : Slip → P → Content P
  decide : Cert P → Content P
  -- a whole lock message, what it says, and the sender's own seal
  release : P → Locked P → P → Content P

-- who sent a message, for which height and round, and what it holds
pub record Sent (P : Type 0) : Type 0 where
  pub head : Head
  pub content : Content P

module _ {P Q : Type 0} (f : P → Q) where
  abbrev pub on_signed : Signed P → Signed Q
  on_signed v = record { signer = v.signer; seal = f v.seal }

  abbrev pub on_cert : Cert P → Cert Q
  on_cert c = record { slip = c.slip; own = f c.own; votes = map on_signed c.votes }

  abbrev pub on_locked : Locked P → Locked Q
  on_locked l = record { head = l.head; cert = on_cert l.cert }

  abbrev pub on_content : Content P → Content Q
  on_content (change page a b) = change page (f a) (f b)
  on_content (lock c) = lock (on_cert c)
  on_content (select c) = select (on_cert c)
  on_content (commit s a) = commit s (f a)
  on_content (decide c) = decide (on_cert c)
  on_content (release a l b) = release (f a) (on_locked l) (f b)

  abbrev pub on_sent : Sent P → Sent Q
  on_sent s = record { head = s.head; content = on_content s.content }
