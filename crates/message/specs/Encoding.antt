-- How a message is written, and which fields a message can have.
use Rattle.std.specs.Prelude.{◌≡◌, ℕ, ◌+◌, ◌<◌, ◌≤◌, true, List, [], ◌∷◌, ◌++◌, map, length, Some, None, Option}
use Rattle.base.specs.Kinds.{kind_number}
use Rattle.base.specs.Numbers.{be2, be4}
use Rattle.base.specs.Pools.{quorum}
use Rattle.base.specs.Slips.{slip_bytes}
use Rattle.base.specs.Statements.{PageFits}
use Rattle.base.specs.declared.pools.Pool.{Pool}
use Rattle.base.specs.declared.slips.Slip.{Slip}
use Rattle.base.specs.declared.stages.Kind.{Kind}
use Rattle.base.specs.declared.stages.Kind.TheVariants.{Change, Lock, Select, Commit, Decide, Release}
use Rattle.message.specs.Contents.{Signed, Cert, Locked, Content, change, lock, select, commit, decide, release, Sent}
use Rattle.message.specs.Shapes.{in_range}
use Rattle.message.specs.declared.shapes.Head.{Head}

-- a body to be written: sort, member, bytes
pub record Block : Type 0 where
  pub sort : ℕ
  pub signer : ℕ
  pub bytes : List ℕ

-- the table of contents, four bytes for each body
abbrev pub table : List Block → List ℕ
table [] = []
table (b ∷ bs) = b.sort ∷ b.signer ∷ (be2 (length b.bytes) ++ table bs)

-- the bodies, one right after the other
abbrev pub bodies : List Block → List ℕ
bodies [] = []
bodies (b ∷ bs) = b.bytes ++ bodies bs

-- header: kind, sender, number of bodies, zero, height, round
abbrev pub header : ℕ → Head → ℕ → List ℕ
header kind h n = kind ∷ h.sender.0 ∷ n ∷ 0 ∷ (be4 h.height.0 ++ be4 h.round.0)

-- a whole message
abbrev pub framed : ℕ → Head → List Block → List ℕ
framed kind h bs = header kind h (length bs) ++ (table bs ++ bodies bs)

abbrev pub block : ℕ → ℕ → List ℕ → Block
block sort signer bytes = record { sort = sort; signer = signer; bytes = bytes }

-- a change names a slip or has no slip body
abbrev pub page_blocks : Option Slip → List Block → List Block
page_blocks None bs = bs
page_blocks (Some s) bs = block 1 0 (slip_bytes s) ∷ bs

abbrev pub vote_block : ℕ → Signed (List ℕ) → Block
vote_block sort v = block sort v.signer v.seal

-- slip, the sender's own seal, the quorum's seals of a sort
abbrev pub cert_blocks : ℕ → Head → Cert (List ℕ) → List Block
cert_blocks sort h c = block 1 0 (slip_bytes c.slip) ∷ (block 5 h.sender.0 c.own ∷ map (vote_block sort) c.votes)

abbrev pub blocks : Head → Content (List ℕ) → List Block
blocks h (change page a b) = page_blocks page (block 2 h.sender.0 a ∷ (block 3 h.sender.0 b ∷ []))
blocks h (lock c) = cert_blocks 3 h c
blocks h (select c) = cert_blocks 2 h c
blocks h (commit s a) = block 1 0 (slip_bytes s) ∷ (block 4 h.sender.0 a ∷ [])
blocks h (decide c) = cert_blocks 4 h c
blocks h (release l inner b) = block 6 0 l ∷ (block 5 h.sender.0 b ∷ [])

abbrev pub kind_in : {P : Type 0} → Content P → Kind
kind_in (change page a b) = Change
kind_in (lock c) = Lock
kind_in (select c) = Select
kind_in (commit s a) = Commit
kind_in (decide c) = Decide
kind_in (release l inner b) = Release

-- the bytes of a message with these fields
abbrev pub encoded : Sent (List ℕ) → List ℕ
encoded s = framed (kind_number (kind_in s.content)) s.head (blocks s.head s.content)

-- the bytes of a lock message
abbrev pub encoded_lock : Locked (List ℕ) → List ℕ
encoded_lock l = framed 2 l.head (cert_blocks 3 l.head l.cert)

-- seals of length n in rising order of their members, from a member on
abbrev pub Rising : ℕ → ℕ → List (Signed (List ℕ)) → Type 0
Rising n low [] = Unit {0}
Rising n low (v ∷ vs) = (low ≤ v.signer) × ((v.signer < 256) × ((length v.seal ≡ n) × Rising n (v.signer + 1) vs))

-- the sender is a byte, height and round are in range
pub record LawfulHead (h : Head) : Type 0 where
  pub sender_fits : h.sender.0 < 256
  pub ranges_hold : in_range h ≡ true

-- a slip that is not 72 zeros, seals of length n, a quorum of them in rising order
pub record LawfulCert (pool : Pool) (n : ℕ) (c : Cert (List ℕ)) : Type 0 where
  pub slip_fits : PageFits (Some c.slip)
  pub own_fits : length c.own ≡ n
  pub quorate : length c.votes ≡ quorum pool
  pub votes_rise : Rising n 0 c.votes

abbrev pub LawfulContent : Pool → ℕ → Head → Content (List ℕ) → Type 0
LawfulContent pool n h (change page a b) = PageFits page × ((length a ≡ n) × (length b ≡ n))
LawfulContent pool n h (lock c) = LawfulCert pool n c
LawfulContent pool n h (select c) = LawfulCert pool n c
LawfulContent pool n h (commit s a) = PageFits (Some s) × (length a ≡ n)
LawfulContent pool n h (decide c) = LawfulCert pool n c
LawfulContent pool n h (release l inner b) =
    (l ≡ encoded_lock inner) × (LawfulHead inner.head × (LawfulCert pool n inner.cert × ((inner.head.height.0 ≡ h.height.0) × (length b ≡ n))))

-- the fields that a message of a pool with seals of length n can have
pub record Lawful (pool : Pool) (n : ℕ) (s : Sent (List ℕ)) : Type 0 where
  pub head_lawful : LawfulHead s.head
  pub content_lawful : LawfulContent pool n s.head s.content
