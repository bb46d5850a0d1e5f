-- Which bodies a message of each kind has, in their order. None: the message is misshapen.
use Rattle.std.specs.Prelude.{ℕ, ◌+◌, Bool, true, false, cond, ◌&&◌, List, [], ◌∷◌, map, length, Some, None, Option, ◌==◌, nat_le, slice_index}
use Rattle.base.specs.Numbers.{four}
use Rattle.base.specs.Kinds.{kind_of}
use Rattle.base.specs.Pools.{height_in_range, round_in_range, quorum}
use Rattle.base.specs.Slips.{slip_of}
use Rattle.base.specs.declared.pools.Pool.{Pool}
use Rattle.base.specs.declared.slips.Slip.{Slip}
use Rattle.base.specs.declared.stages.Kind.{Kind}
use Rattle.base.specs.declared.stages.Kind.TheVariants.{Change, Lock, Select, Commit, Decide, Release}
use Rattle.message.specs.Contents.{Signed, Cert, Locked, Content, change, lock, select, commit, decide, release, Sent}
use Rattle.message.specs.Layout.{Piece, Entry, left, opening, whole}
use Rattle.message.specs.declared.shapes.Head.{Head}

-- a step that may fail, and what follows it
abbrev pub and_then : {A B : Type 0} → Option A → (A → Option B) → Option B
and_then None f = None
and_then (Some a) f = f a

-- the first body is a slip: sort 1, no member, 72 bytes that are not all zeros
abbrev pub take_slip : List Entry → Option (Slip × List Entry)
take_slip [] = None
take_slip (e ∷ es) = cond (e.sort == 1 && e.signer == 0) (and_then (slip_of e.piece.bytes) (λ s. Some (s, es))) None

-- the first body is a seal of that sort in that member's name, of length n
abbrev pub take_seal : ℕ → ℕ → ℕ → List Entry → Option (Piece × List Entry)
take_seal sort signer n [] = None
take_seal sort signer n (e ∷ es) = cond (e.sort == sort && (e.signer == signer && length e.piece.bytes == n)) (Some (e.piece, es)) None

-- a change of three bodies begins with a slip; otherwise it names none
abbrev pub take_page : List Entry → Option (Option Slip × List Entry)
take_page es = cond (length es == 3) (and_then (take_slip es) (λ a. Some (Some a.0, a.1))) (Some (None, es))

-- no body is left
abbrev pub ended : List Entry → Bool
ended [] = true
ended (e ∷ es) = false

-- seals of that sort, in rising order of their members, from a member on
abbrev pub rising : ℕ → ℕ → ℕ → List Entry → Bool
rising sort n low [] = true
rising sort n low (e ∷ es) = (e.sort == sort && (nat_le low e.signer && length e.piece.bytes == n)) && rising sort n (e.signer + 1) es

abbrev pub signed_of : Entry → Signed Piece
signed_of e = record { signer = e.signer; seal = e.piece }

-- slip, the sender's own seal, q seals of that sort
abbrev pub cert_of : ℕ → ℕ → ℕ → ℕ → List Entry → Option (Cert Piece)
cert_of sort q sender n es =
    and_then (take_slip es) (λ a.
    and_then (take_seal 5 sender n a.1) (λ b.
    cond (length b.1 == q && rising sort n 0 b.1) (Some (record { slip = a.0; own = b.0; votes = map signed_of b.1 })) None))

-- slip unless none, the sender's seal on the round change, the sender's seal on the candidate
abbrev pub change_of : ℕ → ℕ → List Entry → Option (Content Piece)
change_of sender n es =
    and_then (take_page es) (λ a.
    and_then (take_seal 2 sender n a.1) (λ b.
    and_then (take_seal 3 sender n b.1) (λ c.
    cond (ended c.1) (Some (change a.0 b.0 c.0)) None)))

-- slip, the sender's seal on the commit
abbrev pub commit_of : ℕ → ℕ → List Entry → Option (Content Piece)
commit_of sender n es =
    and_then (take_slip es) (λ a.
    and_then (take_seal 4 sender n a.1) (λ b.
    cond (ended b.1) (Some (commit a.0 b.0)) None))

-- who sent it, for which height and round
abbrev pub head_of : List ℕ → Head
head_of m = record { sender = record { 0 = slice_index m 1 }; height = record { 0 = four m 4 }; round = record { 0 = four m 8 } }

abbrev pub in_range : Head → Bool
in_range h = height_in_range h.height && round_in_range h.round

-- header, table and bodies are whole, height and round in range
abbrev pub laid : List ℕ → Bool
laid m = whole (opening m) && in_range (head_of m)

-- a lock message
abbrev pub lock_of : Pool → ℕ → List ℕ → Option (Locked Piece)
lock_of pool n m =
    cond (laid m && slice_index m 0 == 2)
    (and_then (cert_of 3 (quorum pool) (head_of m).sender.0 n (left (opening m))) (λ c. Some (record { head = head_of m; cert = c })))
    None

-- the first body is a lock message of that height: sort 6, no member
abbrev pub take_lock : Pool → ℕ → ℕ → List Entry → Option ((Piece × Locked Piece) × List Entry)
take_lock pool n height [] = None
take_lock pool n height (e ∷ es) =
    cond (e.sort == 6 && e.signer == 0)
    (and_then (lock_of pool n e.piece.bytes) (λ l. cond (l.head.height.0 == height) (Some ((e.piece, l), es)) None))
    None

-- a lock message of this height and any round, the sender's own seal
abbrev pub release_of : Pool → ℕ → Head → List Entry → Option (Content Piece)
release_of pool n h es =
    and_then (take_lock pool n h.height.0 es) (λ a.
    and_then (take_seal 5 h.sender.0 n a.1) (λ b.
    cond (ended b.1) (Some (release a.0.0 a.0.1 b.0)) None))

-- the bodies that a message of a kind has
abbrev pub content_of : Kind → Pool → ℕ → Head → List Entry → Option (Content Piece)
content_of Change pool n h es = change_of h.sender.0 n es
content_of Lock pool n h es = and_then (cert_of 3 (quorum pool) h.sender.0 n es) (λ c. Some (lock c))
content_of Select pool n h es = and_then (cert_of 2 (quorum pool) h.sender.0 n es) (λ c. Some (select c))
content_of Commit pool n h es = commit_of h.sender.0 n es
content_of Decide pool n h es = and_then (cert_of 4 (quorum pool) h.sender.0 n es) (λ c. Some (decide c))
content_of Release pool n h es = release_of pool n h es

-- what a message says, for a pool and a seal length
abbrev pub parsed : Pool → ℕ → List ℕ → Option (Sent Piece)
parsed pool n m =
    cond (laid m)
    (and_then (kind_of (slice_index m 0)) (λ k.
    and_then (content_of k pool n (head_of m) (left (opening m))) (λ c.
    Some (record { head = head_of m; content = c }))))
    None
