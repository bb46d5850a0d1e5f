-- The bodies that are written of lawful fields read as those fields.
use Rattle.std.proofs.Common.{◌≡◌, ℕ, ◌+◌, ◌*◌, ◌≤◌, true, cond, ◌&&◌, eqb, List, [], ◌∷◌, map, length, Some, None, Option, refl, ap, ◌∙◌}
use Rattle.std.proofs.lemmas.List.{length-map}
use Rattle.std.proofs.lemmas.Bool.{and_from, le-leb, eq-eqb}
use Rattle.base.specs.Pools.{quorum}
use Rattle.base.specs.Slips.{slip_bytes}
use Rattle.base.specs.Statements.{PageFits}
use Rattle.base.specs.declared.pools.Pool.{Pool}
use Rattle.base.specs.declared.slips.Slip.{Slip}
use Rattle.base.proofs.Back.{slip_back}
use Rattle.message.specs.Contents.{Signed, Cert, Locked, Content, change, lock, select, commit, decide, release, on_signed, on_cert, on_locked, on_content}
use Rattle.message.specs.Encoding.{Block, block, blocks, cert_blocks, vote_block, framed, encoded_lock, kind_in, Rising, LawfulHead, LawfulCert, LawfulContent}
use Rattle.message.specs.Layout.{Piece, Entry, left, opening}
use Rattle.message.specs.Shapes.{and_then, take_slip, take_seal, take_lock, rising, signed_of, cert_of, head_of, in_range, laid, lock_of, content_of}
use Rattle.message.specs.declared.shapes.Head.{Head}
use Rattle.message.proofs.Lengths.{heads_small, short_cert}
use Rattle.message.proofs.Written.{entry, placed, length_placed, left_framed, whole_framed, head_framed}

-- what a piece holds, without its place
abbrev pub bare : Piece → List ℕ
bare p = p.bytes

abbrev pub piece_at : ℕ → List ℕ → Piece
piece_at at b = record { from = at; bytes = b }

-- a step that gives this, and what follows it
pub follows : {A B : Type 0} (o : Option A) (x : A) (f : A → Option B) (r : Option B) → o ≡ Some x → f x ≡ r → and_then o f ≡ r
follows o x f r is next = ap (λ z. and_then z f) is ∙ next

slip_first : (s : Slip) (at : ℕ) (es : List Entry) → PageFits (Some s) → take_slip (entry (block 1 0 (slip_bytes s)) at ∷ es) ≡ Some (s, es)
slip_first s at es f = ap (λ o. and_then o (λ x. Some (x, es))) (slip_back s f)

seal_first : (sort signer n at : ℕ) (b : List ℕ) (es : List Entry) → length b ≡ n → take_seal sort signer n (entry (block sort signer b) at ∷ es) ≡ Some (piece_at at b, es)
seal_first sort signer n at b es long =
    let test : (eqb sort sort && (eqb signer signer && eqb (length b) n)) ≡ true
    = and_from _ _ (eq-eqb sort sort refl) (and_from _ _ (eq-eqb signer signer refl) (eq-eqb (length b) n long))
    in ap (λ t. cond t (Some (piece_at at b, es)) None) test

-- a quorum's seals
votes_rising : (sort n low at : ℕ) (vs : List (Signed (List ℕ))) → Rising n low vs → rising sort n low (placed at (map (vote_block sort) vs)) ≡ true
votes_rising sort n low at [] rise = refl
votes_rising sort n low at (v ∷ vs) rise =
    and_from _ _
    (and_from _ _ (eq-eqb sort sort refl) (and_from _ _ (le-leb low v.signer rise.0) (eq-eqb (length v.seal) n rise.1.1.0)))
    (votes_rising sort n (v.signer + 1) (at + length v.seal) vs rise.1.1.1)

votes_same : (sort at : ℕ) (vs : List (Signed (List ℕ))) → map (on_signed bare) (map signed_of (placed at (map (vote_block sort) vs))) ≡ vs
votes_same sort at [] = refl
votes_same sort at (v ∷ vs) = ap (λ z. v ∷ z) (votes_same sort (at + length v.seal) vs)

-- where the parts of a certificate stand, whose slip begins at a place
abbrev pub cert_at : ℕ → ℕ → Cert (List ℕ) → Cert Piece
cert_at sort at c =
    record {
      slip = c.slip;
      own = piece_at (at + length (slip_bytes c.slip)) c.own;
      votes = map signed_of (placed (at + length (slip_bytes c.slip) + length c.own) (map (vote_block sort) c.votes));
    }

cert_first : (sort n at : ℕ) (pool : Pool) (h : Head) (c : Cert (List ℕ)) → LawfulCert pool n c → cert_of sort (quorum pool) h.sender.0 n (placed at (cert_blocks sort h c)) ≡ Some (cert_at sort at c)
cert_first sort n at pool h c f =
    let p : ℕ = at + length (slip_bytes c.slip)
    in let es : List Entry = placed (p + length c.own) (map (vote_block sort) c.votes)
    in let many : length es ≡ quorum pool = length_placed (p + length c.own) (map (vote_block sort) c.votes) ∙ length-map c.votes (vote_block sort) ∙ f.quorate
    in let test : (eqb (length es) (quorum pool) && rising sort n 0 es) ≡ true
    = and_from _ _ (eq-eqb _ _ many) (votes_rising sort n 0 (p + length c.own) c.votes f.votes_rise)
    in follows _ _ _ _ (slip_first c.slip at (entry (block 5 h.sender.0 c.own) p ∷ es) f.slip_fits)
    (follows _ _ _ _ (seal_first 5 h.sender.0 n p c.own es f.own_fits)
    (ap (λ t. cond t (Some (cert_at sort at c)) None) test))

cert_same : (sort at : ℕ) (c : Cert (List ℕ)) → on_cert bare (cert_at sort at c) ≡ c
cert_same sort at c = λ i. record { slip = c.slip; own = c.own; votes = votes_same sort (at + length (slip_bytes c.slip) + length c.own) c.votes i }

-- a lock message
abbrev pub lock_at : Locked (List ℕ) → Locked Piece
lock_at l = record { head = l.head; cert = cert_at 3 (12 + 4 * length (cert_blocks 3 l.head l.cert)) l.cert }

lock_first : (pool : Pool) (n : ℕ) (l : Locked (List ℕ)) → n ≤ 80 → LawfulHead l.head → LawfulCert pool n l.cert → lock_of pool n (encoded_lock l) ≡ Some (lock_at l)
lock_first pool n l small hf cf =
    let bs : List Block = cert_blocks 3 l.head l.cert
    in let short = short_cert 3 pool n l.head l.cert small cf
    in let s = heads_small l.head hf
    in let head : head_of (framed 2 l.head bs) ≡ l.head = head_framed 2 l.head bs s.0 s.1
    in let entries : left (opening (framed 2 l.head bs)) ≡ placed (12 + 4 * length bs) bs = left_framed 2 l.head bs short
    in let test : (laid (framed 2 l.head bs) && true) ≡ true
    = and_from _ _ (and_from _ _ (whole_framed 2 l.head bs short) (ap in_range head ∙ hf.ranges_hold)) refl
    in (λ t. cond (test t) (and_then (cert_of 3 (quorum pool) (head t).sender.0 n (entries t)) (λ c. Some (record { head = head t; cert = c }))) None)
    ∙ follows _ _ _ _ (cert_first 3 n (12 + 4 * length bs) pool l.head l.cert cf) refl

lock_same : (l : Locked (List ℕ)) → on_locked bare (lock_at l) ≡ l
lock_same l = λ i. record { head = l.head; cert = cert_same 3 (12 + 4 * length (cert_blocks 3 l.head l.cert)) l.cert i }

-- a lock message as the first body
lock_taken : (pool : Pool) (n height at : ℕ) (b : List ℕ) (l : Locked (List ℕ)) (es : List Entry) → b ≡ encoded_lock l → n ≤ 80 → LawfulHead l.head → LawfulCert pool n l.cert → l.head.height.0 ≡ height → take_lock pool n height (entry (block 6 0 b) at ∷ es) ≡ Some ((piece_at at b, lock_at l), es)
lock_taken pool n height at b l es is small hf cf same =
    follows _ _ _ _ (ap (lock_of pool n) is ∙ lock_first pool n l small hf cf)
    (ap (λ t. cond t (Some ((piece_at at b, lock_at l), es)) None) (eq-eqb l.head.height.0 height same))

-- what is read, and that it says this
abbrev pub Reads : Option (Content Piece) → Content (List ℕ) → Type 0
Reads o c = (x : Content Piece) × (o ≡ Some x) × (on_content bare x ≡ c)

pub content_first : (pool : Pool) (n : ℕ) (h : Head) (c : Content (List ℕ)) (at : ℕ) → n ≤ 80 → LawfulContent pool n h c → Reads (content_of (kind_in c) pool n h (placed at (blocks h c))) c
content_first pool n h (change None a b) at small f = (
  change None (piece_at at a) (piece_at (at + length a) b),
  follows _ _ _ _ (seal_first 2 h.sender.0 n at a _ f.1.0) (follows _ _ _ _ (seal_first 3 h.sender.0 n (at + length a) b _ f.1.1) refl),
  refl,
)
content_first pool n h (change (Some s) a b) at small f =
    let p : ℕ = at + length (slip_bytes s)
    in let es : List Entry = placed p (block 2 h.sender.0 a ∷ block 3 h.sender.0 b ∷ [])
    in (
      change (Some s) (piece_at p a) (piece_at (p + length a) b),
      follows _ (Some s, es) _ _ (follows _ (s, es) _ _ (slip_first s at es f.0) refl)
          (follows _ _ _ _ (seal_first 2 h.sender.0 n p a _ f.1.0) (follows _ _ _ _ (seal_first 3 h.sender.0 n (p + length a) b _ f.1.1) refl)),
      refl,
    )
content_first pool n h (lock c) at small f = (
  lock (cert_at 3 at c),
  follows _ _ _ _ (cert_first 3 n at pool h c f) refl,
  ap lock (cert_same 3 at c),
)
content_first pool n h (select c) at small f = (
  select (cert_at 2 at c),
  follows _ _ _ _ (cert_first 2 n at pool h c f) refl,
  ap select (cert_same 2 at c),
)
content_first pool n h (commit s a) at small f =
    let p : ℕ = at + length (slip_bytes s)
    in (
      commit s (piece_at p a),
      follows _ _ _ _ (slip_first s at _ f.0) (follows _ _ _ _ (seal_first 4 h.sender.0 n p a _ f.1) refl),
      refl,
    )
content_first pool n h (decide c) at small f = (
  decide (cert_at 4 at c),
  follows _ _ _ _ (cert_first 4 n at pool h c f) refl,
  ap decide (cert_same 4 at c),
)
content_first pool n h (release l inner b) at small f =
    let p : ℕ = at + length l
    in (
      release (piece_at at l) (lock_at inner) (piece_at p b),
      follows _ _ _ _ (lock_taken pool n h.height.0 at l inner _ f.0 small f.1.0 f.1.1.0 f.1.1.1.0)
          (follows _ _ _ _ (seal_first 5 h.sender.0 n p b _ f.1.1.1.1) refl),
      ap (λ x. release l x b) (lock_same inner),
    )
