-- Bodies that read as fields are what is written of those fields, and the fields are lawful.
use Rattle.std.proofs.Common.{◌≡◌, ℕ, ◌+◌, ◌-◌, ◌*◌, true, ◌&&◌, eqb, leb, List, [], ◌∷◌, map, length, get_or, Some, None, Option, sym, refl, ap, ◌∙◌, subst, arith}
use Rattle.std.specs.List.{AllByRecursion as All}
use Rattle.std.proofs.lemmas.List.{length-map}
use Rattle.std.proofs.lemmas.Bool.{and_parts, leb-true, eqb-true}
use Rattle.base.specs.Numbers.{Bytes}
use Rattle.base.specs.Pools.{quorum}
use Rattle.base.specs.Slips.{slip_bytes, slip_of}
use Rattle.base.specs.Statements.{PageFits}
use Rattle.base.specs.declared.pools.Pool.{Pool}
use Rattle.base.specs.declared.slips.Slip.{Slip}
use Rattle.base.proofs.Back.{passed, some_one, byte, slip_only}
use Rattle.message.specs.Contents.{Signed, Cert, Locked, on_signed, on_cert, on_locked}
use Rattle.message.specs.Encoding.{Block, block, cert_blocks, vote_block, framed, encoded_lock, Rising, LawfulHead, LawfulCert}
use Rattle.message.specs.Layout.{Piece, Entry, count, left, opening, whole}
use Rattle.message.specs.Shapes.{and_then, take_slip, take_seal, ended, rising, signed_of, cert_of, head_of, in_range, laid, lock_of}
use Rattle.message.specs.declared.shapes.Head.{Head}
use Rattle.message.proofs.Framed.{strip, Plain, entries_plain, frame_back}
use Rattle.message.proofs.Putting.{bare}

-- steps that gave something: what the first gave, and that what follows it gave it
pub came : {A B : Type 0} (o : Option A) (f : A → Option B) (r : B) → and_then o f ≡ Some r → (x : A) × (o ≡ Some x) × (f x ≡ Some r)
came None f r is = absurd (let z : ◌≡◌ {A = ℕ} 0 1 = cc in omega arith)
came (Some x) f r is = (x, refl, is)

pub none_left : (es : List Entry) → ended es ≡ true → es ≡ []
none_left [] is = refl
none_left (e ∷ es) is = absurd (let z : ◌≡◌ {A = ℕ} 0 1 = cc in omega arith)

-- a first body that was taken was this block, and what is left after it
abbrev Taken : List Entry → Block → List Entry → Type 0
Taken es b rest = (map strip es ≡ b ∷ map strip rest) × All Plain rest

pub slip_taken : (es : List Entry) (a : Slip × List Entry) → All Plain es → take_slip es ≡ Some a → Taken es (block 1 0 (slip_bytes a.0)) a.1 × PageFits (Some a.0)
slip_taken [] a plain is = absurd (let z : ◌≡◌ {A = ℕ} 0 1 = cc in omega arith)
slip_taken (e ∷ es) a plain is =
    let p = passed _ _ _ is
    in let t = and_parts (eqb e.sort 1) (eqb e.signer 0) p.0
    in let q = came (slip_of e.piece.bytes) (λ s. Some (s, es)) a p.1
    in let only = slip_only e.piece.bytes q.0 plain.0.0 q.1
    in let sort = eqb-true _ _ t.0
    in let signer = eqb-true _ _ t.1
    in let P : Slip × List Entry → Type 0 = λ x. Taken (e ∷ es) (block 1 0 (slip_bytes x.0)) x.1 × PageFits (Some x.0)
    in subst P (some_one _ _ q.2) (((λ i. block (sort i) (signer i) (sym only.0 i) ∷ map strip es), plain.1), only.1)

pub seal_taken : (sort signer n : ℕ) (es : List Entry) (a : Piece × List Entry) → All Plain es → take_seal sort signer n es ≡ Some a → Taken es (block sort signer a.0.bytes) a.1 × (length a.0.bytes ≡ n)
seal_taken sort signer n [] a plain is = absurd (let z : ◌≡◌ {A = ℕ} 0 1 = cc in omega arith)
seal_taken sort signer n (e ∷ es) a plain is =
    let p = passed _ _ _ is
    in let t = and_parts (eqb e.sort sort) (eqb e.signer signer && eqb (length e.piece.bytes) n) p.0
    in let u = and_parts (eqb e.signer signer) (eqb (length e.piece.bytes) n) t.1
    in let sorts = eqb-true _ _ t.0
    in let signers = eqb-true _ _ u.0
    in let P : Piece × List Entry → Type 0 = λ x. Taken (e ∷ es) (block sort signer x.0.bytes) x.1 × (length x.0.bytes ≡ n)
    in subst P (some_one _ _ p.1) (((λ i. block (sorts i) (signers i) e.piece.bytes ∷ map strip es), plain.1), eqb-true _ _ u.1)

-- a quorum's seals
votes_of : List Entry → List (Signed (List ℕ))
votes_of es = map (on_signed bare) (map signed_of es)

votes_taken : (sort n low : ℕ) (es : List Entry) → All Plain es → rising sort n low es ≡ true → (map strip es ≡ map (vote_block sort) (votes_of es)) × Rising n low (votes_of es)
unfolding votes_of
votes_taken sort n low [] plain is = (refl, tt)
votes_taken sort n low (e ∷ es) plain is =
    let t = and_parts (eqb e.sort sort && (leb low e.signer && eqb (length e.piece.bytes) n)) (rising sort n (e.signer + 1) es) is
    in let u = and_parts (eqb e.sort sort) (leb low e.signer && eqb (length e.piece.bytes) n) t.0
    in let v = and_parts (leb low e.signer) (eqb (length e.piece.bytes) n) u.1
    in let rest = votes_taken sort n (e.signer + 1) es plain.1 t.1
    in let sorts = eqb-true _ _ u.0
    in ((λ i. block (sorts i) e.signer e.piece.bytes ∷ rest.0 i), (leb-true _ _ v.0, (plain.0.1, (eqb-true _ _ v.1, rest.1))))

pub cert_taken : (sort : ℕ) (pool : Pool) (n : ℕ) (h : Head) (es : List Entry) (c : Cert Piece) → All Plain es → cert_of sort (quorum pool) h.sender.0 n es ≡ Some c → (map strip es ≡ cert_blocks sort h (on_cert bare c)) × LawfulCert pool n (on_cert bare c)
unfolding votes_of
cert_taken sort pool n h es c plain is =
    let p = came (take_slip es) _ c is
    in let a = p.0
    in let s = slip_taken es a plain p.1
    in let q = came (take_seal 5 h.sender.0 n a.1) _ c p.2
    in let b = q.0
    in let o = seal_taken 5 h.sender.0 n a.1 b s.0.1 q.1
    in let t = passed _ _ _ q.2
    in let u = and_parts (eqb (length b.1) (quorum pool)) (rising sort n 0 b.1) t.0
    in let v = votes_taken sort n 0 b.1 o.0.1 u.1
    in let P : Cert Piece → Type 0 = λ x. (map strip es ≡ cert_blocks sort h (on_cert bare x)) × LawfulCert pool n (on_cert bare x)
    in subst P (some_one _ _ t.1) (
      s.0.0 ∙ ap (λ z. block 1 0 (slip_bytes a.0) ∷ z) (o.0.0 ∙ ap (λ z. block 5 h.sender.0 b.0.bytes ∷ z) v.0),
      record {
        slip_fits = s.1;
        own_fits = o.1;
        quorate = length-map (map signed_of b.1) (on_signed bare) ∙ length-map b.1 signed_of ∙ eqb-true _ _ u.0;
        votes_rise = v.1;
      },
    )

-- the header of a message that is laid out as it should be
pub head_lawful : (m : List ℕ) → Bytes m → in_range (head_of m) ≡ true → LawfulHead (head_of m)
head_lawful m bytes is = record { sender_fits = byte m 1 bytes; ranges_hold = is }

pub lock_read : (pool : Pool) (n : ℕ) (m : List ℕ) (l : Locked Piece) → Bytes m → lock_of pool n m ≡ Some l → (m ≡ encoded_lock (on_locked bare l)) × LawfulHead l.head × LawfulCert pool n (on_cert bare l.cert)
lock_read pool n m l bytes is =
    let p = passed _ _ _ is
    in let t = and_parts (laid m) (eqb (get_or m 0 0) 2) p.0
    in let u = and_parts (whole (opening m)) (in_range (head_of m)) t.0
    in let kind : get_or m 0 0 ≡ 2 = eqb-true _ _ t.1
    in let q = came (cert_of 3 (quorum pool) (head_of m).sender.0 n (left (opening m))) _ l p.1
    in let c = cert_taken 3 pool n (head_of m) (left (opening m)) q.0 (entries_plain m bytes (count m - 0) 0 (12 + 4 * count m)) q.1
    in let P : Locked Piece → Type 0 = λ x. (m ≡ encoded_lock (on_locked bare x)) × LawfulHead x.head × LawfulCert pool n (on_cert bare x.cert)
    in subst P (some_one _ _ q.2) (
      frame_back m bytes u.0 ∙ (λ i. framed (kind i) (head_of m) (c.0 i)),
      head_lawful m bytes u.1,
      c.1,
    )
