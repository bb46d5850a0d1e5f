-- What each kind of message holds, from its bodies: they are what is written of it, and it is lawful.
use Rattle.std.proofs.Common.{◌≡◌, ℕ, Bool, true, false, cond, eqb, List, [], ◌∷◌, map, length, Some, None, Option, refl, ap, ◌∙◌, subst, arith}
use Rattle.std.specs.List.{AllByRecursion as All}
use Rattle.std.proofs.lemmas.Bool.{and_parts, eqb-true}
use Rattle.base.specs.Pools.{quorum}
use Rattle.base.specs.Slips.{slip_bytes}
use Rattle.base.specs.Statements.{PageFits}
use Rattle.base.specs.declared.pools.Pool.{Pool}
use Rattle.base.specs.declared.slips.Slip.{Slip}
use Rattle.base.specs.declared.stages.Kind.{Kind}
use Rattle.base.specs.declared.stages.Kind.TheVariants.{Change, Lock, Select, Commit, Decide, Release}
use Rattle.base.proofs.Back.{passed, some_one}
use Rattle.message.specs.Contents.{Cert, Locked, Content, lock, select, decide, on_cert, on_locked, on_content}
use Rattle.message.specs.Encoding.{block, blocks, page_blocks, cert_blocks, encoded_lock, kind_in, LawfulHead, LawfulCert, LawfulContent}
use Rattle.message.specs.Layout.{Piece, Entry}
use Rattle.message.specs.Shapes.{and_then, take_slip, take_seal, take_page, take_lock, cert_of, change_of, commit_of, release_of, lock_of, content_of}
use Rattle.message.specs.declared.shapes.Head.{Head}
use Rattle.message.proofs.Framed.{strip, Plain}
use Rattle.message.proofs.Putting.{bare}
use Rattle.message.proofs.Taking.{came, none_left, slip_taken, seal_taken, cert_taken, lock_read}

-- the page of a change
abbrev Paged : List Entry → Option Slip × List Entry → Type 0
Paged es a = (map strip es ≡ page_blocks a.0 (map strip a.1)) × All Plain a.1 × PageFits a.0

page_by : (three : Bool) (es : List Entry) (a : Option Slip × List Entry) → All Plain es → cond three (and_then (take_slip es) (λ x. Some (Some x.0, x.1))) (Some (None, es)) ≡ Some a → Paged es a
page_by false es a plain is = subst (Paged es) (some_one _ _ is) (refl, plain, tt)
page_by true es a plain is =
    let p = came (take_slip es) (λ x. Some (Some x.0, x.1)) a is
    in let s = slip_taken es p.0 plain p.1
    in subst (Paged es) (some_one _ _ p.2) (s.0.0, s.0.1, s.1)

-- a lock message of the height as the first body
record Inside (pool : Pool) (n height : ℕ) (es : List Entry) (a : (Piece × Locked Piece) × List Entry) : Type 0 where
  block_is : map strip es ≡ block 6 0 a.0.0.bytes ∷ map strip a.1
  plain_rest : All Plain a.1
  written : a.0.0.bytes ≡ encoded_lock (on_locked bare a.0.1)
  head_lawful : LawfulHead a.0.1.head
  cert_lawful : LawfulCert pool n (on_cert bare a.0.1.cert)
  at_height : a.0.1.head.height.0 ≡ height

lock_inside : (pool : Pool) (n height : ℕ) (es : List Entry) (a : (Piece × Locked Piece) × List Entry) → All Plain es → take_lock pool n height es ≡ Some a → Inside pool n height es a
lock_inside pool n height [] a plain is = absurd (let z : ◌≡◌ {A = ℕ} 0 1 = cc in omega arith)
lock_inside pool n height (e ∷ es) a plain is =
    let p = passed _ _ _ is
    in let t = and_parts (eqb e.sort 6) (eqb e.signer 0) p.0
    in let q = came (lock_of pool n e.piece.bytes) _ a p.1
    in let u = passed _ _ _ q.2
    in let r = lock_read pool n e.piece.bytes q.0 plain.0.0 q.1
    in let sorts = eqb-true _ _ t.0
    in let signers = eqb-true _ _ t.1
    in subst (Inside pool n height (e ∷ es)) (some_one _ _ u.1) (record {
      block_is = λ i. block (sorts i) (signers i) e.piece.bytes ∷ map strip es;
      plain_rest = plain.1;
      written = r.0;
      head_lawful = r.1;
      cert_lawful = r.2;
      at_height = eqb-true _ _ u.0;
    })

-- the bodies are what is written of the content, which is of this kind and lawful
pub record Holding (k : Kind) (pool : Pool) (n : ℕ) (h : Head) (es : List Entry) (c : Content Piece) : Type 0 where
  pub blocks_are : map strip es ≡ blocks h (on_content bare c)
  pub kind_is : k ≡ kind_in (on_content bare c)
  pub lawful : LawfulContent pool n h (on_content bare c)

module _ (pool : Pool) (n : ℕ) (h : Head) (es : List Entry) (c : Content Piece) (plain : All Plain es) where
  change_held : change_of h.sender.0 n es ≡ Some c → Holding Change pool n h es c
  change_held is =
      let p = came (take_page es) _ c is
      in let a = page_by (eqb (length es) 3) es p.0 plain p.1
      in let q = came (take_seal 2 h.sender.0 n p.0.1) _ c p.2
      in let b = seal_taken 2 h.sender.0 n p.0.1 q.0 a.1 q.1
      in let r = came (take_seal 3 h.sender.0 n q.0.1) _ c q.2
      in let d = seal_taken 3 h.sender.0 n q.0.1 r.0 b.0.1 r.1
      in let t = passed _ _ _ r.2
      in subst (Holding Change pool n h es) (some_one _ _ t.1) (record {
        blocks_are = a.0 ∙ ap (page_blocks p.0.0) (b.0.0 ∙ ap (λ z. block 2 h.sender.0 q.0.0.bytes ∷ z) (d.0.0 ∙ ap (λ z. block 3 h.sender.0 r.0.0.bytes ∷ map strip z) (none_left r.0.1 t.0)));
        kind_is = refl;
        lawful = (a.2, (b.1, d.1));
      })

  commit_held : commit_of h.sender.0 n es ≡ Some c → Holding Commit pool n h es c
  commit_held is =
      let p = came (take_slip es) _ c is
      in let a = slip_taken es p.0 plain p.1
      in let q = came (take_seal 4 h.sender.0 n p.0.1) _ c p.2
      in let b = seal_taken 4 h.sender.0 n p.0.1 q.0 a.0.1 q.1
      in let t = passed _ _ _ q.2
      in subst (Holding Commit pool n h es) (some_one _ _ t.1) (record {
        blocks_are = a.0.0 ∙ ap (λ z. block 1 0 (slip_bytes p.0.0) ∷ z) (b.0.0 ∙ ap (λ z. block 4 h.sender.0 q.0.0.bytes ∷ map strip z) (none_left q.0.1 t.0));
        kind_is = refl;
        lawful = (a.1, b.1);
      })

  release_held : release_of pool n h es ≡ Some c → Holding Release pool n h es c
  release_held is =
      let p = came (take_lock pool n h.height.0 es) _ c is
      in let a = lock_inside pool n h.height.0 es p.0 plain p.1
      in let q = came (take_seal 5 h.sender.0 n p.0.1) _ c p.2
      in let b = seal_taken 5 h.sender.0 n p.0.1 q.0 a.plain_rest q.1
      in let t = passed _ _ _ q.2
      in subst (Holding Release pool n h es) (some_one _ _ t.1) (record {
        blocks_are = a.block_is ∙ ap (λ z. block 6 0 p.0.0.0.bytes ∷ z) (b.0.0 ∙ ap (λ z. block 5 h.sender.0 q.0.0.bytes ∷ map strip z) (none_left q.0.1 t.0));
        kind_is = refl;
        lawful = (a.written, (a.head_lawful, (a.cert_lawful, (a.at_height, b.1))));
      })

  -- the three kinds that hold a certificate
  cert_held : (k : Kind) (sort : ℕ) (wrap : Cert Piece → Content Piece) → ((x : Cert Piece) → (map strip es ≡ cert_blocks sort h (on_cert bare x)) × LawfulCert pool n (on_cert bare x) → Holding k pool n h es (wrap x)) → and_then (cert_of sort (quorum pool) h.sender.0 n es) (λ x. Some (wrap x)) ≡ Some c → Holding k pool n h es c
  cert_held k sort wrap held is =
      let p = came (cert_of sort (quorum pool) h.sender.0 n es) (λ x. Some (wrap x)) c is
      in subst (Holding k pool n h es) (some_one _ _ p.2) (held p.0 (cert_taken sort pool n h es p.0 plain p.1))

pub content_held : (k : Kind) (pool : Pool) (n : ℕ) (h : Head) (es : List Entry) (c : Content Piece) → All Plain es → content_of k pool n h es ≡ Some c → Holding k pool n h es c
content_held Change pool n h es c plain is = change_held pool n h es c plain is
content_held Lock pool n h es c plain is =
    cert_held pool n h es c plain Lock 3 lock (λ x f. record { blocks_are = f.0; kind_is = refl; lawful = f.1 }) is
content_held Select pool n h es c plain is =
    cert_held pool n h es c plain Select 2 select (λ x f. record { blocks_are = f.0; kind_is = refl; lawful = f.1 }) is
content_held Commit pool n h es c plain is = commit_held pool n h es c plain is
content_held Decide pool n h es c plain is =
    cert_held pool n h es c plain Decide 4 decide (λ x f. record { blocks_are = f.0; kind_is = refl; lawful = f.1 }) is
content_held Release pool n h es c plain is = release_held pool n h es c plain is
