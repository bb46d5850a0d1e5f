-- Lawful fields are small enough for what is written of them: heights and rounds for four bytes, bodies' lengths for two.
use Rattle.std.proofs.Common.{◌≡◌, ℕ, ◌+◌, ◌*◌, ◌^◌, ◌<◌, ◌≤◌, leb, List, [], ◌∷◌, ◌++◌, map, length, Some, None, sym, subst, arith}
use Rattle.std.proofs.lemmas.List.{length-append, length-map}
use Rattle.std.proofs.lemmas.Bool.{and_parts, leb-true}
use Rattle.base.specs.Pools.{quorum, height_in_range, round_in_range}
use Rattle.base.specs.Slips.{slip_bytes}
use Rattle.base.specs.declared.pools.Pool.{Pool}
use Rattle.base.specs.declared.pools.Pool.TheVariants.{Four, Seven, Ten}
use Rattle.base.proofs.Distinct.{slip_long}
use Rattle.message.specs.Contents.{Signed, Cert, Content, change, lock, select, commit, decide, release}
use Rattle.message.specs.Encoding.{Block, blocks, cert_blocks, vote_block, bodies, framed, Rising, LawfulHead, LawfulCert, LawfulContent}
use Rattle.message.specs.declared.shapes.Head.{Head}
use Rattle.message.proofs.Written.{Short, length_framed}

pub heads_small : (h : Head) → LawfulHead h → (h.height.0 < 2 ^ 32) × (h.round.0 < 2 ^ 32)
heads_small h f =
    let r = and_parts (height_in_range h.height) (round_in_range h.round) f.ranges_hold
    in let t = and_parts (leb 1 h.height.0) (leb h.height.0 4000000000) r.0
    in let a : h.height.0 ≤ 4000000000 = leb-true _ _ t.1
    in let b : h.round.0 ≤ 65535 = leb-true _ _ r.1
    in (omega arith, omega arith)

quorum_small : (p : Pool) → quorum p ≤ 7
quorum_small Four = omega arith
quorum_small Seven = omega arith
quorum_small Ten = omega arith

votes_short : (sort n low : ℕ) (vs : List (Signed (List ℕ))) → n ≤ 80 → Rising n low vs → Short (map (vote_block sort) vs)
votes_short sort n low [] small rise = tt
votes_short sort n low (v ∷ vs) small rise =
    let long : length v.seal ≡ n = rise.1.1.0
    in (omega arith, votes_short sort n (v.signer + 1) vs small rise.1.1.1)

votes_long : (sort n low : ℕ) (vs : List (Signed (List ℕ))) → n ≤ 80 → Rising n low vs → length (bodies (map (vote_block sort) vs)) ≤ 80 * length vs
votes_long sort n low [] small rise = omega arith
votes_long sort n low (v ∷ vs) small rise =
    let long : length v.seal ≡ n = rise.1.1.0
    in let rest = votes_long sort n (v.signer + 1) vs small rise.1.1.1
    in let all = length-append v.seal (bodies (map (vote_block sort) vs))
    in omega arith

pub short_cert : (sort : ℕ) (pool : Pool) (n : ℕ) (h : Head) (c : Cert (List ℕ)) → n ≤ 80 → LawfulCert pool n c → Short (cert_blocks sort h c)
short_cert sort pool n h c small f =
    let slip : length (slip_bytes c.slip) ≡ 72 = slip_long c.slip f.slip_fits.0
    in let own : length c.own ≡ n = f.own_fits
    in (omega arith, (omega arith, votes_short sort n 0 c.votes small f.votes_rise))

-- a lock message inside a release
lock_short : (pool : Pool) (n : ℕ) (h : Head) (c : Cert (List ℕ)) → n ≤ 80 → LawfulCert pool n c → length (framed 2 h (cert_blocks 3 h c)) < 65536
lock_short pool n h c small f =
    let votes : List Block = map (vote_block 3) c.votes
    in let all = length_framed 2 h (cert_blocks 3 h c)
    in let many = length-map c.votes (vote_block 3)
    in let first = length-append (slip_bytes c.slip) (c.own ++ bodies votes)
    in let second = length-append c.own (bodies votes)
    in let slip : length (slip_bytes c.slip) ≡ 72 = slip_long c.slip f.slip_fits.0
    in let own : length c.own ≡ n = f.own_fits
    in let rest = votes_long 3 n 0 c.votes small f.votes_rise
    in let q = quorum_small pool
    in let quorate : length c.votes ≡ quorum pool = f.quorate
    in omega (arith, all, many, first, second, slip, own, rest, q, quorate)

pub short_content : (pool : Pool) (n : ℕ) (h : Head) (c : Content (List ℕ)) → n ≤ 80 → LawfulContent pool n h c → Short (blocks h c)
short_content pool n h (change None a b) small f = (omega arith, (omega arith, tt))
short_content pool n h (change (Some s) a b) small f = let l = slip_long s f.0.0 in (omega arith, (omega arith, (omega arith, tt)))
short_content pool n h (lock c) small f = short_cert 3 pool n h c small f
short_content pool n h (select c) small f = short_cert 2 pool n h c small f
short_content pool n h (commit s a) small f = let l = slip_long s f.0.0 in (omega arith, (omega arith, tt))
short_content pool n h (decide c) small f = short_cert 4 pool n h c small f
short_content pool n h (release l inner b) small f =
    let all : length l < 65536 = (let P : List ℕ → Type 0 = λ m. length m < 65536 in subst P (sym f.0) (lock_short pool n inner.head inner.cert small f.1.1.0))
    in let own : length b ≡ n = f.1.1.1.1
    in (omega arith, (omega arith, tt))
