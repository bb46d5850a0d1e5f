-- How long tables, bodies and whole messages are.
use Rattle.std.proofs.Common.{◌≡◌, ℕ, suc, ◌+◌, ◌*◌, List, [], ◌∷◌, map, length, Some, None, sym, refl, ap, ◌∙◌, suc-mul, add_comm, arith}
use Rattle.std.proofs.lemmas.List.{length-append, length-map}
use Rattle.base.specs.Pools.{quorum}
use Rattle.base.specs.Slips.{slip_bytes}
use Rattle.base.specs.declared.pools.Pool.{Pool}
use Rattle.base.proofs.Distinct.{slip_long}
use Rattle.message.specs.Contents.{Signed, Cert, Content, change, lock, select, commit, decide, release}
use Rattle.message.specs.Encoding.{Block, table, bodies, framed, blocks, cert_blocks, vote_block, encoded, kind_in, Rising, LawfulCert, LawfulContent}
use Rattle.message.specs.Sizes.{cert_size, size_of, names_slip, SizesHold, SizesReckoned}
use Rattle.message.specs.declared.shapes.Head.{Head}

pub length_table : (bs : List Block) → length (table bs) ≡ 4 * length bs
length_table [] = refl
length_table (b ∷ bs) = let h = length_table bs in omega arith

-- the lengths of the bodies, summed
abbrev pub weigh : List Block → ℕ
weigh [] = 0
weigh (b ∷ bs) = length b.bytes + weigh bs

length_bodies : (bs : List Block) → length (bodies bs) ≡ weigh bs
length_bodies [] = refl
length_bodies (b ∷ bs) = length-append b.bytes (bodies bs) ∙ ap (λ n. length b.bytes + n) (length_bodies bs)

pub length_framed : (kind : ℕ) (h : Head) (bs : List Block) → length (framed kind h bs) ≡ 12 + (4 * length bs + weigh bs)
length_framed kind h bs = let t = length_table bs in let w = length_bodies bs in let e = length-append (table bs) (bodies bs) in omega arith

once_more : (k n : ℕ) → suc k * n ≡ n + k * n
once_more k n = suc-mul k n ∙ add_comm (k * n) n

-- seals of one length weigh as many times that length
weigh_rising : (sort n low : ℕ) (vs : List (Signed (List ℕ))) → Rising n low vs → weigh (map (vote_block sort) vs) ≡ length vs * n
weigh_rising sort n low [] r = omega arith
weigh_rising sort n low (v ∷ vs) r =
    let h = weigh_rising sort n (v.signer + 1) vs r.1.1.1
    in let e : length v.seal ≡ n = r.1.1.0
    in ap (λ k. k + weigh (map (vote_block sort) vs)) e ∙ ap (λ k. n + k) h ∙ sym (once_more (length vs) n)

pub cert_size_lem : (pool : Pool) (n kind sort : ℕ) (h : Head) (c : Cert (List ℕ)) → LawfulCert pool n c → length (framed kind h (cert_blocks sort h c)) ≡ cert_size (quorum pool) n
cert_size_lem pool n kind sort h c law =
    let l = length_framed kind h (cert_blocks sort h c)
    in let w : weigh (map (vote_block sort) c.votes) ≡ quorum pool * n = weigh_rising sort n 0 c.votes law.votes_rise ∙ ap (λ k. k * n) law.quorate
    in let s : length (slip_bytes c.slip) ≡ 72 = slip_long c.slip law.slip_fits.0
    in let m : length (map (vote_block sort) c.votes) ≡ length c.votes = length-map c.votes (vote_block sort)
    in let q = law.quorate
    in let o = law.own_fits
    in omega arith

size_by : (pool : Pool) (n : ℕ) (h : Head) (c : Content (List ℕ)) → LawfulContent pool n h c → length (encoded (record { head = h; content = c })) ≡ size_of (kind_in c) (names_slip c) pool n
size_by pool n h (change None a b) law = let l = length_framed 1 h (blocks h (change None a b)) in omega (arith, law.1.0, law.1.1)
size_by pool n h (change (Some s) a b) law =
    let l = length_framed 1 h (blocks h (change (Some s) a b))
    in let e = slip_long s law.0.0
    in omega (arith, law.1.0, law.1.1)
size_by pool n h (lock c) law = cert_size_lem pool n 2 3 h c law
size_by pool n h (select c) law = cert_size_lem pool n 3 2 h c law
size_by pool n h (commit s a) law =
    let l = length_framed 4 h (blocks h (commit s a))
    in let e = slip_long s law.0.0
    in omega (arith, law.1)
size_by pool n h (decide c) law = cert_size_lem pool n 5 4 h c law
size_by pool n h (release k inner b) law =
    let l = length_framed 6 h (blocks h (release k inner b))
    in let e : length k ≡ cert_size (quorum pool) n = ap length law.0 ∙ cert_size_lem pool n 2 3 inner.head inner.cert law.1.1.0
    in omega (arith, law.1.1.1.1)

pub sizes_hold : SizesHold
sizes_hold pool n s law = size_by pool n s.head s.content law.content_lawful

pub sizes_reckoned : SizesReckoned
sizes_reckoned = record { change_112 = refl; change_none_36 = refl; commit_100 = refl; lock_136 = refl; release_164 = refl; lock_760 = refl; release_860 = refl }
