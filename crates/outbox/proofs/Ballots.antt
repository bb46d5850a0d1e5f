-- Votes, written one after the other.
use Rattle.std.proofs.Common.{◌≡◌, ℕ, ◌+◌, ◌*◌, ◌<◌, ◌≤◌, List, [], ◌∷◌, ◌++◌, map, length, get_or, take, sym, refl, ap, ◌∙◌, arith}
use Rattle.std.proofs.lemmas.List.{append_assoc, append-nil, length-take, map-append, take_more, length-map}
use Rattle.std.proofs.lemmas.List.Sums.{sum_by-cons}
use Rattle.base.specs.Numbers.{be2}
use Rattle.base.specs.Seals.{seal_bytes}
use Rattle.base.specs.declared.seals.Vote.{Vote}
use Rattle.message.specs.Encoding.{Block, table, bodies, vote_block}
use Rattle.outbox.specs.Written.{signed_by, seals_length, vote_blocks}
use Rattle.message.proofs.Sizing.{weigh}

table_append : (a b : List Block) → table (a ++ b) ≡ table a ++ table b
table_append [] b = refl
table_append (x ∷ a) b = ap (λ t. x.sort ∷ x.signer ∷ (be2 (length x.bytes) ++ t)) (table_append a b)

bodies_append : (a b : List Block) → bodies (a ++ b) ≡ bodies a ++ bodies b
bodies_append [] b = refl
bodies_append (x ∷ a) b = ap (λ t. x.bytes ++ t) (bodies_append a b) ∙ sym (append_assoc x.bytes (bodies a) (bodies b))

votes_push : (sort : ℕ) (vs : List Vote) (v : Vote) → vote_blocks sort (vs ++ v ∷ []) ≡ vote_blocks sort vs ++ vote_block sort (signed_by v) ∷ []
votes_push sort vs v = ap (map (vote_block sort)) (map-append signed_by vs (v ∷ [])) ∙ map-append (vote_block sort) (map signed_by vs) (signed_by v ∷ [])

-- one more vote
module _ (sort : ℕ) (vs : List Vote) (i : ℕ) (more : i < length vs) (v : Vote) (at : v ≡ get_or vs i v) where
  pub blocks_more : vote_blocks sort (take (i + 1) vs) ≡ vote_blocks sort (take i vs) ++ vote_block sort (signed_by v) ∷ []
  blocks_more = ap (vote_blocks sort) (take_more vs i v more) ∙ votes_push sort (take i vs) (get_or vs i v) ∙ ap (λ w. vote_blocks sort (take i vs) ++ vote_block sort (signed_by w) ∷ []) (sym at)

  -- its entry in the table
  pub table_more : (n : ℕ) → n ≡ length (seal_bytes v.seal) → table (vote_blocks sort (take i vs)) ++ (sort ∷ v.member.0 ∷ be2 n) ≡ table (vote_blocks sort (take (i + 1) vs))
  table_more n is = rw (is, blocks_more) (sym (table_append (vote_blocks sort (take i vs)) (vote_block sort (signed_by v) ∷ [])))

  -- its body
  pub bodies_more : (b : List ℕ) → b ≡ seal_bytes v.seal → bodies (vote_blocks sort (take i vs)) ++ b ≡ bodies (vote_blocks sort (take (i + 1) vs))
  bodies_more b is = rw (is, blocks_more) (sym (bodies_append (vote_blocks sort (take i vs)) (vote_block sort (signed_by v) ∷ []) ∙ ap (λ z. bodies (vote_blocks sort (take i vs)) ++ z) (append-nil (seal_bytes v.seal))))

pub weigh_votes : (sort : ℕ) (vs : List Vote) → weigh (vote_blocks sort vs) ≡ seals_length vs
weigh_votes sort [] = refl
weigh_votes sort (v ∷ vs) = ap (λ n. length (seal_bytes v.seal) + n) (weigh_votes sort vs) ∙ sym (sum_by-cons (λ (w : Vote). length (seal_bytes w.seal)) v vs)

pub length_votes : (sort : ℕ) (vs : List Vote) → length (vote_blocks sort vs) ≡ length vs
length_votes sort vs = length-map (map signed_by vs) (vote_block sort) ∙ length-map vs signed_by

-- a seal has at most 80 bytes
seal_small : (v : Vote) → length (seal_bytes v.seal) ≤ 80
seal_small v = let l = v.seal.bytes.fits in let k = length-take v.seal.bytes.len v.seal.bytes.slots in omega arith

pub seals_small : (vs : List Vote) → seals_length vs ≤ 80 * length vs
seals_small [] = omega arith
seals_small (v ∷ vs) = let one = seal_small v in let rest = seals_small vs in let e = sum_by-cons (λ (w : Vote). length (seal_bytes w.seal)) v vs in omega arith
