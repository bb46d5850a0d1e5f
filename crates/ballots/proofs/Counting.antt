-- Tallies and votes: over what a record stands for, and one record at a time.
use Rattle.std.proofs.Common.{◌≡◌, ℕ, zero, suc, ◌+◌, ◌-◌, ◌<◌, ◌≤◌, Bool, true, false, cond, List, [], ◌∷◌, ◌++◌, map, length, take, Some, None, Option, sym, refl, ap, ◌∙◌, arith}
use Rattle.std.proofs.lemmas.List.{append_assoc, append-nil, map_push, length_push}
use Rattle.std.specs.List.{count_by}
use Rattle.std.specs.Range.{range_inclusive_len, range_inclusive_left}
use Rattle.std.specs.declared.ops.RangeInclusive.{RangeInclusive}
use Rattle.std.proofs.lemmas.List.Sums.{sum_by-cons}
use Rattle.base.specs.Seals.{seal_bytes}
use Rattle.base.specs.declared.seals.Seal.{Seal}
use Rattle.base.specs.declared.seals.Vote.{Vote}
use Rattle.message.specs.Contents.{Signed}
use Rattle.outbox.specs.Written.{signed_by}
use Rattle.protocol.specs.State.{tally}
use Rattle.protocol.specs.Turns.{votes_from}

-- over what each element stands for
pub tally_map : {X Y : Type 0} (f : X → Y) (test : Y → Bool) (xs : List X) → tally test (map f xs) ≡ tally (λ x. test (f x)) xs
tally_map f test [] = refl
tally_map f test (x ∷ xs) = ap (λ n. cond (test (f x)) 1 0 + n) (tally_map f test xs)

pub votes_map : {X Y : Type 0} (f : X → Y) (test : Y → Bool) (seal : Y → List ℕ) (i : ℕ) (xs : List X) → votes_from test seal i (map f xs) ≡ votes_from (λ x. test (f x)) (λ x. seal (f x)) i xs
votes_map f test seal i [] = refl
votes_map f test seal i (x ∷ xs) =
    ap (λ vs. cond (test (f x)) (record { signer = i; seal = seal (f x) } ∷ vs) vs) (votes_map f test seal (i + 1) xs)

-- a tally is a count
pub tally_counts : {X : Type 0} (test : X → Bool) (xs : List X) → count_by test xs ≡ tally test xs
tally_counts test [] = refl
tally_counts test (x ∷ xs) = sum_by-cons (λ y. cond (test y) 1 0) x xs ∙ ap (λ n. cond (test x) 1 0 + n) (tally_counts test xs)

-- a seal that came, and one that did not
pub came : (b : Bool) (s : Seal) (g : List ℕ) → ◌≡◌ {A = Option (List ℕ)} (Some (seal_bytes s)) (cond b (Some g) None) → (b ≡ true) × (seal_bytes s ≡ g)
came true s g e = (refl, cc)
came false s g e = let z : ◌≡◌ {A = ℕ} 0 1 = cc in absurd (omega arith)

pub none_came : (b : Bool) (g : List ℕ) → ◌≡◌ {A = Option (List ℕ)} None (cond b (Some g) None) → b ≡ false
none_came true g e = let z : ◌≡◌ {A = ℕ} 0 1 = cc in absurd (omega arith)
none_came false g e = refl

take_next : {Y : Type 0} (k : ℕ) (y : Y) (ys : List Y) → 0 < k → take k (y ∷ ys) ≡ y ∷ take (k - 1) ys
take_next zero y ys h = absurd (omega arith)
take_next (suc k) y ys h = let e : suc k - 1 ≡ k = omega arith in ap (λ m. y ∷ take m ys) (sym e)

take_none : {Y : Type 0} (k : ℕ) → take {A = Y} k [] ≡ []
take_none zero = refl
take_none (suc k) = refl

-- members left from 0 to 255: a spent range has none, and the next of another is as far from 256 as are left
abbrev pub left_of : RangeInclusive ℕ → ℕ
left_of r = range_inclusive_left (λ (a z : ℕ). z - a) r

next_by : (a z : ℕ) (spent : Bool) → z ≡ 255 → 0 < range_inclusive_len (λ (a z : ℕ). z - a) a z spent → a ≡ 256 - range_inclusive_len (λ (a z : ℕ). z - a) a z spent
next_by a z true e more = absurd (omega arith)
next_by a z false e more = omega arith

pub next_is : (r : RangeInclusive ℕ) → r.end ≡ 255 → 0 < left_of r → r.start ≡ 256 - left_of r
next_is r e more = next_by r.start r.end r.exhausted e more

module _ {X : Type 0} (test : X → Bool) (seal : X → List ℕ) (quorum : ℕ) where
  -- the votes that are there, with those still to come of the records that are left
  unfoldable pub whole : ℕ → List X → List Vote → List (Signed (List ℕ))
  whole n xs votes = map signed_by votes ++ take (quorum - length votes) (votes_from test seal n xs)

  -- none is there yet
  pub whole_none : (xs : List X) → whole 0 xs [] ≡ take quorum (votes_from test seal 0 xs)
  unfolding whole
  whole_none xs =
      let all : quorum - 0 ≡ quorum = omega arith
      in ap (λ k. take k (votes_from test seal 0 xs)) all

  -- enough of them, and no more of them
  pub whole_full : (n : ℕ) (xs : List X) (votes : List Vote) → quorum ≤ length votes → whole n xs votes ≡ map signed_by votes
  unfolding whole
  whole_full n xs votes h =
      let none : quorum - length votes ≡ 0 = omega arith
      in ap (λ k. map signed_by votes ++ take k (votes_from test seal n xs)) none ∙ append-nil (map signed_by votes)

  pub whole_all : (n : ℕ) (xs : List X) (votes : List Vote) → length xs ≤ 0 → whole n xs votes ≡ map signed_by votes
  unfolding whole
  whole_all n [] votes h = ap (λ v. map signed_by votes ++ v) (take_none (quorum - length votes)) ∙ append-nil (map signed_by votes)
  whole_all n (x ∷ xs) votes h = absurd (omega arith)

  -- a record that is passed over
  pub whole_same : (n : ℕ) (x : X) (xs : List X) (votes : List Vote) → ◌≡◌ {A = Option (List ℕ)} None (cond (test x) (Some (seal x)) None) → whole n (x ∷ xs) votes ≡ whole (n + 1) xs votes
  unfolding whole
  whole_same n x xs votes said =
      let rest = votes_from test seal (n + 1) xs
      in ap (λ b. map signed_by votes ++ take (quorum - length votes) (cond b (record { signer = n; seal = seal x } ∷ rest) rest)) (none_came (test x) (seal x) said)

  -- one more vote
  pub whole_more : (n : ℕ) (x : X) (xs : List X) (votes : List Vote) (v : Vote) → v.member.0 ≡ n → ◌≡◌ {A = Option (List ℕ)} (Some (seal_bytes v.seal)) (cond (test x) (Some (seal x)) None) → length votes < quorum → whole n (x ∷ xs) votes ≡ whole (n + 1) xs (votes ++ v ∷ [])
  unfolding whole
  whole_more n x xs votes v named said less =
      let rest = votes_from test seal (n + 1) xs
      in let both = came (test x) v.seal (seal x) said
      in let says : ◌≡◌ {A = Signed (List ℕ)} (record { signer = n; seal = seal x }) (signed_by v) = (λ k. record { signer = sym named k; seal = sym both.1 k })
      in let some : 0 < quorum - length votes = omega arith
      in let long : length (votes ++ v ∷ []) ≡ length votes + 1 = length_push votes v
      in let left : quorum - length votes - 1 ≡ quorum - length (votes ++ v ∷ []) = omega arith
      in let front = map signed_by votes
      in let now : take (quorum - length votes) (votes_from test seal n (x ∷ xs)) ≡ signed_by v ∷ take (quorum - length (votes ++ v ∷ [])) rest
      = ap (take (quorum - length votes)) (ap (λ b. cond b (record { signer = n; seal = seal x } ∷ rest) rest) both.0 ∙ ap (λ r. r ∷ rest) says)
      ∙ take_next (quorum - length votes) (signed_by v) rest some ∙ ap (λ k. signed_by v ∷ take k rest) left
      in ap (λ z. front ++ z) now ∙ sym (append_assoc front (signed_by v ∷ []) (take (quorum - length (votes ++ v ∷ [])) rest)) ∙ ap (λ z. z ++ take (quorum - length (votes ++ v ∷ [])) rest) (sym (map_push signed_by votes v))
