-- The votes that a leader's message is written with: a quorum of them, in rising order of their members.
use Rattle.std.proofs.Common.{◌≡◌, ℕ, zero, suc, ◌+◌, ◌≤◌, Bool, true, false, cond, leb, List, [], ◌∷◌, length, take, Some, None, Option, refl, subst, arith}
use Rattle.agree.proofs.Log.{none_some, some_same}
use Rattle.base.specs.Pools.{members, quorum}
use Rattle.base.specs.Statements.{PageFits}
use Rattle.base.specs.declared.pools.Pool.{Pool}
use Rattle.base.specs.declared.pools.Pool.TheVariants.{Four, Seven, Ten}
use Rattle.base.specs.declared.slips.Slip.{Slip}
use Rattle.message.specs.Contents.{Signed}
use Rattle.message.specs.Encoding.{Rising}
use Rattle.protocol.specs.State.{Latest, Box, tally}
use Rattle.protocol.specs.Turns.{votes_from, lowest, agreed_slip, agreed_in, page_of, agreed_of}
use Rattle.protocol.proofs.Keeping.{LatestFits}
use Rattle.std.proofs.lemmas.List.{length-take-le}
use Rattle.std.proofs.lemmas.Bool.{cond_both, leb-true}
use Rattle.std.specs.List.{AllByRecursion as All}

-- a pool has at most ten members
pub members_few : (p : Pool) → members p ≤ 10
members_few Four = omega arith
members_few Seven = omega arith
members_few Ten = omega arith

module _ {X : Type 0} (test : X → Bool) (seal : X → List ℕ) where
  -- as many votes as pass the test
  votes_count : (i : ℕ) (xs : List X) → length (votes_from test seal i xs) ≡ tally test xs
  votes_count i [] = refl
  votes_count i (x ∷ xs) = by (test x) (votes_count (i + 1) xs)
    where
      by : (t : Bool) → length (votes_from test seal (i + 1) xs) ≡ tally test xs
          → length (cond t (record { signer = i; seal = seal x } ∷ votes_from test seal (i + 1) xs) (votes_from test seal (i + 1) xs)) ≡ cond t 1 0 + tally test xs
      by true e = omega (arith, e)
      by false e = omega (arith, e)

  votes_rise : (n i low : ℕ) (xs : List X) → low ≤ i → i + length xs ≤ 256 → All (λ x. test x ≡ true → length (seal x) ≡ n) xs → Rising n low (votes_from test seal i xs)
  votes_rise n i low [] le fit all = tt
  votes_rise n i low (x ∷ xs) le fit all =
      cond_both (test x) (record { signer = i; seal = seal x } ∷ votes_from test seal (i + 1) xs) (votes_from test seal (i + 1) xs) (Rising n low)
      (λ e. (le, (omega arith, (all.0 e, votes_rise n (i + 1) (i + 1) xs (omega arith) (omega arith) all.1))))
      (λ e. votes_rise n (i + 1) low xs (omega arith) (omega arith) all.1)

rising_take : (n low k : ℕ) (vs : List (Signed (List ℕ))) → Rising n low vs → Rising n low (take k vs)
rising_take n low zero vs h = tt
rising_take n low (suc k) [] h = tt
rising_take n low (suc k) (v ∷ vs) h = (h.0, (h.1.0, (h.1.1.0, rising_take n (v.signer + 1) k vs h.1.1.1)))

-- the q lowest
module _ {X : Type 0} (b : Box) (test : X → Bool) (seal : X → List ℕ) (xs : List X) where
  pub lowest_many : leb (quorum b.settings.pool) (tally test xs) ≡ true → length (lowest b test seal xs) ≡ quorum b.settings.pool
  lowest_many e = length-take-le (quorum b.settings.pool) (votes_from test seal 0 xs) (omega (arith, leb-true (quorum b.settings.pool) (tally test xs) e, votes_count test seal 0 xs))

  pub lowest_rise : (n : ℕ) → length xs ≤ 10 → All (λ x. test x ≡ true → length (seal x) ≡ n) xs → Rising n 0 (lowest b test seal xs)
  lowest_rise n few all = rising_take n 0 (quorum b.settings.pool) (votes_from test seal 0 xs) (votes_rise test seal n 0 0 xs (omega arith) (omega arith) all)

-- the slip that a quorum names is one of the program, and a quorum names it
module _ (q r : ℕ) (every : List (Option Latest)) (s : Slip) where
  abbrev Agreed : Type 0
  Agreed = PageFits (Some s) × (agreed_slip q r every s ≡ true)

  agreed_in_lem : (o rest : Option Slip) → PageFits o → (rest ≡ Some s → Agreed) → agreed_in q r every o rest ≡ Some s → Agreed
  agreed_in_lem None rest fits f e = f e
  agreed_in_lem (Some p) rest fits f e =
      cond_both (agreed_slip q r every p) (Some p) rest (λ o. o ≡ Some s → Agreed)
      (λ yes is. subst (λ x. PageFits (Some x) × (agreed_slip q r every x ≡ true)) (some_same is) (fits, yes))
      (λ no is. f is)
      e

  page_fits : (o : Option Latest) → LatestFits o → PageFits (page_of o)
  page_fits None f = tt
  page_fits (Some l) f = f.1

  pub agreed : (ls : List (Option Latest)) → All LatestFits ls → agreed_of q r every ls ≡ Some s → Agreed
  agreed [] all e = absurd (none_some e)
  agreed (l ∷ ls) all e = agreed_in_lem (page_of l) (agreed_of q r every ls) (page_fits l all.0) (λ is. agreed ls all.1 is) e
