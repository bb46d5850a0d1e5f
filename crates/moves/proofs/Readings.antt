-- What is known of a message that was read: how long its seals are, and that a lock message finds room.
use Rattle.std.proofs.Common.{◌≡◌, ℕ, suc, ◌≤◌, List, [], ◌∷◌, length, get_or, Some, None, Option, ap, ◌∙◌, subst, arith, w8, Fits}
use Rattle.base.specs.Numbers.{Bytes}
use Rattle.base.specs.Pools.{quorum}
use Rattle.base.specs.Seals.{kept}
use Rattle.base.specs.declared.pools.Pool.{Pool}
use Rattle.base.specs.declared.pools.Pool.TheVariants.{Four, Seven, Ten}
use Rattle.base.specs.declared.slips.Slip.{Slip}
use Rattle.message.specs.Contents.{Cert, Locked, Content, change, lock, release, Sent}
use Rattle.message.specs.Encoding.{Lawful, LawfulContent, encoded}
use Rattle.message.specs.RoundTrip.{fields}
use Rattle.message.specs.Sizes.{cert_size}
use Rattle.message.proofs.Sizing.{cert_size_lem}
use Rattle.message.proofs.Trips.{round_trip}
use Rattle.std.proofs.lemmas.Bool.Decides.{nat_tests}

-- the bytes of a slice of the program
pub bytes_of : (m : List ℕ) → ((i : ℕ) → Fits w8 (get_or m i 0)) → Bytes m
bytes_of [] t = tt
bytes_of (x ∷ m) t = (omega (arith, t 0), bytes_of m (λ i. t (suc i)))

-- a certificate of ten members with seals of 80 bytes is the longest
longest : (pool : Pool) (n : ℕ) → n ≤ 80 → cert_size (quorum pool) n ≤ 760
longest Four n small = omega arith
longest Seven n small = omega arith
longest Ten n small = omega arith

module _ (pool : Pool) (n : ℕ) (m : List ℕ) (s : Sent (List ℕ)) (small : n ≤ 80) (typed : (i : ℕ) → Fits w8 (get_or m i 0)) (read : fields pool n m ≡ Some s) where
  lawful : Lawful pool n s
  lawful = round_trip.reads_lawful pool n m s (bytes_of m typed) read

  lawful_as : (c : Content (List ℕ)) → s.content ≡ c → LawfulContent pool n s.head c
  lawful_as c is = subst (LawfulContent pool n s.head) is lawful.content_lawful

  -- the seals of a change have the kind's length
  pub change_sealed : (page : Option Slip) (x y : List ℕ) → s.content ≡ change page x y → (length x ≡ n) × (length y ≡ n)
  change_sealed page x y is = (lawful_as (change page x y) is).1

  -- a lock message is at most 760 bytes long, alone or in a release
  pub lock_short : (c : Cert (List ℕ)) → s.content ≡ lock c → length m ≤ 760
  lock_short c is =
      let same : m ≡ encoded (record { head = s.head; content = lock c }) = round_trip.reads_only pool n m s (bytes_of m typed) read ∙ ap (λ x. encoded (record { head = s.head; content = x })) is
      in let long = cert_size_lem pool n 2 3 s.head c (lawful_as (lock c) is)
      in let e : length m ≡ cert_size (quorum pool) n = ap length same ∙ long
      in omega (arith, longest pool n small)

  pub inner_short : (l : List ℕ) (inner : Locked (List ℕ)) (y : List ℕ) → s.content ≡ release l inner y → length l ≤ 760
  inner_short l inner y is =
      let h = lawful_as (release l inner y) is
      in let e : length l ≡ cert_size (quorum pool) n = ap length h.0 ∙ cert_size_lem pool n 2 3 inner.head inner.cert h.1.1.0
      in omega (arith, longest pool n small)

-- a seal of 1 to 80 bytes is kept
pub is_kept : (n : ℕ) (x : List ℕ) → 1 ≤ n → n ≤ 80 → length x ≡ n → None ≡ kept x → ⊥
is_kept n x most least long none = let z : ◌≡◌ {A = ℕ} 0 1 = grind (arith, nat_tests) in omega arith

pub kept_as : (n : ℕ) (x y : List ℕ) → 1 ≤ n → n ≤ 80 → length x ≡ n → Some y ≡ kept x → y ≡ x
kept_as n x y most least long some = grind (arith, nat_tests)
