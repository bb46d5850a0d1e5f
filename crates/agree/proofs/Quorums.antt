-- Quorums of a pool meet. Assumes nothing.
use Rattle.std.proofs.Common.{◌≡◌, ℕ, ◌+◌, ◌<◌, ◌≤◌, Bool, true, ◌&&◌, arith}
use Rattle.std.specs.List.{AllByRecursion as All}
use Rattle.std.proofs.ByRecursion.{All-weaker}
use Rattle.std.proofs.lemmas.Bool.{and_parts}
use Rattle.agree.specs.Lists.{count}
use Rattle.agree.specs.Pool.{Pool, members, quorum, Several}
use Rattle.agree.proofs.Counting.{count_both, count_not, count_some, mem, mem_all, count_mem, listed, listed_length, listed_all, listed_distinct}

module _ {P M : Type 0} (pool : Pool P M) where
  -- the test for being one of several members
  abbrev pub among : (k : ℕ) (Q : ℕ → Type 0) → Several pool k Q → ℕ → Bool
  among k Q s = mem s.0

  pub among_is : (k : ℕ) (Q : ℕ → Type 0) (s : Several pool k Q) (i : ℕ) → among k Q s i ≡ true → Q i
  among_is k Q s i e = (mem_all (λ j. (j < members pool) × Q j) s.0 i s.3 e).1

  pub among_many : (k : ℕ) (Q : ℕ → Type 0) (s : Several pool k Q) → k ≤ count (among k Q s) (members pool)
  among_many k Q s =
      let low : All (λ j. j < members pool) s.0 = All-weaker (λ j. (j < members pool) × Q j) (λ j. j < members pool) (λ j h. h.0) s.0 s.3 in
      omega (arith, s.1, count_mem s.0 (members pool) s.2 low)

  -- most members are sound
  sound_many : quorum pool ≤ count pool.sound (members pool)
  sound_many = omega (arith, count_not pool.sound (members pool), pool.few)

  -- a quorum and t + 1 others have a member in common
  pub meet : (Q : ℕ → Type 0) → Several pool (quorum pool) Q → (c : ℕ → Bool) → pool.t + 1 ≤ count c (members pool) → (i : ℕ) × (c i ≡ true) × Q i
  meet Q s c many =
      let a : ℕ → Bool = among (quorum pool) Q s in
      let some : (i : ℕ) × (i < members pool) × ((c i && a i) ≡ true) =
      count_some (λ i. c i && a i) (members pool) (omega (arith, count_both c a (members pool), among_many (quorum pool) Q s)) in
      let parts : (c some.0 ≡ true) × (a some.0 ≡ true) = and_parts (c some.0) (a some.0) some.2 in
      (some.0, parts.0, among_is (quorum pool) Q s some.0 parts.1)

  -- a quorum has t + 1 sound members
  pub sound_part : (Q : ℕ → Type 0) (s : Several pool (quorum pool) Q) → pool.t + 1 ≤ count (λ i. pool.sound i && among (quorum pool) Q s i) (members pool)
  sound_part Q s = omega (arith, sound_many, count_both pool.sound (among (quorum pool) Q s) (members pool), among_many (quorum pool) Q s)

  -- those who pass a test, as several members
  pub several : (k : ℕ) (c : ℕ → Bool) (Q : ℕ → Type 0) → k ≤ count c (members pool) → ((i : ℕ) → c i ≡ true → Q i) → Several pool k Q
  several k c Q many f = (
    listed c (members pool),
    omega (arith, listed_length c (members pool)),
    listed_distinct c (members pool),
    All-weaker (λ i. (i < members pool) × (c i ≡ true)) (λ i. (i < members pool) × Q i) (λ i h. (h.0, f i h.1)) (listed c (members pool)) (listed_all c (members pool)),
  )

  -- of the sound members of a quorum something holds: so it holds of t + 1 sound members
  pub sound_several : (Q : ℕ → Type 0) → Several pool (quorum pool) (λ i. pool.sound i ≡ true → Q i) → Several pool (pool.t + 1) (λ i. (pool.sound i ≡ true) × Q i)
  sound_several Q s =
      let R : ℕ → Type 0 = λ i. pool.sound i ≡ true → Q i in
      several (pool.t + 1) (λ i. pool.sound i && among (quorum pool) R s i) (λ i. (pool.sound i ≡ true) × Q i) (sound_part R s)
      (λ i e.
      let parts : (pool.sound i ≡ true) × (among (quorum pool) R s i ≡ true) = and_parts (pool.sound i) (among (quorum pool) R s i) e in
      (parts.0, among_is (quorum pool) R s i parts.1 parts.0))

  -- two quorums have a sound member in common
  pub share_sound : (Q R : ℕ → Type 0) → Several pool (quorum pool) (λ i. pool.sound i ≡ true → Q i) → Several pool (quorum pool) (λ i. pool.sound i ≡ true → R i) → (i : ℕ) × (pool.sound i ≡ true) × Q i × R i
  share_sound Q R s u =
      let S : ℕ → Type 0 = λ i. pool.sound i ≡ true → Q i in
      let both : (i : ℕ) × ((pool.sound i && among (quorum pool) S s i) ≡ true) × (pool.sound i ≡ true → R i) =
      meet (λ i. pool.sound i ≡ true → R i) u (λ i. pool.sound i && among (quorum pool) S s i) (sound_part S s) in
      let i : ℕ = both.0 in
      let parts : (pool.sound i ≡ true) × (among (quorum pool) S s i ≡ true) = and_parts (pool.sound i) (among (quorum pool) S s i) both.1 in
      (i, parts.0, among_is (quorum pool) S s i parts.1 parts.0, both.2 parts.0)

  -- a quorum has a sound member
  pub a_sound : (Q : ℕ → Type 0) → Several pool (quorum pool) (λ i. pool.sound i ≡ true → Q i) → (i : ℕ) × (pool.sound i ≡ true) × Q i
  a_sound Q s = let r : (i : ℕ) × (pool.sound i ≡ true) × Q i × Q i = share_sound Q Q s s in (r.0, r.1, r.2)

  -- what holds of several members, weakened
  pub several_weaker : (k : ℕ) (Q R : ℕ → Type 0) → ((i : ℕ) → Q i → R i) → Several pool k Q → Several pool k R
  several_weaker k Q R f s =
      (s.0, s.1, s.2, All-weaker (λ i. (i < members pool) × Q i) (λ i. (i < members pool) × R i) (λ i h. (h.0, f i h.1)) s.0 s.3)
