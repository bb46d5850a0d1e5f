-- The pool: its members, what they log, what a replica holds, and what a certificate is.
-- P is the type of pages, M the type of marks. Heights, rounds and members are numbers here.
use Rattle.std.specs.Prelude.{◌≡◌, ℕ, ◌+◌, ◌*◌, ◌<◌, ◌≤◌, Bool, true, not, List, length, Some, Option}
use Rattle.std.specs.List.{AllByRecursion}
use Rattle.agree.specs.Lists.{In, Distinct, count}

-- Of the 3t + 1 members that are numbered from 0, at most t are not sound.
abbrev pub Few : ℕ → (ℕ → Bool) → Type 0
Few t sound = count (λ i. not (sound i)) (3 * t + 1) ≤ t

-- A pool of 3t + 1 members, numbered from 0, of whom at most t are not sound.
-- `admits i h p`: the rulebook of member i admits page p at height h.
pub record Pool (P M : Type 0) : Type 0 where
  pub t : ℕ
  pub sound : ℕ → Bool
  pub few : Few t sound
  pub admits : ℕ → ℕ → P → Bool
  pub own : P → M
  pub parent : P → M

-- What a sound member i did, as far as agreement speaks of it.
pub data Event (P M : Type 0) : Type 0 where
  -- its replica was opened, at this height and with this mark
  opened : (i h : ℕ) (m : M) → Event P M
  -- it sealed a candidate, a page or none, for height h and round r
  stated : (i h r : ℕ) (c : Option P) → Event P M
  -- its replica took a lock of round r on page p
  took : (i h r : ℕ) (p : P) → Event P M
  -- it sealed a commit
  committed : (i h r : ℕ) (p : P) → Event P M
  -- its replica entered page p by a decide
  entered : (i h : ℕ) (p : P) → Event P M

pub record Lock (P : Type 0) : Type 0 where
  pub page : P
  pub round : ℕ

pub record Statement (P : Type 0) : Type 0 where
  pub round : ℕ
  pub page : Option P

-- What a replica holds. It rests as long as it has stated nothing and taken no round over at its height.
-- `latest` is the latest candidate that it stated at its height, `held` its locks, `last` the mark that the next page stands on.
pub record Replica (P M : Type 0) : Type 0 where
  pub live : Bool
  pub height : ℕ
  pub round : ℕ
  pub rests : Bool
  pub latest : Option (Statement P)
  pub held : List (Lock P)
  pub last : M

module _ {P M : Type 0} (pool : Pool P M) where
  abbrev pub members : ℕ
  members = 3 * pool.t + 1

  abbrev pub quorum : ℕ
  quorum = 2 * pool.t + 1

  -- at least k different members of whom Q holds
  abbrev pub Several : ℕ → (ℕ → Type 0) → Type 0
  Several k Q = (ms : List ℕ) × (k ≤ length ms) × Distinct ms × AllByRecursion (λ i. (i < members) × Q i) ms

  -- A lock's certificate: a quorum, the sound members of which have stated that page in that round.
  abbrev pub Certified : List (Event P M) → ℕ → ℕ → P → Type 0
  Certified log h r p = Several quorum (λ i. pool.sound i ≡ true → In (stated i h r (Some p)) log)

  -- A decide's: a quorum, the sound members of which have committed to that page in that round.
  abbrev pub Decided : List (Event P M) → ℕ → ℕ → P → Type 0
  Decided log h r p = Several quorum (λ i. pool.sound i ≡ true → In (committed i h r p) log)
