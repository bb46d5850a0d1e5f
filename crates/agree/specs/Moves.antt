-- What one sound member's replica may do, what it is after that, and what the log gains.
-- The moves allow more than the protocol's rules do; agreement needs no more than what stands here.
use Rattle.std.specs.Prelude.{◌≡◌, ℕ, suc, ◌<◌, ◌≤◌, Bool, true, false, ◌⊎◌, List, [], ◌∷◌, Some, None, Option}
use Rattle.std.specs.List.{AllByRecursion}
use Rattle.agree.specs.Lists.{In}
use Rattle.agree.specs.Pool.{Pool, Event, Event.opened, Event.stated, Event.took, Event.committed, Event.entered, Lock, Replica, Certified, Decided}

pub data Move (P M : Type 0) : Type 0 where
  -- is opened at height h with mark m as its last
  starts : (h : ℕ) (m : M) → Move P M
  -- states round r with the candidate c
  states : (r : ℕ) (c : Option P) → Move P M
  -- seals its latest candidate, c of round r, once more
  repeats : (r : ℕ) (c : Option P) → Move P M
  -- takes a lock of round r on p, goes to that round, holds the locks ls after it, and perhaps commits
  locks : (r : ℕ) (p : P) (commits : Bool) (ls : List (Lock P)) → Move P M
  -- goes to round r, which may be its own, and keeps the locks ls: a select, and entering releasing
  passes : (r : ℕ) (ls : List (Lock P)) → Move P M
  -- takes a lock of any round r on p out of a release, and holds the locks ls after it
  releases : (r : ℕ) (p : P) (ls : List (Lock P)) → Move P M
  -- enters page p by a decide of round r
  enters : (r : ℕ) (p : P) → Move P M

module _ {P : Type 0} where
  -- `ls` is what is left of the locks `old`: each is one of them, and none of them is of a higher round than all that are left.
  abbrev pub Kept : List (Lock P) → List (Lock P) → Type 0
  Kept old ls = AllByRecursion (λ l. In l old) ls × AllByRecursion (λ o. (l : Lock P) × In l ls × (o.round ≤ l.round)) old

  -- A page is stated only if every lock held is on it; so with no lock any page is.
  abbrev pub Candidate : List (Lock P) → Option P → Type 0
  Candidate ls None = Unit {0}
  Candidate ls (Some p) = AllByRecursion (λ l. l.page ≡ p) ls

module _ {P M : Type 0} where
  -- Round r is yet to be stated: it is above the replica's, or not below it and the replica rests.
  abbrev pub Ahead : Replica P M → ℕ → Type 0
  Ahead s r = ((s.rests ≡ true) × (s.round ≤ r)) ⊎ (s.round < r)

  module _ (pool : Pool P M) where
    abbrev pub after : Replica P M → Move P M → Replica P M
    after s (starts h m) = record { live = true; height = h; round = 0; rests = true; latest = None; held = []; last = m }
    after s (states r c) = record { live = s.live; height = s.height; round = r; rests = false; latest = Some (record { round = r; page = c }); held = s.held; last = s.last }
    after s (repeats r c) = s
    after s (locks r p b ls) = record { live = s.live; height = s.height; round = r; rests = false; latest = s.latest; held = ls; last = s.last }
    after s (passes r ls) = record { live = s.live; height = s.height; round = r; rests = false; latest = s.latest; held = ls; last = s.last }
    after s (releases r p ls) = record { live = s.live; height = s.height; round = s.round; rests = s.rests; latest = s.latest; held = ls; last = s.last }
    after s (enters r p) = record { live = s.live; height = suc s.height; round = 0; rests = true; latest = None; held = []; last = pool.own p }

    -- what the log gains, the latest first
    abbrev pub logged : ℕ → Replica P M → Move P M → List (Event P M)
    logged i s (starts h m) = opened i h m ∷ []
    logged i s (states r c) = stated i s.height r c ∷ []
    logged i s (repeats r c) = stated i s.height r c ∷ []
    logged i s (locks r p true ls) = committed i s.height r p ∷ took i s.height r p ∷ []
    logged i s (locks r p false ls) = took i s.height r p ∷ []
    logged i s (passes r ls) = []
    logged i s (releases r p ls) = took i s.height r p ∷ []
    logged i s (enters r p) = entered i s.height p ∷ []

    -- when member i, its replica being s, may make the move
    abbrev pub Allowed : ℕ → Replica P M → List (Event P M) → Move P M → Type 0
    Allowed i s log (starts h m) = s.live ≡ false
    Allowed i s log (states r c) = (s.live ≡ true) × Ahead s r × Candidate s.held c
    Allowed i s log (repeats r c) = (s.live ≡ true) × (s.latest ≡ Some (record { round = r; page = c }))
    Allowed i s log (locks r p b ls) = (s.live ≡ true) × (s.round ≤ r) × Certified pool log s.height r p × Kept (record { page = p; round = r } ∷ s.held) ls × (b ≡ true → pool.admits i s.height p ≡ true)
    Allowed i s log (passes r ls) = (s.live ≡ true) × (s.round ≤ r) × Kept s.held ls
    Allowed i s log (releases r p ls) = (s.live ≡ true) × Certified pool log s.height r p × Kept (record { page = p; round = r } ∷ s.held) ls
    Allowed i s log (enters r p) = (s.live ≡ true) × Decided pool log s.height r p × (pool.parent p ≡ s.last)
