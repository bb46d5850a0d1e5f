-- The theorem on the abstract pool.
use Rattle.std.specs.Prelude.{◌≡◌, ℕ, suc, ◌+◌, ◌<◌, true, ◌⊎◌, List}
use Rattle.agree.specs.Lists.{In}
use Rattle.agree.specs.Pool.{Pool, Event, Event.opened, Event.took, Event.committed, Event.entered, Replica, Several}
use Rattle.agree.specs.Runs.{Act, played, Lawful}

module _ {P M : Type 0} (pool : Pool P M) where
  -- The mark is the own mark of the page that member i entered just below height h or, if it was opened at h, its start mark.
  abbrev pub Follows : List (Event P M) → ℕ → ℕ → M → Type 0
  Follows log i h m = ((k : ℕ) × (p : P) × (h ≡ suc k) × In (entered i k p) log × (m ≡ pool.own p)) ⊎ In (opened i h m) log

  pub record Agreed (log : List (Event P M)) : Type 0 where
    -- pages entered at one height are one page
    pub one_page : (i j h : ℕ) (p q : P) → In (entered i h p) log → In (entered j h q) log → p ≡ q
    -- the rulebooks of t + 1 sound members admit a page that was entered
    pub admitted : (i h : ℕ) (p : P) → In (entered i h p) log → Several pool (pool.t + 1) (λ j. (pool.sound j ≡ true) × (pool.admits j h p ≡ true))
    -- it stands on the page below it
    pub chained : (i h : ℕ) (p : P) → In (entered i h p) log → Follows log i h (pool.parent p)
    -- if t + 1 sound members have committed to a page, each lock of a later round is on that page
    pub locked : (h r : ℕ) (p : P) → Several pool (pool.t + 1) (λ j. (pool.sound j ≡ true) × In (committed j h r p) log) → (i s : ℕ) (q : P) → r < s → In (took i h s q) log → q ≡ p

-- This holds after every run, whatever the pool and its replicas were before they were opened.
abbrev pub Agreement : Type 0 → Type 0 → Type 0
Agreement P M = (pool : Pool P M) (start : ℕ → Replica P M) (run : List (Act P M)) → Lawful pool start run → Agreed pool (played pool start run).log
