-- A run that meets every premise, so that the theorem speaks of something.
-- Four members of whom member 3 is not sound. Pages and marks are numbers: page 172 stands on mark 17 and has the mark 172.
use Rattle.std.specs.Prelude.{ℕ, ◌/◌, Bool, true, false, List, [], ◌∷◌, Some, None, nat_lt}
use Rattle.agree.specs.Lists.{In}
use Rattle.agree.specs.Pool.{Few, Pool, Event.stated, Event.took, Event.committed, Event.entered, Lock, Replica}
use Rattle.agree.specs.Moves.{Move, Move.starts, Move.states, Move.repeats, Move.locks, Move.passes, Move.releases, Move.enters}
use Rattle.agree.specs.Runs.{Act, played, Lawful}

abbrev pub sound : ℕ → Bool
sound = λ i. nat_lt i 3

-- the pool, from the fact that at most one of its members is not sound
abbrev pub four : Few 1 sound → Pool ℕ ℕ
four few = record { t = 1; sound = sound; few = few; admits = λ i h p. nat_lt p 1000; own = λ p. p; parent = λ p. p / 10 }

abbrev pub unopened : ℕ → Replica ℕ ℕ
unopened i = record { live = false; height = 0; round = 0; rests = true; latest = None; held = []; last = 0 }

abbrev pub by : ℕ → Move ℕ ℕ → Act ℕ ℕ
by i m = record { who = i; move = m }

abbrev pub on : ℕ → ℕ → Lock ℕ
on p r = record { page = p; round = r }

-- Each part of the run goes on from the one above it; within a part the latest move stands first.
-- The sound members are opened at height 1 with the mark 1.
abbrev pub opening : List (Act ℕ ℕ)
opening = by 2 (starts 1 1) ∷ by 1 (starts 1 1) ∷ by 0 (starts 1 1) ∷ []

-- Round 0: they state different pages, one of them twice. With member 3 there is a lock on 17, which reaches member 0 alone.
abbrev pub dispute : List (Act ℕ ℕ)
dispute =
    by 0 (locks 0 17 true (on 17 0 ∷ []))
    ∷ by 1 (repeats 0 (Some 18))
    ∷ by 2 (states 0 (Some 17))
    ∷ by 1 (states 0 (Some 18))
    ∷ by 0 (states 0 (Some 17))
    ∷ opening

-- Releasing: member 1 takes the lock from a release, a select takes member 2 to round 1.
abbrev pub release : List (Act ℕ ℕ)
release = by 2 (passes 1 []) ∷ by 1 (releases 0 17 (on 17 0 ∷ [])) ∷ by 0 (passes 0 (on 17 0 ∷ [])) ∷ dispute

-- Round 1: two state the page that they are locked on. With member 3 that is a lock, and all three commit.
abbrev pub second : List (Act ℕ ℕ)
second =
    by 2 (locks 1 17 true (on 17 1 ∷ []))
    ∷ by 1 (locks 1 17 true (on 17 1 ∷ []))
    ∷ by 0 (locks 1 17 true (on 17 1 ∷ []))
    ∷ by 1 (states 1 (Some 17))
    ∷ by 0 (states 1 (Some 17))
    ∷ release

-- They enter the page, and at height 2, in one round, page 172.
abbrev pub whole : List (Act ℕ ℕ)
whole =
    by 1 (enters 0 172)
    ∷ by 0 (enters 0 172)
    ∷ by 2 (locks 0 172 true (on 172 0 ∷ []))
    ∷ by 1 (locks 0 172 true (on 172 0 ∷ []))
    ∷ by 0 (locks 0 172 true (on 172 0 ∷ []))
    ∷ by 2 (states 0 (Some 172))
    ∷ by 1 (states 0 (Some 172))
    ∷ by 0 (states 0 (Some 172))
    ∷ by 2 (enters 1 17)
    ∷ by 1 (enters 1 17)
    ∷ by 0 (enters 1 17)
    ∷ second

pub record Happens : Type 0 where
  pub few : Few 1 sound
  pub lawful : Lawful (four few) unopened whole
  pub disputed : In (stated 1 1 0 (Some 18)) (played (four few) unopened whole).log
  pub committed_early : In (committed 0 1 0 17) (played (four few) unopened whole).log
  pub released : In (took 1 1 0 17) (played (four few) unopened whole).log
  pub entered_first : In (entered 2 1 17) (played (four few) unopened whole).log
  pub entered_second : In (entered 1 2 172) (played (four few) unopened whole).log
