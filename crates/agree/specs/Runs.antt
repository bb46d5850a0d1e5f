-- A run of the pool: the moves of its sound members, one after another.
use Rattle.std.specs.Prelude.{◌≡◌, ℕ, ◌<◌, true, false, cond, List, [], ◌∷◌, ◌++◌, ◌==◌}
use Rattle.agree.specs.Pool.{Pool, members, Event, Replica}
use Rattle.agree.specs.Moves.{Move, after, logged, Allowed}

-- a move, and whose it is
pub record Act (P M : Type 0) : Type 0 where
  pub who : ℕ
  pub move : Move P M

-- every member's replica, and the log, the latest event first
pub record World (P M : Type 0) : Type 0 where
  pub replicas : ℕ → Replica P M
  pub log : List (Event P M)

module _ {P M : Type 0} (pool : Pool P M) where
  abbrev pub step : Act P M → World P M → World P M
  step a w = record {
    replicas = λ j. cond (j == a.who) (after pool (w.replicas a.who) a.move) (w.replicas j);
    log = logged pool a.who (w.replicas a.who) a.move ++ w.log;
  }

  -- the world after a run, whose latest move stands first
  abbrev pub played : (ℕ → Replica P M) → List (Act P M) → World P M
  played start [] = record { replicas = start; log = [] }
  played start (a ∷ run) = step a (played start run)

  -- every move is a sound member's, and is allowed when it is made
  abbrev pub Lawful : (ℕ → Replica P M) → List (Act P M) → Type 0
  Lawful start [] = (i : ℕ) → (start i).live ≡ false
  Lawful start (a ∷ run) = Lawful start run × (a.who < members pool) × (pool.sound a.who ≡ true) × Allowed pool a.who ((played start run).replicas a.who) (played start run).log a.move
