-- What is kept along a run: the replicas and the log are those of a run of agreement's moves, every replica's state is of
-- the values that the program has, and every sealed candidate and commit is in the log.
use Rattle.std.proofs.Common.{◌≡◌, ℕ, ◌<◌, ◌≤◌, Bool, true, cond, eqb, List, [], ◌++◌, length, Some, None, Option, sym, refl, ap, ◌∙◌, subst}
use Rattle.std.specs.List.{AllByRecursion as All}
use Rattle.std.proofs.lemmas.Bool.{cond_both, cond-true, cond-false, eqb-true, eq-eqb, ne_eqb}
use Rattle.agree.specs.Pool.{Event, Replica, Lock, Statement as Said}
use Rattle.agree.specs.Moves.{Move, after as moved, logged, Allowed}
use Rattle.agree.proofs.Reached.{Reached, reached_move, reached_same}
use Rattle.base.specs.Pools.{members, last_height, last_round}
use Rattle.base.specs.Statements.{PageFits}
use Rattle.base.specs.declared.slips.Mark.{Mark}
use Rattle.base.specs.declared.slips.Slip.{Slip}
use Rattle.base.specs.declared.statements.Statement.{Statement}
use Rattle.protocol.specs.Judging.{latest_of}
use Rattle.protocol.specs.Rounds.{is_resting, locks_of}
use Rattle.protocol.specs.Runs.{Assembly, Station, World, as_pool, stated_in}
use Rattle.protocol.specs.State.{Latest, View}
use Rattle.protocol.proofs.Seals.{Borne, SilentAll, silent_all, silent_log, Told, told_more, marked}
use Rattle.protocol.proofs.Shelf.{Fit}

-- what agreement sees of a replica ------------------------------------------------------------------------------------

abbrev pub said : Option Latest → Option (Said Slip)
said None = None
said (Some l) = Some (record { round = l.round; page = l.page })

abbrev pub seen : ℕ → ℕ → Bool → Option (Said Slip) → List (Lock Slip) → Mark → Replica Slip Mark
seen height round rests latest held last = record { live = true; height = height; round = round; rests = rests; latest = latest; held = held; last = last }

-- a live replica of member i
abbrev pub look_at : ℕ → View → Replica Slip Mark
look_at i v = seen v.height v.round (is_resting v.stage) (said (latest_of v i)) (locks_of v.candidates) v.last

abbrev pub look : ℕ → Station → Replica Slip Mark
look i s =
    record {
      live = s.live;
      height = s.view.height;
      round = s.view.round;
      rests = is_resting s.view.stage;
      latest = said (latest_of s.view i);
      held = locks_of s.view.candidates;
      last = s.view.last;
    }

-- states of the program -----------------------------------------------------------------------------------------------

abbrev pub LatestFits : Option Latest → Type 0
LatestFits None = Unit {0}
LatestFits (Some l) = (l.round ≤ last_round) × PageFits l.page

-- n members; slips and statements that fit; rest in round 0; height and round in range
pub record Fair (n : ℕ) (v : View) : Type 0 where
  pub long : length v.latest ≡ n
  pub slips : All Fit v.candidates
  pub statements : All LatestFits v.latest
  pub rest : is_resting v.stage ≡ true → v.round ≡ 0
  pub high : v.height ≤ last_height
  pub late : v.round ≤ last_round

-- what is kept ----------------------------------------------------------------------------------------------------------

-- the pool where member i's replica is s, and some statements and deeds have been added
abbrev pub onto : World → ℕ → Station → List Statement → List (Event Slip Mark) → World
onto w i s ss deeds =
    record {
      stations = λ j. cond (eqb j i) s (w.stations j);
      sealed = marked i ss ++ w.sealed;
      events = stated_in i ss ++ (deeds ++ w.events);
    }

module _ (a : Assembly) (start : ℕ → Replica Slip Mark) where
  pub record Good (w : World) : Type 0 where
    pub reached : Reached (as_pool a) start (λ j. look j (w.stations j)) w.events
    pub pools : (j : ℕ) → (w.stations j).live ≡ true → (w.stations j).settings.pool ≡ a.pool
    pub fair : (j : ℕ) → (w.stations j).live ≡ true → Fair (members a.pool) (w.stations j).view
    pub told : Told w.sealed w.events

  -- the parts of what is kept, given what is new
  module _ (w : World) (i : ℕ) (good : Good w) (s : Station) (ss : List Statement) (deeds new : List (Event Slip Mark)) where
    keeps : Reached (as_pool a) start (λ j. look j (cond (eqb j i) s (w.stations j))) (new ++ w.events)
        → s.settings.pool ≡ a.pool
        → Fair (members a.pool) s.view
        → All (λ (x : Statement). Borne i (new ++ w.events) x.word x) ss
        → stated_in i ss ++ (deeds ++ w.events) ≡ new ++ w.events
        → Good (onto w i s ss deeds)
    keeps reached pool fair borne log =
        record {
          reached = subst (Reached (as_pool a) start (λ j. look j (cond (eqb j i) s (w.stations j)))) (sym log) reached;
          pools = λ j. cond_both (eqb j i) s (w.stations j) (λ (x : Station). x.live ≡ true → x.settings.pool ≡ a.pool) (λ e l. pool) (λ e l. good.pools j l);
          fair = λ j. cond_both (eqb j i) s (w.stations j) (λ (x : Station). x.live ≡ true → Fair (members a.pool) x.view) (λ e l. fair) (λ e l. good.fair j l);
          told = subst (Told (marked i ss ++ w.sealed)) (sym log) (told_more i ss w.sealed new w.events borne good.told);
        }

  -- one move
  pub moves_on : (w : World) (i : ℕ) (good : Good w) (s : Station) (ss : List Statement) (deeds : List (Event Slip Mark)) (m : Move Slip Mark) (was : Replica Slip Mark)
      → i < members a.pool
      → a.sound i ≡ true
      → look i (w.stations i) ≡ was
      → Allowed (as_pool a) i was w.events m
      → look i s ≡ moved (as_pool a) was m
      → s.settings.pool ≡ a.pool
      → Fair (members a.pool) s.view
      → All (λ (x : Statement). Borne i (logged (as_pool a) i was m ++ w.events) x.word x) ss
      → stated_in i ss ++ (deeds ++ w.events) ≡ logged (as_pool a) i was m ++ w.events
      → Good (onto w i s ss deeds)
  moves_on w i good s ss deeds m was low sound is allowed next pool fair borne log =
      keeps w i good s ss deeds (logged (as_pool a) i was m)
      (subst (λ x. Reached (as_pool a) start (λ j. look j (cond (eqb j i) s (w.stations j))) (logged (as_pool a) i x m ++ w.events)) is
      (reached_move (as_pool a) start i m (λ j. look j (w.stations j)) (λ j. look j (cond (eqb j i) s (w.stations j))) w.events low sound
      (subst (λ x. Allowed (as_pool a) i x w.events m) (sym is) allowed)
      (ap (look i) (cond-true (eqb i i) s (w.stations i) (eq-eqb i i refl)) ∙ next ∙ ap (λ x. moved (as_pool a) x m) (sym is))
      (λ j ne. ap (look j) (cond-false (eqb j i) s (w.stations j) (ne_eqb j i ne)))
      good.reached))
      pool fair borne log

  -- no move
  pub stays_on : (w : World) (i : ℕ) (good : Good w) (s : Station) (ss : List Statement) (deeds : List (Event Slip Mark))
      → look i s ≡ look i (w.stations i)
      → s.settings.pool ≡ a.pool
      → Fair (members a.pool) s.view
      → SilentAll ss
      → deeds ≡ []
      → Good (onto w i s ss deeds)
  stays_on w i good s ss deeds same pool fair silent none =
      keeps w i good s ss deeds []
      (reached_same (as_pool a) start (λ j. look j (w.stations j)) (λ j. look j (cond (eqb j i) s (w.stations j))) w.events
      (λ j.
      cond_both (eqb j i) s (w.stations j) (λ (x : Station). look j x ≡ look j (w.stations j))
      (λ e. subst (λ k. look k s ≡ look k (w.stations k)) (sym (eqb-true j i e)) same)
      (λ e. refl))
      good.reached)
      pool fair (silent_all i w.events ss silent)
      (λ t. silent_log i ss silent t ++ (none t ++ w.events))
