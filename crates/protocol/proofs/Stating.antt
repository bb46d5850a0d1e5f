-- Stating a round, and entering releasing: the plans that several calls share.
use Rattle.std.proofs.Common.{◌≡◌, ℕ, ◌≤◌, Bool, false, List, [], get_or, set, Some, None, Option, sym, refl, ◌∙◌, inl, arith}
use Rattle.std.specs.List.{AllByRecursion as All}
use Rattle.std.proofs.lemmas.List.{length-set, get_or-set_same}
use Rattle.std.proofs.ByRecursion.{All-set}
use Rattle.std.proofs.lemmas.Bool.{cond_both, both_ways}
use Rattle.agree.specs.Pool.{Replica, Lock}
use Rattle.agree.specs.Moves.{Move.states, Move.passes, Ahead}
use Rattle.base.specs.Pools.{members, last_height, last_round}
use Rattle.base.specs.Statements.{StatementFits, PageFits}
use Rattle.base.specs.declared.slips.Mark.{Mark}
use Rattle.base.specs.declared.slips.Slip.{Slip}
use Rattle.base.specs.declared.stages.Stage.{Stage}
use Rattle.base.specs.declared.stages.Stage.TheVariants.{Changing, Locking, Releasing}
use Rattle.base.specs.declared.statements.Word.{Word}
use Rattle.base.specs.declared.statements.Word.TheVariants.{Cand}
use Rattle.protocol.specs.Plans.{Plan, quiet, goes}
use Rattle.protocol.specs.Rounds.{is_resting, locks_of, candidate_of, quorate, says, seal_at, moved, with_candidates, with_latest, with_ticks, change_draft, onward, stating, highest_lock, keep_only, release_draft, release_of, releasing}
use Rattle.protocol.specs.Runs.{Assembly, World, box_of}
use Rattle.protocol.specs.Judging.{latest_of}
use Rattle.protocol.specs.State.{Settings, Candidate, Latest, Held, View}
use Rattle.protocol.proofs.Keeping.{said, seen, look_at, LatestFits, Fair}
use Rattle.protocol.proofs.Highest.{kept_highest}
use Rattle.protocol.proofs.Locks.{candidate_free}
use Rattle.protocol.proofs.Settling.{Late, late_one, late_two, Here, moves, LandsBy, Lands}
use Rattle.protocol.proofs.Shelf.{Fit, candidate_fits, fit_map}

-- heights and rounds in range, and a page that fits, make a statement of the program
pub says_fits : (word : Word) (h r : ℕ) (page : Option Slip) → h ≤ last_height → r ≤ last_round → PageFits page → StatementFits (says word h r page)
says_fits word h r page hh hr f = record { height_fits = omega arith; round_fits = omega arith; page_fits = f }

-- the candidates are others, which fit too
pub fair_candidates : (n : ℕ) (v : View) (cs : List Candidate) → All Fit cs → Fair n v → Fair n (with_candidates v cs)
fair_candidates n v cs fits f = record { long = f.long; slips = fits; statements = f.statements; rest = f.rest; high = f.high; late = f.late }

-- other ticks
pub fair_ticks : (n : ℕ) (v : View) (k : ℕ) → Fair n v → Fair n (with_ticks v k)
fair_ticks n v k f = record { long = f.long; slips = f.slips; statements = f.statements; rest = f.rest; high = f.high; late = f.late }

-- another round in range, and a stage that is not rest
pub fair_busy : (n : ℕ) (v : View) (r : ℕ) (g : Stage) → is_resting g ≡ false → r ≤ last_round → Fair n v → Fair n (moved v r g)
fair_busy n v r g busy low f =
    record { long = f.long; slips = f.slips; statements = f.statements; rest = λ e. absurd (both_ways (is_resting g) busy e); high = f.high; late = low }

-- a statement is recorded
pub fair_latest : (n : ℕ) (v : View) (j : ℕ) (l : Latest) → l.round ≤ last_round → PageFits l.page → Fair n v → Fair n (with_latest v j l)
fair_latest n v j l low fits f =
    record {
      long = length-set v.latest j (Some l) ∙ f.long;
      slips = f.slips;
      statements = All-set LatestFits v.latest j (Some l) (low, fits) f.statements;
      rest = f.rest;
      high = f.high;
      late = f.late;
    }

-- going on to locking changes nothing that agreement sees of a replica that does not rest
pub onward_look : (s : Settings) (i : ℕ) (v : View) → is_resting v.stage ≡ false → look_at i (onward s v) ≡ look_at i v
onward_look s i v busy =
    cond_both (quorate s v.round v) (moved v v.round Locking) v (λ x. look_at i x ≡ look_at i v)
    (λ e t. seen v.height v.round (sym busy t) (said (latest_of v i)) (locks_of v.candidates) v.last)
    (λ e. refl)

pub onward_fair : (n : ℕ) (s : Settings) (v : View) → Fair n v → Fair n (onward s v)
onward_fair n s v f =
    cond_both (quorate s v.round v) (moved v v.round Locking) v (Fair n)
    (λ e. fair_busy n v v.round Locking refl f.late f)
    (λ e. f)

module _ (a : Assembly) (start : ℕ → Replica Slip Mark) (w : World) (i : ℕ) (here : Here a start w i) (V : Type 0) (seals : List (List ℕ)) where
  -- a round ahead is stated from a view that agreement sees as it saw the replica
  pub states_lands : {X : Type 0} (x : X) (u : View) (r : ℕ) → look_at i (w.stations i).view ≡ look_at i u → Fair (members a.pool) u → Ahead (look_at i u) r → r ≤ last_round → Lands a start w i here V [] seals (stating (box_of a i (w.stations i)) x u r)
  states_lands {X} x u r is fair ahead late =
      let page : Option Slip = candidate_of (a.rules i) u.candidates in
      let l : Latest = record { round = r; page = page; rchg = seal_at seals 0; cand = seal_at seals 1 } in
      let p : Plan X = stating (box_of a i (w.stations i)) x u r in
      let set' : get_or (set u.latest i (Some l)) i None ≡ Some l = get_or-set_same u.latest i (Some l) None (omega (arith, fair.long, here.low)) in
      let fits : PageFits page = candidate_fits (a.rules i) u.candidates fair.slips in
      let mid : View = moved (with_latest u i l) r Changing in (
        late_two _ _ tt,
        λ v.
            moves a start w i here (goes (box_of a i (w.stations i)) p (change_draft i u.height r page) seals) [] (states r page) (look_at i u) is
            (refl, ahead, candidate_free (a.rules i) u.candidates)
            (onward_look (w.stations i).settings i mid refl ∙ (λ t. seen u.height r false (said (set' t)) (locks_of u.candidates) u.last))
            (onward_fair (members a.pool) (w.stations i).settings mid
            (fair_busy _ (with_latest u i l) r Changing refl late (fair_latest _ u i l late fits fair)))
            (tt, ((says_fits Cand u.height r page fair.high late fits, inl refl), tt))
            refl,
      )

  -- releasing is entered, in a round that is not below the replica's, and only the highest lock is kept
  pub releases_lands : {X : Type 0} (x : X) (u : View) (k : ℕ) (q : Bool) → look_at i (w.stations i).view ≡ seen u.height k q (said (latest_of u i)) (locks_of u.candidates) u.last → k ≤ u.round → Fair (members a.pool) (moved u u.round Releasing) → Lands a start w i here V [] seals (releasing (box_of a i (w.stations i)) x u)
  releases_lands {X} x u k q is le fair = by u.held
    where
      p : Plan X
      p = releasing (box_of a i (w.stations i)) x u

      left : List Candidate
      left = keep_only (highest_lock u.held (locks_of u.candidates)) u.candidates

      was : Replica Slip Mark
      was = seen u.height k q (said (latest_of u i)) (locks_of u.candidates) u.last

      fits : (o : Option (Lock Slip)) → All Fit (keep_only o u.candidates)
      fits None = fit_map _ (λ c. refl) u.candidates fair.slips
      fits (Some l) = fit_map _ (λ c. refl) u.candidates fair.slips

      fair' : Fair (members a.pool) (moved (with_candidates u left) u.round Releasing)
      fair' = record { long = fair.long; slips = fits (highest_lock u.held (locks_of u.candidates)); statements = fair.statements; rest = fair.rest; high = fair.high; late = fair.late }

      by : (o : Option Held) → Late (release_of i u o) × (V → LandsBy a start w i here [] seals p (release_of i u o))
      by None =
          (tt, λ v. moves a start w i here (quiet (box_of a i (w.stations i)) p) [] (passes u.round (locks_of left)) was is (refl, le, kept_highest u.held u.candidates) refl fair' tt refl)
      by (Some h) =
          (late_one _, λ v. moves a start w i here (goes (box_of a i (w.stations i)) p (release_draft i u h) seals) [] (passes u.round (locks_of left)) was is (refl, le, kept_highest u.held u.candidates) refl fair' (tt, tt) refl)
