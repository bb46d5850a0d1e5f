-- The end of a call: what is to be shown of its plan, so that all is kept.
use Rattle.std.proofs.Common.{◌≡◌, ℕ, zero, suc, ◌+◌, ◌<◌, Bool, true, cond, leb, List, [], ◌∷◌, ◌++◌, length, take, is_ok, Some, None, Ok, Err, Option, Result, sym, refl, ◌∙◌, arith}
use Rattle.std.specs.List.{AllByRecursion as All}
use Rattle.std.proofs.lemmas.Bool.{cond_both, leb-false}
use Rattle.agree.specs.Pool.{Event, Replica}
use Rattle.agree.specs.Moves.{Move, after as moved, logged, Allowed}
use Rattle.base.specs.Pools.{members}
use Rattle.base.specs.declared.refusals.Refusal.{Refusal}
use Rattle.base.specs.declared.refusals.Refusal.TheVariants.{OutboxShort}
use Rattle.base.specs.declared.slips.Mark.{Mark}
use Rattle.base.specs.declared.slips.Slip.{Slip}
use Rattle.base.specs.declared.statements.Statement.{Statement}
use Rattle.protocol.specs.Plans.{Draft, Plan, Done, unless, draft_size, refusing, quiet, goes, wears, carried, settled}
use Rattle.protocol.specs.Rounds.{plainly}
use Rattle.protocol.specs.Runs.{Assembly, World, as_pool, box_of, stated_in}
use Rattle.protocol.specs.State.{View}
use Rattle.protocol.proofs.Keeping.{look, look_at, Fair, Good, onto, moves_on, stays_on}
use Rattle.protocol.proofs.Seals.{Borne, Silent, SilentAll}

-- what holds of the plan, unless the call is refused
pub data Passing {P : Type 0} (Q : P → Type 0) : Result P Refusal → Type 0 where
  passes : {p : P} → Q p → Passing Q (Ok p)
  refuses : {why : Refusal} → Passing Q (Err why)

-- a test that passed is known to have passed
pub passing : {P : Type 0} (Q : P → Type 0) (test : Bool) (why : Refusal) (rest : Result P Refusal) → (test ≡ true → Passing Q rest) → Passing Q (unless test why rest)
passing Q test why rest f = cond_both test rest (Err why) (Passing Q) f (λ e. refuses)

-- as long as a statement is missing, what was sealed is neither a candidate nor a commit
abbrev pub Late : Option Draft → Type 0
Late None = Unit {0}
Late (Some d) = (k : ℕ) → k < length d.wants → SilentAll (take k d.wants)

pub late_one : (s : Statement) (k : ℕ) → k < 1 → SilentAll (take k (s ∷ []))
late_one s zero h = tt
late_one s (suc k) h = absurd (omega arith)

pub late_two : (s u : Statement) → Silent s.word → (k : ℕ) → k < 2 → SilentAll (take k (s ∷ u ∷ []))
late_two s u silent zero h = tt
late_two s u silent (suc zero) h = (silent, tt)
late_two s u silent (suc (suc k)) h = absurd (omega arith)

-- the pool after the outcome of a call other than opening
abbrev pub landed : {X : Type 0} → World → ℕ → Done X → List (Event Slip Mark) → World
landed w i d deeds =
    onto w i (record { live = true; settings = (w.stations i).settings; view = d.view; left = d.left }) d.sealed (cond (is_ok d.answer) deeds [])

-- a sound member of the pool, whose replica is open, and all that is kept so far
pub record Here (a : Assembly) (start : ℕ → Replica Slip Mark) (w : World) (i : ℕ) : Type 0 where
  pub good : Good a start w
  pub low : i < members a.pool
  pub sound : a.sound i ≡ true
  pub live : (w.stations i).live ≡ true

module _ (a : Assembly) (start : ℕ → Replica Slip Mark) (w : World) (i : ℕ) (here : Here a start w i) where
  pub pool_is : (w.stations i).settings.pool ≡ a.pool
  pool_is = here.good.pools i here.live

  pub fair_is : Fair (members a.pool) (w.stations i).view
  fair_is = here.good.fair i here.live

  look_is : look i (w.stations i) ≡ look_at i (w.stations i).view
  look_is = λ t. look i (record { live = here.live t; settings = (w.stations i).settings; view = (w.stations i).view; left = (w.stations i).left })

  -- nothing that agreement sees is changed
  pub stays : {X : Type 0} (d : Done X) (deeds : List (Event Slip Mark))
      → look_at i d.view ≡ look_at i (w.stations i).view
      → Fair (members a.pool) d.view
      → SilentAll d.sealed
      → cond (is_ok d.answer) deeds [] ≡ []
      → Good a start (landed w i d deeds)
  stays d deeds same fair silent none =
      stays_on a start w i here.good (record { live = true; settings = (w.stations i).settings; view = d.view; left = d.left }) d.sealed (cond (is_ok d.answer) deeds [])
      (same ∙ sym look_is) pool_is fair silent none

  -- one move is made
  pub moves : {X : Type 0} (d : Done X) (deeds : List (Event Slip Mark)) (m : Move Slip Mark) (was : Replica Slip Mark)
      → look_at i (w.stations i).view ≡ was
      → Allowed (as_pool a) i was w.events m
      → look_at i d.view ≡ moved (as_pool a) was m
      → Fair (members a.pool) d.view
      → All (λ (x : Statement). Borne i (logged (as_pool a) i was m ++ w.events) x.word x) d.sealed
      → stated_in i d.sealed ++ (cond (is_ok d.answer) deeds [] ++ w.events) ≡ logged (as_pool a) i was m ++ w.events
      → Good a start (landed w i d deeds)
  moves d deeds m was is allowed next fair borne log =
      moves_on a start w i here.good (record { live = true; settings = (w.stations i).settings; view = d.view; left = d.left }) d.sealed (cond (is_ok d.answer) deeds []) m was
      here.low here.sound (look_is ∙ is) allowed next pool_is fair borne log

  -- what is to be shown of a plan; V is what may be taken for granted of a call that is accepted
  abbrev pub LandsBy : {X : Type 0} → List (Event Slip Mark) → List (List ℕ) → Plan X → Option Draft → Type 0
  LandsBy deeds seals p None = Good a start (landed w i (quiet (box_of a i (w.stations i)) p) deeds)
  LandsBy deeds seals p (Some d) = Good a start (landed w i (goes (box_of a i (w.stations i)) p d seals) deeds)

  abbrev pub Lands : {X : Type 0} → Type 0 → List (Event Slip Mark) → List (List ℕ) → Plan X → Type 0
  Lands V deeds seals p = Late p.draft × (V → LandsBy deeds seals p p.draft)

  -- a plan that changes nothing that agreement sees, and writes nothing
  pub plain_lands : {X : Type 0} (V : Type 0) (seals : List (List ℕ)) (x : X) (u : View) → look_at i u ≡ look_at i (w.stations i).view → Fair (members a.pool) u → Lands V [] seals (plainly x u)
  plain_lands V seals x u same fair = (tt, λ v. stays (quiet (box_of a i (w.stations i)) (plainly x u)) [] same fair tt refl)

  module _ (X V : Type 0) (deeds : List (Event Slip Mark)) (fill size : ℕ) (seals : List (List ℕ)) where
    -- an outcome keeps all, if what may be taken for granted of accepted calls is
    abbrev Keeps : Done X → Type 0
    Keeps d = (is_ok d.answer ≡ true → V) → Good a start (landed w i d deeds)

    refused_keeps : (why : Refusal) → Keeps (refusing (box_of a i (w.stations i)) why)
    refused_keeps why v = stays {X = X} (refusing (box_of a i (w.stations i)) why) deeds refl fair_is tt refl

    carried_keeps : (p : Plan X) (o : Option Draft) → Late o → (V → LandsBy deeds seals p o) → Keeps (carried (box_of a i (w.stations i)) fill size p o seals)
    carried_keeps p None late f = λ v. f (v refl)
    carried_keeps p (Some d) late f =
        cond_both (leb (fill + draft_size d (a.long i)) size)
        (cond (leb (length d.wants) (w.stations i).left) (goes (box_of a i (w.stations i)) p d seals) (wears (box_of a i (w.stations i)) d))
        (refusing (box_of a i (w.stations i)) OutboxShort) Keeps
        (λ fits.
        cond_both (leb (length d.wants) (w.stations i).left) (goes (box_of a i (w.stations i)) p d seals) (wears (box_of a i (w.stations i)) d) Keeps
        (λ e v. f (v refl))
        (λ e v. stays {X = X} (wears (box_of a i (w.stations i)) d) deeds refl fair_is (late (w.stations i).left (leb-false _ _ e)) refl))
        (λ short. refused_keeps OutboxShort)

    pub settles : (judged : Result (Plan X) Refusal) → Passing (Lands V deeds seals) judged → Keeps (settled (box_of a i (w.stations i)) fill size judged seals)
    settles (Err why) refuses = refused_keeps why
    settles (Ok p) (passes f) = carried_keeps p p.draft f.0 f.1
