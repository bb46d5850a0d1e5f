-- Runs of a pool: any list of calls on the replicas of its sound members.
use Rattle.std.specs.Prelude.{◌≡◌, ℕ, ◌<◌, ◌≤◌, Bool, true, false, cond, not, List, [], ◌∷◌, ◌++◌, map, is_ok, Some, None, Option, ◌==◌}
use Rattle.agree.specs.Lists.{In, count}
use Rattle.agree.specs.Pool.{Pool as AbstractPool, Event, Event.opened, Event.stated, Event.took, Event.committed, Event.entered}
use Rattle.agree.specs.Agreement.{Agreed}
use Rattle.base.specs.Numbers.{Bytes}
use Rattle.base.specs.Pools.{members, tolerance}
use Rattle.base.specs.Slips.{SlipFits}
use Rattle.base.specs.Statements.{statement_bytes}
use Rattle.base.specs.declared.pools.Pool.{Pool}
use Rattle.base.specs.declared.slips.Mark.{Mark}
use Rattle.base.specs.declared.slips.Slip.{Slip}
use Rattle.base.specs.declared.statements.Statement.{Statement}
use Rattle.base.specs.declared.statements.Word.{Word}
use Rattle.base.specs.declared.statements.Word.TheVariants.{Rchg, Cand, Cmit, Lock, Slct, Dcid, Rlse}
use Rattle.message.specs.Contents.{Content, change, lock, select, commit, decide, release, Sent}
use Rattle.message.specs.RoundTrip.{fields}
use Rattle.protocol.specs.Calls.{judge_offer, judge_begin, judge_tick}
use Rattle.protocol.specs.Judging.{Check, checks_of, recognised, round_in, outranks}
use Rattle.protocol.specs.Messages.{judge_message}
use Rattle.protocol.specs.Plans.{Done, settled}
use Rattle.protocol.specs.State.{Settings, View, Rules, Box, settings_lawful, first_view}
use Rattle.protocol.specs.Turns.{Gathering, Counting, Records, judge_opening, judge_forward, judge_commit, judge_closing}
use Rattle.std.specs.List.{AllByRecursion}

-- A pool: its size, which members are sound, at most t of them not; and for each member what its own checker
-- recognises, how long its seals are, and its own rulebook. They need not be the same.
pub record Assembly : Type 0 where
  pub pool : Pool
  pub sound : ℕ → Bool
  pub few : count (λ i. not (sound i)) (members pool) ≤ tolerance pool
  pub knows : ℕ → ℕ → List ℕ → List ℕ → Bool
  pub long : ℕ → ℕ
  pub rules : ℕ → Rules

-- the calls, with arguments of any kind
pub data Call : Type 0 where
  -- opens the replica
  opens : Settings → Call
  offers : Slip → Call
  begins : Call
  ticks : ℕ → Call
  -- hands it a message
  takes : List ℕ → Call
  -- the leader's turn
  turns : Call
  forwards : Gathering → Records → Call
  counts : Counting → Records → List ℕ → Call
  closes : Counting → Records → Call

-- a call on a member's replica, the fill and the size of the outbox lent to it, and the seals that its sealer makes
pub record Act : Type 0 where
  pub who : ℕ
  pub call : Call
  pub fill : ℕ
  pub size : ℕ
  pub seals : List (List ℕ)

-- a member's replica: whether it was opened, with which settings, what it holds, how many seals are left
pub record Station : Type 0 where
  pub live : Bool
  pub settings : Settings
  pub view : View
  pub left : ℕ

-- every member's replica; every statement that a sound member sealed, as bytes; and what the replicas did.
-- The latest stands first.
pub record World : Type 0 where
  pub stations : ℕ → Station
  pub sealed : List (ℕ × List ℕ)
  pub events : List (Event Slip Mark)

module _ (a : Assembly) where
  -- the replica of member i as its calls see it: its sealer has the member's number
  abbrev pub box_of : ℕ → Station → Box
  box_of i s = record { settings = s.settings; sealer = record { number = i; left = s.left; knows = a.knows i; long = a.long i }; rules = a.rules i; view = s.view }

-- what is left of a call's outcome for the pool: whether it was accepted, the state, the seals left, what was sealed
pub record Step : Type 0 where
  pub accepted : Bool
  pub view : View
  pub left : ℕ
  pub sealed : List Statement

abbrev pub step_of : {X : Type 0} → Done X → Step
step_of d = record { accepted = is_ok d.answer; view = d.view; left = d.left; sealed = d.sealed }

-- the defined outcome of a call
abbrev pub step_by : Box → Act → Call → Step
step_by b act (opens s) = record { accepted = true; view = first_view s; left = b.sealer.left; sealed = [] }
step_by b act (offers s) = step_of (settled b act.fill act.size (judge_offer b s) act.seals)
step_by b act begins = step_of (settled b act.fill act.size (judge_begin b) act.seals)
step_by b act (ticks k) = step_of (settled b act.fill act.size (judge_tick b k) act.seals)
step_by b act (takes m) = step_of (settled b act.fill act.size (judge_message b m) act.seals)
step_by b act turns = step_of (settled b act.fill act.size (judge_opening b) act.seals)
step_by b act (forwards t rs) = step_of (settled b act.fill act.size (judge_forward b t rs) act.seals)
step_by b act (counts t rs m) = step_of (settled b act.fill act.size (judge_commit b t rs m) act.seals)
step_by b act (closes t rs) = step_of (settled b act.fill act.size (judge_closing b t rs) act.seals)

-- what the replicas did ---------------------------------------------------------------------------------------------

-- a sealed candidate is a statement of the member
abbrev pub stated_by : ℕ → Word → Statement → List (Event Slip Mark)
stated_by i Rchg s = []
stated_by i Cand s = stated i s.height.0 s.round.0 s.page ∷ []
stated_by i Cmit s = []
stated_by i Lock s = []
stated_by i Slct s = []
stated_by i Dcid s = []
stated_by i Rlse s = []

abbrev pub stated_in : ℕ → List Statement → List (Event Slip Mark)
stated_in i [] = []
stated_in i (s ∷ ss) = stated_in i ss ++ stated_by i s.word s

-- an accepted lock is taken and committed to, an accepted decide enters its page, and a release that is above every
-- lock held brings its lock
abbrev pub deeds_by : ℕ → View → Sent (List ℕ) → Content (List ℕ) → List (Event Slip Mark)
deeds_by i v s (change page x y) = []
deeds_by i v s (lock c) = committed i v.height (round_in s.head) c.slip ∷ (took i v.height (round_in s.head) c.slip ∷ [])
deeds_by i v s (select c) = []
deeds_by i v s (commit p x) = []
deeds_by i v s (decide c) = entered i v.height c.slip ∷ []
deeds_by i v s (release l inner y) = cond (outranks v inner) (took i v.height (round_in inner.head) inner.cert.slip ∷ []) []

abbrev pub deeds_of : ℕ → View → Option (Sent (List ℕ)) → List (Event Slip Mark)
deeds_of i v None = []
deeds_of i v (Some s) = deeds_by i v s s.content

abbrev pub deeds : Assembly → ℕ → Station → Call → List (Event Slip Mark)
deeds a i st (opens s) = opened i s.start_height s.start_mark ∷ []
deeds a i st (offers s) = []
deeds a i st begins = []
deeds a i st (ticks k) = []
deeds a i st (takes m) = deeds_of i st.view (fields st.settings.pool (a.long i) m)
deeds a i st turns = []
deeds a i st (forwards t rs) = []
deeds a i st (counts t rs m) = []
deeds a i st (closes t rs) = []

-- one call ----------------------------------------------------------------------------------------------------------

-- the settings of the replica after a call
abbrev pub settings_by : Settings → Call → Settings
settings_by s (opens n) = n
settings_by s (offers x) = s
settings_by s begins = s
settings_by s (ticks k) = s
settings_by s (takes m) = s
settings_by s turns = s
settings_by s (forwards t rs) = s
settings_by s (counts t rs m) = s
settings_by s (closes t rs) = s

module _ (a : Assembly) where
  abbrev pub step_at : World → Act → Step
  step_at w act = step_by (box_of a act.who (w.stations act.who)) act act.call

  abbrev pub station_after : World → Act → Station
  station_after w act = record { live = true; settings = settings_by (w.stations act.who).settings act.call; view = (step_at w act).view; left = (step_at w act).left }

  -- the pool after a call: the replica as the call leaves it, and the logs with what was sealed and done
  abbrev pub after : World → Act → World
  after w act =
      record {
        stations = λ j. cond (j == act.who) (station_after w act) (w.stations j);
        sealed = map (λ s. (act.who, statement_bytes s)) (step_at w act).sealed ++ w.sealed;
        events = stated_in act.who (step_at w act).sealed
            ++ (cond (step_at w act).accepted (deeds a act.who (w.stations act.who) act.call) [] ++ w.events);
      }

  -- a statement in a sound member's name was sealed by that member
  abbrev pub SealedBefore : List (ℕ × List ℕ) → Check → Type 0
  SealedBefore log k = (k.signer < members a.pool) → (a.sound k.signer ≡ true) → In (k.signer, statement_bytes k.statement) log

  abbrev pub Vouched : ℕ → List (ℕ × List ℕ) → Option (Sent (List ℕ)) → Type 0
  Vouched i log None = Unit {0}
  Vouched i log (Some s) = AllByRecursion (λ (k : Check). recognised (a.knows i) k ≡ true → SealedBefore log k) (checks_of s.head s.content)

  -- the premise on seals, at an accepted message: every statement in it, the lock inside a release included, in a
  -- sound member's name and under a seal that the checker of the member called recognises, was sealed by that member
  -- before
  abbrev pub Honest : World → Act → List ℕ → Type 0
  Honest w act m = (step_at w act).accepted ≡ true → Vouched act.who w.sealed (fields a.pool (a.long act.who) m)

  -- what is asked of a call: a replica is opened once, with lawful settings of the pool's size, and before any other call;
  -- slips and messages are values that the program can have
  abbrev pub Fitting : World → Act → Call → Type 0
  Fitting w act (opens s) = ((w.stations act.who).live ≡ false) × ((settings_lawful s ≡ true) × (s.pool ≡ a.pool))
  Fitting w act (offers s) = ((w.stations act.who).live ≡ true) × SlipFits s
  Fitting w act begins = (w.stations act.who).live ≡ true
  Fitting w act (ticks k) = (w.stations act.who).live ≡ true
  Fitting w act (takes m) = ((w.stations act.who).live ≡ true) × (Bytes m × Honest w act m)
  Fitting w act turns = (w.stations act.who).live ≡ true
  Fitting w act (forwards t rs) = (w.stations act.who).live ≡ true
  Fitting w act (counts t rs m) = ((w.stations act.who).live ≡ true) × (Bytes m × Honest w act m)
  Fitting w act (closes t rs) = (w.stations act.who).live ≡ true

  -- the pool after a run, whose latest call stands first
  abbrev pub played : (ℕ → Station) → List Act → World
  played start [] = record { stations = start; sealed = []; events = [] }
  played start (act ∷ run) = after (played start run) act

  -- every call is on the replica of a sound member, and fits
  abbrev pub LawfulRun : (ℕ → Station) → List Act → Type 0
  LawfulRun start [] = (i : ℕ) → (start i).live ≡ false
  LawfulRun start (act ∷ run) =
      LawfulRun start run × ((act.who < members a.pool) × ((a.sound act.who ≡ true) × Fitting (played start run) act act.call))

  -- the pool in the words of agreement
  abbrev pub as_pool : AbstractPool Slip Mark
  as_pool =
      record {
        t = tolerance a.pool;
        sound = a.sound;
        few = a.few;
        admits = λ i h s. (a.rules i).admits h s;
        own = λ s. s.own;
        parent = λ s. s.parent;
      }

-- After every run of every pool: pages entered at one height are one page; t + 1 sound members' rulebooks admit an
-- entered page, which stands on the page below it; and t + 1 sound commits bind all later locks of the height.
abbrev pub AgreementOfReplicas : Type 0
AgreementOfReplicas = (a : Assembly) (start : ℕ → Station) (run : List Act) → LawfulRun a start run → Agreed (as_pool a) (played a start run).events
