-- What a replica holds, and what it is given for good: settings, a sealer, a rulebook.
use Rattle.std.specs.Prelude.{ℕ, ◌+◌, ◌*◌, Bool, true, false, cond, ◌&&◌, List, [], ◌∷◌, replicate, Some, None, Option, ◌==◌, nat_le, nat_lt}
use Rattle.base.specs.Pools.{members, height_in_range}
use Rattle.base.specs.declared.pools.Pool.{Pool}
use Rattle.base.specs.declared.slips.Mark.{Mark}
use Rattle.base.specs.declared.slips.Slip.{Slip}
use Rattle.base.specs.declared.stages.Stage.{Stage}
use Rattle.base.specs.declared.stages.Stage.TheVariants.{Resting}
use Rattle.seal.specs.Meaning.{Meaning}
use Rattle.std.specs.Str.{bytes_eq}

-- the pool's size, where the book begins, and the times of the stages in ticks
pub record Settings : Type 0 where
  pub pool : Pool
  pub start_height : ℕ
  pub start_mark : Mark
  pub d0 : ℕ
  pub d1 : ℕ
  pub d2 : ℕ
  pub d3 : ℕ
  pub g : ℕ

-- a time is from 1 to 60,000 ticks
abbrev pub timely : ℕ → Bool
timely d = nat_le 1 d && nat_le d 60000

-- every settings value keeps these limits
abbrev pub settings_lawful : Settings → Bool
settings_lawful s =
    height_in_range (record { 0 = s.start_height })
    && (timely s.d0 && (timely s.d1 && (timely s.d2 && (timely s.d3 && (timely s.g && nat_lt s.g s.d1)))))

-- in a round above 0 the times of locking, committing and releasing are as many times as long
abbrev pub grown : ℕ → ℕ → ℕ
grown d round = cond (round == 0) d (d * round)

-- a slip that the replica knows of, and the round in which it is locked, or none
pub record Candidate : Type 0 where
  pub slip : Slip
  pub lock : Option ℕ

-- the latest statement of a member: its round, the page that it names or none, and its two seals
pub record Latest : Type 0 where
  pub round : ℕ
  pub page : Option Slip
  pub rchg : List ℕ
  pub cand : List ℕ

-- the lock message that is held: its slip, its round, its bytes
pub record Held : Type 0 where
  pub slip : Slip
  pub round : ℕ
  pub bytes : List ℕ

-- what a replica holds; `latest` has a place for each member
pub record View : Type 0 where
  pub height : ℕ
  pub last : Mark
  pub round : ℕ
  pub stage : Stage
  pub ticks : ℕ
  pub candidates : List Candidate
  pub held : Option Held
  pub latest : List (Option Latest)
  pub turned : Bool

-- what a rulebook answers: whether a slip is admitted at a height, whether one slip ranks above another
pub record Rules : Type 0 where
  pub admits : ℕ → Slip → Bool
  pub above : Slip → Slip → Bool

-- a replica with its settings, its sealer's meaning and its rulebook's
pub record Box : Type 0 where
  pub settings : Settings
  pub sealer : Meaning
  pub rules : Rules
  pub view : View

-- resting in round 0 with nothing held
abbrev pub fresh : Pool → ℕ → Mark → View
fresh pool height mark =
    record {
      height = height;
      last = mark;
      round = 0;
      stage = Resting;
      ticks = 0;
      candidates = [];
      held = None;
      latest = replicate (members pool) None;
      turned = false;
    }

abbrev pub first_view : Settings → View
first_view s = fresh s.pool s.start_height s.start_mark

-- two slips are one page
abbrev pub one_page : Slip → Slip → Bool
one_page a b =
    bytes_eq a.parent.0 b.parent.0
    && (bytes_eq a.own.0 b.own.0 && (a.lots == b.lots && a.maker == b.maker))

-- two pages, each a slip or none
abbrev pub same_page : Option Slip → Option Slip → Bool
same_page None None = true
same_page None (Some b) = false
same_page (Some a) None = false
same_page (Some a) (Some b) = one_page a b

-- how many of a list pass a test
abbrev pub tally : {X : Type 0} → (X → Bool) → List X → ℕ
tally test [] = 0
tally test (x ∷ xs) = cond (test x) 1 0 + tally test xs
