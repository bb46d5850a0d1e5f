-- Laws of the calls and of runs, in the words of the subject.
use Rattle.std.specs.Prelude.{◌≡◌, ℕ, ◌<◌, ◌≤◌, true, false, ◌⊎◌, List, ◌∷◌, is_ok, None, Option, Result}
use Rattle.agree.specs.Lists.{In}
use Rattle.agree.specs.Pool.{Event.stated, Event.committed}
use Rattle.base.specs.declared.refusals.Refusal.{Refusal}
use Rattle.base.specs.declared.slips.Slip.{Slip}
use Rattle.protocol.specs.Plans.{Plan, settled}
use Rattle.protocol.specs.Runs.{Assembly, Station, Act, played, LawfulRun}
use Rattle.protocol.specs.State.{View, Box}

-- a replica states one page, or none, in one height and round, for ever
abbrev pub StatesOnce : Type 0
StatesOnce =
    (a : Assembly) (start : ℕ → Station) (run : List Act) → LawfulRun a start run
    → (i h r : ℕ) (c d : Option Slip) → In (stated i h r c) (played a start run).events → In (stated i h r d) (played a start run).events → c ≡ d

-- sound replicas commit to one page in one height and round, each of them and all of them
abbrev pub CommitsOnce : Type 0
CommitsOnce =
    (a : Assembly) (start : ℕ → Station) (run : List Act) → LawfulRun a start run
    → (i j h r : ℕ) (p q : Slip) → In (committed i h r p) (played a start run).events → In (committed j h r q) (played a start run).events → p ≡ q

-- a refused call changes nothing but the seals that it spent, and writes no message; whatever was judged
abbrev pub RefusedUnchanged : Type 0 → Type 0
RefusedUnchanged X =
    (b : Box) (fill size : ℕ) (judged : Result (Plan X) Refusal) (seals : List (List ℕ)) → is_ok (settled b fill size judged seals).answer ≡ false
    → ((settled b fill size judged seals).view ≡ b.view) × ((settled b fill size judged seals).wrote ≡ None)

-- a later height, or the same height and a round that is not below
abbrev pub Onward : View → View → Type 0
Onward v u = (v.height < u.height) ⊎ ((v.height ≡ u.height) × (v.round ≤ u.round))

-- height and round never go back, whatever is called
abbrev pub NeverBack : Type 0
NeverBack =
    (a : Assembly) (start : ℕ → Station) (run : List Act) (act : Act) → LawfulRun a start (act ∷ run)
    → ((played a start run).stations act.who).live ≡ true
    → Onward ((played a start run).stations act.who).view ((played a start (act ∷ run)).stations act.who).view
