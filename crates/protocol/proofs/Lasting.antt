-- The laws in the words of the subject.
use Rattle.std.proofs.Common.{◌≡◌, ℕ, ◌+◌, Bool, true, false, cond, leb, List, length, is_ok, Some, None, Ok, Err, Option, refl, arith}
use Rattle.agree.proofs.Reached.{reached_facts, reached_commits}
use Rattle.base.specs.declared.refusals.Refusal.TheVariants.{OutboxShort}
use Rattle.protocol.proofs.Keeping.{look}
use Rattle.protocol.proofs.Whole.{good_run}
use Rattle.protocol.specs.Plans.{Plan, Draft, Done, draft_size, refusing, goes, wears, carried}
use Rattle.protocol.specs.Runs.{as_pool, played}
use Rattle.protocol.specs.State.{Box}
use Rattle.protocol.specs.Subject.{StatesOnce, CommitsOnce, RefusedUnchanged}

pub states_once_lem : StatesOnce
states_once_lem a start run lawful i h r c d =
    (reached_facts (as_pool a) (λ j. look j (start j)) (λ j. look j ((played a start run).stations j)) (played a start run).events (good_run a start run lawful).reached i).stated_one h r c d

pub commits_once_lem : CommitsOnce
commits_once_lem a start run lawful i j h r p q =
    reached_commits (as_pool a) (λ j. look j (start j)) (λ j. look j ((played a start run).stations j)) (played a start run).events (good_run a start run lawful).reached i j h r p q

never : {P : Type 0} → true ≡ false → P
never e = absurd (let z : ◌≡◌ {A = ℕ} 0 1 = cc in omega arith)

-- an outcome that leaves the state alone, or is no refusal
abbrev Still : {X : Type 0} → Box → Done X → Type 0
Still b d = is_ok d.answer ≡ false → (d.view ≡ b.view) × (d.wrote ≡ None)

module _ {X : Type 0} (b : Box) (p : Plan X) where
  by_seals : (d : Draft) (seals : List (List ℕ)) (enough : Bool) → Still b (cond enough (goes b p d seals) (wears b d))
  by_seals d seals true = λ e. never e
  by_seals d seals false = λ e. (refl, refl)

  by_room : (d : Draft) (seals : List (List ℕ)) (room enough : Bool) → Still b (cond room (cond enough (goes b p d seals) (wears b d)) (refusing {X = X} b OutboxShort))
  by_room d seals true enough = by_seals d seals enough
  by_room d seals false enough = λ e. (refl, refl)

  by_draft : (fill size : ℕ) (o : Option Draft) (seals : List (List ℕ)) → Still b (carried b fill size p o seals)
  by_draft fill size None seals = λ e. never e
  by_draft fill size (Some d) seals = by_room d seals (leb (fill + draft_size d b.sealer.long) size) (leb (length d.wants) b.sealer.left)

pub refused_unchanged_lem : (X : Type 0) → RefusedUnchanged X
refused_unchanged_lem X b fill size (Err why) seals e = (refl, refl)
refused_unchanged_lem X b fill size (Ok p) seals e = by_draft b p fill size p.draft seals e
