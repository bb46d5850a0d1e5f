-- What a sealer means to the pool, and what one sealing does.
use Rattle.std.specs.Prelude.{◌≡◌, ℕ, ◌-◌, ◌<◌, Bool, true, cond, List, length, take, drop, Some, None, Ok, Err, Option, Result, ◌==◌, nat_lt}
use Rattle.base.specs.Seals.{seal_bytes}
use Rattle.base.specs.declared.seals.Seal.{Seal}
use Rattle.base.specs.declared.refusals.Refusal.{Refusal}
use Rattle.base.specs.declared.refusals.Refusal.TheVariants.{WornSealer, OutboxShort}

-- a sealer: in whose name it seals, how many seals are left, which seals it recognises (by the
-- member's number, the statement's bytes and the seal's bytes), and how many bytes a seal has
pub record Meaning : Type 0 where
  pub number : ℕ
  pub left : ℕ
  pub knows : ℕ → List ℕ → List ℕ → Bool
  pub long : ℕ

-- the holder of a ring of keys: its kind says what a holder of these keys and that number recognises, and how
-- long a seal is
abbrev pub keyed : (List (List ℕ) → ℕ → ℕ → List ℕ → List ℕ → Bool) → ℕ → List (List ℕ) → ℕ → ℕ → Meaning
keyed knows long keys own left = record { number = own; left = left; knows = knows keys own; long = long }

-- one seal fewer is left, and nothing else is changed
abbrev pub spent : Meaning → Meaning
spent m = record { number = m.number; left = m.left - 1; knows = m.knows; long = m.long }

-- sealing is refused where no seal is left, and else where the seal finds no room
abbrev pub refused : Meaning → List ℕ → Option Refusal
refused m out = cond (m.left == 0) (Some WornSealer) (cond (nat_lt (length out) m.long) (Some OutboxShort) None)

-- a seal was made: it stands, whole, at the front of the buffer, the rest of which is as it was; the sealer
-- itself recognises it in its own name; and one seal is spent
pub record Made (before : Meaning) (statement out : List ℕ) (after : Meaning) (written : List ℕ) : Type 0 where
  pub went : refused before out ≡ None
  pub whole : length (take before.long written) ≡ before.long
  pub sound : before.knows before.number statement (take before.long written) ≡ true
  pub rest : drop before.long written ≡ drop before.long out
  pub worn : after ≡ spent before

-- a refused sealing changed nothing
pub record Unmade (before : Meaning) (out : List ℕ) (why : Refusal) (after : Meaning) (written : List ℕ) : Type 0 where
  pub because : refused before out ≡ Some why
  pub same : written ≡ out
  pub unworn : after ≡ before

abbrev pub Sealing : {X : Type 0} → Meaning → List ℕ → List ℕ → Result X Refusal → Meaning → List ℕ → Type 0
Sealing before statement out (Ok _) after written = Made before statement out after written
Sealing before statement out (Err why) after written = Unmade before out why after written

-- sealing into a kept seal, for which there is always room: a seal of the kind's length that the sealer
-- itself recognises in its own name, or the refusal of a worn sealer
pub record Stated (before : Meaning) (statement : List ℕ) (after : Meaning) (seal : List ℕ) : Type 0 where
  pub any : 0 < before.left
  pub sound : before.knows before.number statement seal ≡ true
  pub whole : length seal ≡ before.long
  pub worn : after ≡ spent before

pub record Unstated (before : Meaning) (why : Refusal) (after : Meaning) : Type 0 where
  pub none : before.left ≡ 0
  pub because : why ≡ WornSealer
  pub unworn : after ≡ before

abbrev pub Stating : Meaning → List ℕ → Result Seal Refusal → Meaning → Type 0
Stating before statement (Ok seal) after = Stated before statement after (seal_bytes seal)
Stating before statement (Err why) after = Unstated before why after
