-- Sending a draft: does it fit after the fill, are there seals for its statements, and what stands in the outbox then.
use Rattle.std.specs.Prelude.{◌≡◌, ℕ, ◌+◌, ◌-◌, Bool, true, false, ◌⊎◌, List, [], ◌∷◌, length, take, Ok, Err, Result, nat_le}
use Rattle.base.specs.Seals.{seal_bytes}
use Rattle.base.specs.Statements.{statement_bytes}
use Rattle.base.specs.Writing.{wrote}
use Rattle.base.specs.declared.refusals.Refusal.{Refusal}
use Rattle.base.specs.declared.refusals.Refusal.TheVariants.{Misshapen, WornSealer, OutboxShort}
use Rattle.base.specs.declared.seals.Seal.{Seal}
use Rattle.base.specs.declared.statements.Statement.{Statement}
use Rattle.protocol.specs.Plans.{Draft, draft_bytes, draft_size}
use Rattle.seal.specs.Meaning.{Meaning, Stated, Unstated}
use Rattle.sending.specs.declared.sends.ChangeSeals.{ChangeSeals}

-- so many seals fewer are left, and nothing else is changed
abbrev pub spent_by : ℕ → Meaning → Meaning
spent_by k m = record { number = m.number; left = m.left - k; knows = m.knows; long = m.long }

-- a seal for each statement: of the kind's length, and recognised by the sealer itself in its own name
abbrev pub Good : Meaning → List Statement → List (List ℕ) → Type 0
Good m [] [] = Unit {0}
Good m [] (x ∷ xs) = ⊥
Good m (s ∷ ss) [] = ⊥
Good m (s ∷ ss) (x ∷ xs) = ((m.knows m.number (statement_bytes s) x ≡ true) × (length x ≡ m.long)) × Good m ss xs

-- the draft fits after the fill
abbrev pub has_room : Meaning → Draft → ℕ → List ℕ → Bool
has_room m d fill out = nat_le (fill + draft_size d m.long) (length out)

-- there is a seal for each of its statements
abbrev pub has_seals : Meaning → Draft → Bool
has_seals m d = nat_le (length d.wants) m.left

-- the message is sealed and stands after the fill
pub record Went (before after : Meaning) (d : Draft) (fill fill' : ℕ) (out out' : List ℕ) (seals : List (List ℕ)) : Type 0 where
  pub room : has_room before d fill out ≡ true
  pub enough : has_seals before d ≡ true
  pub good : Good before d.wants seals
  pub spent : after ≡ spent_by (length d.wants) before
  pub outbox : out' ≡ wrote fill (draft_bytes d seals) out
  pub filled : fill' ≡ fill + length (draft_bytes d seals)

-- it does not fit: nothing is changed
pub record Short (before after : Meaning) (d : Draft) (fill fill' : ℕ) (out out' : List ℕ) (why : Refusal) : Type 0 where
  pub full : has_room before d fill out ≡ false
  pub short : why ≡ OutboxShort
  pub unspent : after ≡ before
  pub same_outbox : out' ≡ out
  pub same_fill : fill' ≡ fill

-- the sealer wears out: the seals that were left are spent, and nothing else is changed
pub record Worn (before after : Meaning) (d : Draft) (fill fill' : ℕ) (out out' : List ℕ) (why : Refusal) : Type 0 where
  pub fits : has_room before d fill out ≡ true
  pub few : has_seals before d ≡ false
  pub worn : why ≡ WornSealer
  pub made : List (List ℕ)
  pub made_good : Good before (take before.left d.wants) made
  pub all_spent : after ≡ spent_by before.left before
  pub outbox_same : out' ≡ out
  pub fill_same : fill' ≡ fill

-- the layout has no room for it: refused with 1, and nothing is changed
pub record Unlaid (before after : Meaning) (fill fill' : ℕ) (out out' : List ℕ) (r : Result (List (List ℕ)) Refusal) : Type 0 where
  pub misshapen : r ≡ Err Misshapen
  pub no_seal_spent : after ≡ before
  pub outbox_left : out' ≡ out
  pub fill_left : fill' ≡ fill

-- what became of a draft; an accepted one gives its seals
abbrev pub Sending : Meaning → Meaning → Draft → ℕ → ℕ → List ℕ → List ℕ → Result (List (List ℕ)) Refusal → Type 0
Sending before after d fill fill' out out' (Ok seals) = Went before after d fill fill' out out' seals
Sending before after d fill fill' out out' (Err why) = Short before after d fill fill' out out' why ⊎ Worn before after d fill fill' out out' why

-- the seals that the program kept
abbrev pub one_seal : Result Seal Refusal → Result (List (List ℕ)) Refusal
one_seal (Ok s) = Ok (seal_bytes s ∷ [])
one_seal (Err why) = Err why

abbrev pub two_of : ChangeSeals → List (List ℕ)
two_of s = seal_bytes s.rchg ∷ (seal_bytes s.cand ∷ [])

abbrev pub two_seals : Result ChangeSeals Refusal → Result (List (List ℕ)) Refusal
two_seals (Ok s) = Ok (two_of s)
two_seals (Err why) = Err why

-- sealing both statements of a change: a seal on each, or the refusal of a sealer that wears out before the first or the second
pub record StatedBoth (before : Meaning) (first second : List ℕ) (after : Meaning) (seals : ChangeSeals) : Type 0 where
  pub between : Meaning
  pub one : Stated before first between (seal_bytes seals.rchg)
  pub two : Stated between second after (seal_bytes seals.cand)

pub record StatedOne (before : Meaning) (first : List ℕ) (why : Refusal) (after : Meaning) : Type 0 where
  pub between : Meaning
  pub seal : List ℕ
  pub one : Stated before first between seal
  pub none : Unstated between why after

abbrev pub StatingBoth : Meaning → List ℕ → List ℕ → Result ChangeSeals Refusal → Meaning → Type 0
StatingBoth before first second (Ok seals) after = StatedBoth before first second after seals
StatingBoth before first second (Err why) after = Unstated before why after ⊎ StatedOne before first why after
