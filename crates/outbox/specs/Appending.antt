-- Appending a message to an outbox after its fill.
use Rattle.std.specs.Prelude.{◌≡◌, ℕ, ◌+◌, ◌≤◌, Bool, cond, List, length, is_ok, Ok, Err, Result, nat_le}
use Rattle.base.specs.Writing.{wrote}
use Rattle.base.specs.declared.refusals.Refusal.{Refusal}
use Rattle.base.specs.declared.refusals.Refusal.TheVariants.{Misshapen, OutboxShort}

-- the bytes fit after the fill
abbrev pub fits : ℕ → ℕ → ℕ → Bool
fits fill n size = nat_le (fill + n) size

-- refused where the layout has no room for the fields, then where the outbox has none
abbrev pub appends : Bool → ℕ → List ℕ → List ℕ → Result (Unit {0}) Refusal
appends lays fill bytes out = cond lays (cond (fits fill (length bytes) (length out)) (Ok tt) (Err OutboxShort)) (Err Misshapen)

-- a writer's outcome: the answer, every byte of the outbox, and the fill
pub record Appended (lays : Bool) (bytes : List ℕ) (fill fill' : ℕ) (out out' : List ℕ) (r : Result (Unit {0}) Refusal) : Type 0 where
  pub answer : r ≡ appends lays fill bytes out
  pub outbox : out' ≡ cond (is_ok r) (wrote fill bytes out) out
  pub filled : fill' ≡ cond (is_ok r) (fill + length bytes) fill

-- one piece of a draft: where it fits it stands after the fill, which moves behind it
pub record Adds (fill fill' : ℕ) (bytes out out' : List ℕ) : Type 0 where
  pub stands : fill + length bytes ≤ length out → out' ≡ wrote fill bytes out
  pub moved : fill + length bytes ≤ length out → fill' ≡ fill + length bytes
