-- How a call of the program ends: everything is the defined outcome of the call, at some seals that are the sealer's own.
use Rattle.std.specs.Prelude.{◌≡◌, ℕ, ◌+◌, List, [], length, Some, None, Option, Result}
use Rattle.base.specs.Writing.{wrote}
use Rattle.base.specs.declared.refusals.Refusal.{Refusal}
use Rattle.protocol.specs.Plans.{Plan, Done, settled}
use Rattle.protocol.specs.State.{View, Box}
use Rattle.sending.specs.Sending.{Good}

-- the outbox with a message after the fill, or as it was
abbrev pub appended : ℕ → Option (List ℕ) → List ℕ → List ℕ
appended fill None out = out
appended fill (Some m) out = wrote fill m out

abbrev pub filled_by : ℕ → Option (List ℕ) → ℕ
filled_by fill None = fill
filled_by fill (Some m) = fill + length m

-- a replica that holds something else and has other seals left; its settings, its rulebook and what its sealer
-- recognises stay
abbrev pub left_as : Box → View → ℕ → Box
left_as b v left =
    record {
      settings = b.settings;
      sealer = record { number = b.sealer.number; left = left; knows = b.sealer.knows; long = b.sealer.long };
      rules = b.rules;
      view = v;
    }

-- answer, replica, outbox and fill are those of the defined end
pub record Ends {X : Type 0} (before after : Box) (fill fill' : ℕ) (out out' : List ℕ) (r : Result X Refusal) (d : Done X) : Type 0 where
  pub answers : r ≡ d.answer
  pub leaves : after ≡ left_as before d.view d.left
  pub writes : out' ≡ appended fill d.wrote out
  pub fills : fill' ≡ filled_by fill d.wrote

-- there are seals, one for each statement that was sealed, recognised by the sealer in its own name and of its kind's
-- length, with which the call ends as defined
pub record Outcome {X : Type 0} (before after : Box) (fill fill' : ℕ) (out out' : List ℕ) (judged : Result (Plan X) Refusal) (r : Result X Refusal) : Type 0 where
  pub seals : List (List ℕ)
  pub good : Good before.sealer (settled before fill (length out) judged seals).sealed seals
  pub ends : Ends before after fill fill' out out' r (settled before fill (length out) judged seals)

-- what a call makes of a replica is the outcome of its judge, with the outbox and the fill that are lent to it
abbrev pub Does : {C X : Type 0} → (C → Box) → C → C → ℕ → ℕ → List ℕ → List ℕ → (Box → Result (Plan X) Refusal) → Result X Refusal → Type 0
Does boxed before after fill fill' out out' judge r = Outcome (boxed before) (boxed after) fill fill' out out' (judge (boxed before)) r

-- the same of a call to which no outbox is lent
abbrev pub DoesAlone : {C X : Type 0} → (C → Box) → C → C → (Box → Result (Plan X) Refusal) → Result X Refusal → Type 0
DoesAlone boxed before after judge r = Does boxed before after 0 0 [] [] judge r
