-- One order for every ranking: lists of numbers, of which the first number that differs decides.
use Rattle.std.specs.Prelude.{◌≡◌, ℕ, Bool, true, false, ◌&&◌, ◌||◌, ◌⊎◌, List, [], ◌∷◌, ◌==◌, nat_lt}
use Rattle.base.specs.Slips.{SlipFits}
use Rattle.base.specs.declared.slips.Slip.{Slip}

abbrev pub higher : List ℕ → List ℕ → Bool
higher [] ys = false
higher (x ∷ xs) [] = true
higher (x ∷ xs) (y ∷ ys) = nat_lt y x || (x == y && higher xs ys)

abbrev pub ExactlyOne : Type 0 → Type 0 → Type 0 → Type 0
ExactlyOne P Q R = (P × (Q → ⊥) × (R → ⊥)) ⊎ (((P → ⊥) × Q × (R → ⊥)) ⊎ ((P → ⊥) × (Q → ⊥) × R))

-- the law of a ranking: of two slips one is above the other or they are one page, exactly one of these
abbrev pub Ranks : (Slip → Slip → Bool) → Type 0
Ranks above = (a b : Slip) → SlipFits a → SlipFits b → ExactlyOne (above a b ≡ true) (above b a ≡ true) (a ≡ b)

abbrev pub Transitive : (Slip → Slip → Bool) → Type 0
Transitive above = (a b c : Slip) → above a b ≡ true → above b c ≡ true → above a c ≡ true
