-- Showing what the moves ask: locks that are left, and members of a certificate. Assumes nothing.
use Rattle.std.proofs.Common.{ℕ, ◌<◌, ◌≤◌, ◌≢◌, List, [], ◌∷◌, sym, refl, subst, inl, inr, arith}
use Rattle.std.specs.List.{AllByRecursion as All}
use Rattle.std.proofs.ByRecursion.{All-weaker}
use Rattle.agree.specs.Lists.{In, Distinct}
use Rattle.agree.specs.Pool.{Lock}
use Rattle.agree.specs.Moves.{Kept}
use Rattle.agree.proofs.Log.{all_from_in}

module _ {P : Type 0} where
  pub kept_from : (old ls : List (Lock P)) → ((l : Lock P) → In l ls → In l old) → ((o : Lock P) → In o old → (l : Lock P) × In l ls × (o.round ≤ l.round)) → Kept old ls
  kept_from old ls f g = (all_from_in (λ l. In l old) ls f, all_from_in (λ o. (l : Lock P) × In l ls × (o.round ≤ l.round)) old g)

  -- all are left
  pub kept_all : (ls : List (Lock P)) → Kept ls ls
  kept_all ls = kept_from ls ls (λ l h. h) (λ o h. (o, h, omega arith))

  -- the highest is left
  pub kept_top : (old : List (Lock P)) (l : Lock P) → In l old → ((o : Lock P) → In o old → o.round ≤ l.round) → Kept old (l ∷ [])
  kept_top old l h top =
      kept_from old (l ∷ [])
      (λ k e. elim e [ inl same ↦ subst (λ (x : Lock P). In x old) (sym same) h | inr n ↦ absurd n ])
      (λ o e. (l, inl refl, top o e))

  -- a lock taken that is not above every lock held changes nothing
  pub kept_without : (l o : Lock P) (old : List (Lock P)) → In o old → l.round ≤ o.round → Kept (l ∷ old) old
  kept_without l o old h le =
      kept_from (l ∷ old) old (λ k e. inr e)
      (λ k e.
      elim e [
        | inl same ↦ (o, h, subst (λ (x : Lock P). x.round ≤ o.round) (sym same) le)
        | inr n ↦ (k, n, omega arith)
      ])

-- members in rising order are different
abbrev pub Rising : List ℕ → Type 0
Rising [] = Unit {0}
Rising (x ∷ []) = Unit {0}
Rising (x ∷ y ∷ xs) = (x < y) × Rising (y ∷ xs)

all_above : (x : ℕ) (xs : List ℕ) → Rising (x ∷ xs) → All (λ y. x < y) xs
all_above x [] h = tt
all_above x (y ∷ ys) h = (h.0, All-weaker (λ z. y < z) (λ z. x < z) (λ z l. omega arith) ys (all_above y ys h.1))

pub rising_distinct : (ms : List ℕ) → Rising ms → Distinct ms
rising_distinct [] h = tt
rising_distinct (x ∷ []) h = (tt, tt)
rising_distinct (x ∷ y ∷ xs) h =
    (All-weaker (λ z. x < z) (λ z. x ≢ z) (λ z l e. omega arith) (y ∷ xs) (all_above x (y ∷ xs) h), rising_distinct (y ∷ xs) h.1)
