-- The lexicographic order of lists of numbers, as std says it.
use Rattle.std.proofs.Common.{◌≡◌, ℕ, List, [], ◌∷◌, ◌++◌, length, Option, Some, None, sym, refl, ap, ◌∙◌, arith}
use Rattle.std.specs.declared.cmp.Ordering.{Ordering}
use Rattle.std.specs.declared.cmp.Ordering.TheVariants.{Less, Equal, Greater}
use Rattle.std.specs.Ordering.{nat_cmp, partial_ordering_then, is_gt, is_some_and}
use Rattle.std.specs.Cmp.Lexicographic.{slice_partial_cmp}
use Rattle.std.proofs.lemmas.Cmp.{same_from_slice_cmp_tested}
use Rattle.std.proofs.lemmas.Bool.Decides.{nat_tests}
use Rattle.rules.specs.Order.{higher}

-- what std compares lists of numbers by
abbrev pub compared : List ℕ → List ℕ → Option Ordering
compared = slice_partial_cmp (λ x y. Some (nat_cmp x y))

-- the first list is above the second where std says so
pub higher_compared : (xs ys : List ℕ) → is_some_and is_gt (compared xs ys) ≡ higher xs ys
higher_compared xs ys = same_from_slice_cmp_tested nat_cmp is_gt higher refl (λ _ _. refl) (λ _ _. refl) (λ x y xs ys o h. grind (arith, nat_tests)) xs ys _ refl

then_assoc : (a b c : Option Ordering) → partial_ordering_then (partial_ordering_then a b) c ≡ partial_ordering_then a (partial_ordering_then b c)
then_assoc None b c = refl
then_assoc (Some Less) b c = refl
then_assoc (Some Equal) b c = refl
then_assoc (Some Greater) b c = refl

-- fronts of one length are compared first
pub compared_fronts : (a b xs ys : List ℕ) → length a ≡ length b → compared (a ++ xs) (b ++ ys) ≡ partial_ordering_then (compared a b) (compared xs ys)
compared_fronts [] [] xs ys long = refl
compared_fronts [] (y ∷ b) xs ys long = absurd (omega arith)
compared_fronts (x ∷ a) [] xs ys long = absurd (omega arith)
compared_fronts (x ∷ a) (y ∷ b) xs ys long =
    ap (partial_ordering_then (Some (nat_cmp x y))) (compared_fronts a b xs ys (omega arith)) ∙ sym (then_assoc (Some (nat_cmp x y)) (compared a b) (compared xs ys))
