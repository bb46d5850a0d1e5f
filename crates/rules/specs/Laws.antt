-- The laws of a ranking by a list of numbers that tells the slip, and that both rulebooks rank so. No contract cites these lemmas:
-- they stand here since the rulebooks' impls show their laws by them, and an impl may name only what stands in specs/.
use Rattle.std.specs.Prelude.{◌≡◌, ℕ, ◌-◌, Bool, true, false, List, [], ◌∷◌, ◌++◌, length, drop, slice_index, refl}
use Rattle.std.proofs.Common.{true≢false, inl, inr, sym, ap, ◌∙◌, arith}
use Rattle.base.specs.Slips.{SlipFits}
use Rattle.base.proofs.Distinct.{split}
use Rattle.base.specs.declared.slips.Slip.{Slip}
use Rattle.rules.specs.Order.{higher, ExactlyOne, Ranks, Transitive}
use Rattle.rules.specs.Pages.{receipts_key, receipts_above, roster_key, roster_above}
use Rattle.std.proofs.lemmas.Bool.Decides.{nat_tests}

-- the lexicographic order of lists of numbers ----------------------------------------------------------------------------

-- none is above itself
pub higher_itself : (xs : List ℕ) → higher xs xs ≡ false
higher_itself [] = refl
higher_itself (x ∷ xs) = let e = higher_itself xs in grind (arith, nat_tests)

-- not both are above
pub higher_once : (xs ys : List ℕ) → higher xs ys ≡ true → higher ys xs ≡ false
higher_once [] ys h = absurd (true≢false (sym h))
higher_once (x ∷ xs) [] h = refl
higher_once (x ∷ xs) (y ∷ ys) h = let f = higher_once xs ys in grind (arith, nat_tests)

-- where neither is above they are one
pub higher_else : (xs ys : List ℕ) → higher xs ys ≡ false → higher ys xs ≡ false → xs ≡ ys
higher_else [] [] h g = refl
higher_else [] (y ∷ ys) h g = absurd (true≢false g)
higher_else (x ∷ xs) [] h g = absurd (true≢false h)
higher_else (x ∷ xs) (y ∷ ys) h g =
    let e : x ≡ y = grind (arith, nat_tests)
    in let h' : higher xs ys ≡ false = grind (arith, nat_tests)
    in let g' : higher ys xs ≡ false = grind (arith, nat_tests)
    in λ i. e i ∷ higher_else xs ys h' g' i

pub higher_trans : (xs ys zs : List ℕ) → higher xs ys ≡ true → higher ys zs ≡ true → higher xs zs ≡ true
higher_trans [] ys zs h g = absurd (true≢false (sym h))
higher_trans (x ∷ xs) [] zs h g = absurd (true≢false (sym g))
higher_trans (x ∷ xs) (y ∷ ys) [] h g = refl
higher_trans (x ∷ xs) (y ∷ ys) (z ∷ zs) h g = let f = higher_trans xs ys zs in grind (arith, nat_tests)

-- rankings ----------------------------------------------------------------------------------------------------------------

module _ (key : Slip → List ℕ) where
  by : (a b : Slip) (p q : Bool) → higher (key a) (key b) ≡ p → higher (key b) (key a) ≡ q → (key a ≡ key b → a ≡ b) → ExactlyOne (higher (key a) (key b) ≡ true) (higher (key b) (key a) ≡ true) (a ≡ b)
  by a b true q hp hq tells =
      inl (
        hp,
        λ h. true≢false (sym h ∙ higher_once (key a) (key b) hp),
        λ e. true≢false (sym hp ∙ ap (λ (z : Slip). higher (key z) (key b)) e ∙ higher_itself (key b)),
      )
  by a b false true hp hq tells =
      inr
      (inl (
        λ h. true≢false (sym h ∙ hp),
        hq,
        λ e. true≢false (sym hq ∙ ap (λ (z : Slip). higher (key b) (key z)) e ∙ higher_itself (key b)),
      ))
  by a b false false hp hq tells =
      inr
      (inr (λ h. true≢false (sym h ∙ hp), λ h. true≢false (sym h ∙ hq), tells (higher_else (key a) (key b) hp hq)))

  -- once for every such ranking
  pub key_ranks : ((a b : Slip) → SlipFits a → SlipFits b → key a ≡ key b → a ≡ b) → Ranks (λ a b. higher (key a) (key b))
  key_ranks tells a b fa fb = by a b (higher (key a) (key b)) (higher (key b) (key a)) refl refl (tells a b fa fb)

  pub key_transitive : Transitive (λ a b. higher (key a) (key b))
  key_transitive a b c = higher_trans (key a) (key b) (key c)

-- two numbers and two strings of bytes are told by their list
parts : (x x' y y' : ℕ) (o o' p p' : List ℕ) → length o ≡ length o' → x ∷ (o ++ (y ∷ p)) ≡ x' ∷ (o' ++ (y' ∷ p')) → (x ≡ x') × (o ≡ o') × (y ≡ y') × (p ≡ p')
parts x x' y y' o o' p p' long same =
    let rest = split o o' (y ∷ p) (y' ∷ p') long (ap (drop 1) same)
    in (
      ap (λ (l : List ℕ). slice_index l 0) same,
      rest.0,
      ap (λ (l : List ℕ). slice_index l 0) rest.1,
      ap (drop 1) rest.1,
    )

receipts_tells : (a b : Slip) → SlipFits a → SlipFits b → receipts_key a ≡ receipts_key b → a ≡ b
receipts_tells a b fa fb same =
    let e = parts a.lots b.lots a.maker b.maker a.own.0 b.own.0 a.parent.0 b.parent.0 (fa.own_fits ∙ sym fb.own_fits) same
    in λ i. record { parent = record { 0 = e.3 i }; own = record { 0 = e.1 i }; lots = e.0 i; maker = e.2 i }

roster_tells : (a b : Slip) → SlipFits a → SlipFits b → roster_key a ≡ roster_key b → a ≡ b
roster_tells a b fa fb same =
    let e = parts (4294967295 - a.maker) (4294967295 - b.maker) a.lots b.lots a.own.0 b.own.0 a.parent.0 b.parent.0 (fa.own_fits ∙ sym fb.own_fits) same
    in let m : a.maker ≡ b.maker = omega (arith, e.0, fa.maker_fits, fb.maker_fits)
    in λ i. record { parent = record { 0 = e.3 i }; own = record { 0 = e.1 i }; lots = e.2 i; maker = m i }

pub receipts_ranks : Ranks receipts_above
receipts_ranks = key_ranks receipts_key receipts_tells

pub roster_ranks : Ranks roster_above
roster_ranks = key_ranks roster_key roster_tells
