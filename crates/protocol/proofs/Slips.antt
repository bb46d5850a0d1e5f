-- What the tests on slips tell.
use Rattle.std.proofs.Common.{◌≡◌, ℕ, true, false, eqb, List, [], ◌∷◌, ◌++◌, refl, inl, inr}
use Rattle.std.specs.Str.{bytes_eq}
use Rattle.std.proofs.lemmas.Slice.Eq.{bytes_eq-Decides}
use Rattle.std.proofs.lemmas.Bool.{and_parts, and_from, and_left, and_right, and_cases, eqb-true, eq-eqb, not-true, true≢false}
use Rattle.base.specs.Numbers.{all_zero, be4}
use Rattle.base.specs.Slips.{slip_bytes}
use Rattle.base.specs.declared.slips.Mark.{Mark}
use Rattle.base.specs.declared.slips.Slip.{Slip}
use Rattle.protocol.specs.Judging.{on_chain}
use Rattle.protocol.specs.State.{one_page}

-- slips that are one page are one slip
pub slip_same : (a b : Slip) → one_page a b ≡ true → a ≡ b
slip_same a b e =
    let p = and_parts (bytes_eq a.parent.0 b.parent.0) _ e in
    let o = and_parts (bytes_eq a.own.0 b.own.0) _ p.1 in
    let n = and_parts (eqb a.lots b.lots) _ o.1 in
    let parent : a.parent.0 ≡ b.parent.0 = (bytes_eq-Decides a.parent.0 b.parent.0).0 p.0 in
    let own : a.own.0 ≡ b.own.0 = (bytes_eq-Decides a.own.0 b.own.0).0 o.0 in
    let lots : a.lots ≡ b.lots = eqb-true a.lots b.lots n.0 in
    let maker : a.maker ≡ b.maker = eqb-true a.maker b.maker n.1 in
    λ i. record { parent = record { 0 = parent i }; own = record { 0 = own i }; lots = lots i; maker = maker i }

-- a slip is one page with itself
pub slip_itself : (a : Slip) → one_page a a ≡ true
slip_itself a =
    and_from (bytes_eq a.parent.0 a.parent.0) _ ((bytes_eq-Decides a.parent.0 a.parent.0).1 refl)
    (and_from (bytes_eq a.own.0 a.own.0) _ ((bytes_eq-Decides a.own.0 a.own.0).1 refl)
    (and_from (eqb a.lots a.lots) (eqb a.maker a.maker) (eq-eqb a.lots a.lots refl) (eq-eqb a.maker a.maker refl)))

-- bytes of which a part is not all zeros are not all zeros
not_zero_left : (xs ys : List ℕ) → all_zero xs ≡ false → all_zero (xs ++ ys) ≡ false
not_zero_left [] ys e = absurd (true≢false e)
not_zero_left (x ∷ xs) ys e =
    elim (and_cases (eqb x 0) (all_zero xs) e) [
      | inl here ↦ and_left (eqb x 0) (all_zero (xs ++ ys)) here
      | inr later ↦ and_right (eqb x 0) (all_zero (xs ++ ys)) (not_zero_left xs ys later)
    ]

not_zero_right : (xs ys : List ℕ) → all_zero ys ≡ false → all_zero (xs ++ ys) ≡ false
not_zero_right [] ys e = e
not_zero_right (x ∷ xs) ys e = and_right (eqb x 0) (all_zero (xs ++ ys)) (not_zero_right xs ys e)

-- a slip on the chain stands on the last mark, and is not the slip of zeros
pub chain_parent : (last : Mark) (s : Slip) → on_chain last s ≡ true → s.parent ≡ last
chain_parent last s e =
    let p : s.parent.0 ≡ last.0 = (bytes_eq-Decides s.parent.0 last.0).0 (and_parts (bytes_eq s.parent.0 last.0) _ e).0 in
    λ i. record { 0 = p i }

pub chain_not_zero : (last : Mark) (s : Slip) → on_chain last s ≡ true → all_zero (slip_bytes s) ≡ false
chain_not_zero last s e =
    let own : all_zero s.own.0 ≡ false = not-true (all_zero s.own.0) (and_parts (bytes_eq s.parent.0 last.0) _ e).1 in
    not_zero_right s.parent.0 _ (not_zero_left s.own.0 (be4 s.lots ++ be4 s.maker) own)
