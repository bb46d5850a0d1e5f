-- The test for one page tells whether two slips are one.
use Rattle.std.proofs.Common.{◌≡◌, true, eqb, Decides, refl, subst}
use Rattle.std.specs.Str.{bytes_eq}
use Rattle.std.proofs.lemmas.Slice.Eq.{bytes_eq-Decides}
use Rattle.std.proofs.lemmas.Bool.{and_parts, and_from, eqb-true, eq-eqb}
use Rattle.base.specs.Slips.{one_page}
use Rattle.base.specs.declared.slips.Slip.{Slip}

-- slips that are one page are one slip
pub slip_same : (a b : Slip) → one_page a b ≡ true → a ≡ b
slip_same a b e =
    let p = and_parts (bytes_eq a.parent.0 b.parent.0) _ e in
    let o = and_parts (bytes_eq a.own.0 b.own.0) _ p.1 in
    let n = and_parts (eqb a.lots b.lots) _ o.1 in
    let parent : a.parent.0 ≡ b.parent.0 = (bytes_eq-Decides a.parent.0 b.parent.0).0 p.0 in
    let own : a.own.0 ≡ b.own.0 = (bytes_eq-Decides a.own.0 b.own.0).0 o.0 in
    let lots : a.lots ≡ b.lots = eqb-true a.lots b.lots n.0 in
    let maker : a.maker ≡ b.maker = eqb-true a.maker b.maker n.1 in
    λ i. record { parent = record { 0 = parent i }; own = record { 0 = own i }; lots = lots i; maker = maker i }

-- a slip is one page with itself
pub slip_itself : (a : Slip) → one_page a a ≡ true
slip_itself a =
    and_from (bytes_eq a.parent.0 a.parent.0) _ ((bytes_eq-Decides a.parent.0 a.parent.0).1 refl)
    (and_from (bytes_eq a.own.0 a.own.0) _ ((bytes_eq-Decides a.own.0 a.own.0).1 refl)
    (and_from (eqb a.lots a.lots) (eqb a.maker a.maker) (eq-eqb a.lots a.lots refl) (eq-eqb a.maker a.maker refl)))

pub one_decides : (a b : Slip) → Decides (one_page a b) (a ≡ b)
one_decides a b = (slip_same a b, λ e. subst (λ (z : Slip). one_page a z ≡ true) e (slip_itself a))
