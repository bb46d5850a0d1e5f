-- The first bad seal of one list of checks after another.
use Rattle.std.proofs.Common.{◌≡◌, ℕ, Bool, true, false, cond, List, [], ◌∷◌, ◌++◌, Some, None, Option, Ok, Err, Result, refl, sym, ap, ◌∙◌, subst, arith}
use Rattle.base.specs.Refusals.{passing}
use Rattle.base.specs.declared.refusals.Refusal.{Refusal}
use Rattle.base.specs.declared.refusals.Refusal.TheVariants.{BadSeal}
use Rattle.message.specs.Wholes.{WholeHolds}
use Rattle.message.specs.declared.shapes.Head.{Head}
use Rattle.message.specs.declared.shapes.Holds.{Holds}
use Rattle.protocol.specs.Judging.{Check, recognised, bad_seal, checks_of}
use Rattle.judging.specs.Views.{content_in}

module _ (knows : ℕ → List ℕ → List ℕ → Bool) where
  -- one bad seal in the first list
  first_by : (b : Bool) (one w : Refusal) (o p : Option Refusal) → (Err w ≡ passing o → Err w ≡ passing p) → Err w ≡ passing (cond b o (Some one)) → Err w ≡ passing (cond b p (Some one))
  first_by true one w o p rest is = rest is
  first_by false one w o p rest is = is

  pub stops_at : (xs ys : List Check) (w : Refusal) → Err w ≡ passing (bad_seal knows xs) → Err w ≡ passing (bad_seal knows (xs ++ ys))
  stops_at [] ys w is = absurd (let z : ◌≡◌ {A = ℕ} 0 1 = cc in omega arith)
  stops_at (x ∷ xs) ys w is = first_by (recognised knows x) (BadSeal x.place x.inside) w (bad_seal knows xs) (bad_seal knows (xs ++ ys)) (stops_at xs ys w) is

  -- none in the first list
  later_by : (b : Bool) (one : Refusal) (o p : Option Refusal) (r : Result (Unit {0}) Refusal) → (Ok tt ≡ passing o → r ≡ passing p) → Ok tt ≡ passing (cond b o (Some one)) → r ≡ passing (cond b p (Some one))
  later_by true one o p r rest is = rest is
  later_by false one o p r rest is = absurd (let z : ◌≡◌ {A = ℕ} 0 1 = cc in omega arith)

  pub goes_on : (xs ys : List Check) (r : Result (Unit {0}) Refusal) → Ok tt ≡ passing (bad_seal knows xs) → r ≡ passing (bad_seal knows ys) → r ≡ passing (bad_seal knows (xs ++ ys))
  goes_on [] ys r is rest = rest
  goes_on (x ∷ xs) ys r is rest = later_by (recognised knows x) (BadSeal x.place x.inside) (bad_seal knows xs) (bad_seal knows (xs ++ ys)) r (λ i. goes_on xs ys r i rest) is

  -- one seal that stands, before others
  stands_by : (b : Bool) (one : Refusal) (o : Option Refusal) → Ok tt ≡ passing (cond b None (Some one)) → cond b o (Some one) ≡ o
  stands_by true one o is = refl
  stands_by false one o is = absurd (let z : ◌≡◌ {A = ℕ} 0 1 = cc in omega arith)

  pub one_stands : (x : Check) (ys : List Check) → Ok tt ≡ passing (bad_seal knows (x ∷ [])) → bad_seal knows (x ∷ ys) ≡ bad_seal knows ys
  one_stands x ys is = stands_by (recognised knows x) (BadSeal x.place x.inside) (bad_seal knows ys) is

  -- what was found of a message that holds this
  pub at_holds : (h : Head) (was is : Holds) (r : Result (Unit {0}) Refusal) → was ≡ is → (WholeHolds is → r ≡ passing (bad_seal knows (checks_of h (content_in is)))) → WholeHolds was → r ≡ passing (bad_seal knows (checks_of h (content_in was)))
  at_holds h was is r same found w = found (subst WholeHolds same w) ∙ sym (ap (λ x. passing (bad_seal knows (checks_of h (content_in x)))) same)
