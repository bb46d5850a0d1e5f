-- Laws of reading on: what is left after a body, and when none is left.
use Rattle.std.proofs.Common.{◌≡◌, ℕ, zero, suc, ◌+◌, ◌-◌, ◌*◌, ◌<◌, ◌≤◌, Bool, true, false, cond, ◌&&◌, eqb, List, [], ◌∷◌, length, Some, None, Option, sym, refl, ap, ◌∙◌, arith}
use Rattle.std.proofs.lemmas.Bool.Decides.{nat_tests}
use Rattle.message.specs.Layout.{Entry, Place, count, ready, entry_at, length_at, entries_from, end_from, next_of, after_next, left, ending, whole}
use Rattle.message.specs.Shapes.{ended}
use Rattle.message.specs.Steps.{Nexted}

pub length_entries : (m : List ℕ) (k i at : ℕ) → length (entries_from m k i at) ≡ k
length_entries m zero i at = refl
length_entries m (suc k) i at = ap suc (length_entries m k (i + 1) (at + length_at m i))

-- as many bodies are left as the table still speaks of
pub length_left : (p : Place) → length (left p) ≡ count p.text - p.next
length_left p = length_entries p.text (count p.text - p.next) p.next p.from

pub from_end : (m : List ℕ) (k i at : ℕ) → at ≤ end_from m k i at
from_end m zero i at = omega arith
from_end m (suc k) i at = let h = from_end m k (i + 1) (at + length_at m i) in omega arith

not_below : (a b : ℕ) → (a < b → ⊥) → b ≤ a
not_below a b h = grind (arith, nat_tests)

-- one body more, where the table has one more
more : (a b : ℕ) → b < a → a - b ≡ suc (a - (b + 1))
more a b h = omega arith

-- a place after the next body
abbrev pub stepped : Place → Place
stepped p = record { text = p.text; next = p.next + 1; from = p.from + length_at p.text p.next }

pub left_more : (p : Place) → p.next < count p.text → left p ≡ entry_at p.text p.next p.from ∷ left (stepped p)
left_more p h = ap (λ k. entries_from p.text k p.next p.from) (more (count p.text) p.next h)

pub ending_more : (p : Place) → p.next < count p.text → ending p ≡ ending (stepped p)
ending_more p h = ap (λ k. end_from p.text k p.next p.from) (more (count p.text) p.next h)

pub left_none : (p : Place) → count p.text ≤ p.next → left p ≡ []
left_none p h =
    let none : count p.text - p.next ≡ 0 = omega arith
    in ap (λ k. entries_from p.text k p.next p.from) none

-- a whole message has each body that its table speaks of
pub ready_whole : (p : Place) → whole p ≡ true → p.next < count p.text → ready p ≡ true
ready_whole p w h =
    let e : ending p ≡ ending (stepped p) = ending_more p h
    in let g : p.from + length_at p.text p.next ≤ ending (stepped p) = from_end p.text (count p.text - (p.next + 1)) (p.next + 1) (p.from + length_at p.text p.next)
    in let end : ending p ≡ length p.text = grind (arith, nat_tests, w)
    in let table : 12 + 4 * count p.text ≤ length p.text = grind (arith, nat_tests, w)
    in grind (arith, nat_tests)

-- what the next body leaves, by whether it was there
nexted_by : (p p' : Place) (r : Option Entry) (b : Bool) → ready p ≡ b → r ≡ cond b (Some (entry_at p.text p.next p.from)) None → p' ≡ cond b (stepped p) p → Nexted p p' r
nexted_by p p' None true is was after = absurd (let z : ◌≡◌ {A = ℕ} 0 1 = cc in omega arith)
nexted_by p p' (Some e) false is was after = absurd (let z : ◌≡◌ {A = ℕ} 0 1 = cc in omega arith)
nexted_by p p' None false is was after = (
  λ w. left_none p (not_below _ _ (λ h. let t : true ≡ false = sym (ready_whole p w h) ∙ is in let z : ◌≡◌ {A = ℕ} 0 1 = cc in omega arith)),
  after,
)
nexted_by p p' (Some e) true is was after =
    let h : p.next < count p.text = grind (arith, nat_tests, is)
    in let e-is : e ≡ entry_at p.text p.next p.from = cc
    in (
      left_more p h ∙ sym (λ i. e-is i ∷ left (after i)),
      (ap ending after ∙ sym (ending_more p h), ap (λ (x : Place). x.text) after),
    )

pub nexted : (p p' : Place) (r : Option Entry) → r ≡ next_of p → p' ≡ after_next p → Nexted p p' r
nexted p p' r is after = nexted_by p p' r (ready p) refl is after

-- after the last body the next one would begin where the bodies end
pub ending_none : (p : Place) → length (left p) ≡ 0 → ending p ≡ p.from
ending_none p h =
    let long = length_entries p.text (count p.text - p.next) p.next p.from
    in let none : count p.text - p.next ≡ 0 = omega arith
    in ap (λ k. end_from p.text k p.next p.from) none

ended_length : (es : List Entry) → ended es ≡ eqb (length es) 0
ended_length [] = refl
ended_length (e ∷ es) = grind (arith, nat_tests)

finished_by : (p : Place) (b : Bool) → eqb (length (left p)) 0 ≡ b → (b && eqb p.from (length p.text)) ≡ (b && eqb (ending p) (length p.text))
finished_by p false is = refl
finished_by p true is =
    let none : length (left p) ≡ 0 = grind (arith, nat_tests)
    in ap (λ k. eqb k (length p.text)) (sym (ending_none p none))

-- every body was handed out and no byte is left over
pub finished_is : (p : Place) → (eqb (length (left p)) 0 && eqb p.from (length p.text)) ≡ (ended (left p) && eqb (ending p) (length p.text))
finished_is p = finished_by p (eqb (length (left p)) 0) refl ∙ ap (λ b. b && eqb (ending p) (length p.text)) (sym (ended_length (left p)))

-- a body that was handed out is one fewer to come
pub nearer : (p p' : Place) (e : Entry) → Nexted p p' (Some e) → length (left p') < length (left p)
nearer p p' e n = let long : length (left p) ≡ suc (length (left p')) = ap length n.0 in omega arith
