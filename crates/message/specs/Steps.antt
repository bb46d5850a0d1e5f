-- One step of reading: what it took, and what is left. For the reader's inner functions.
use Rattle.std.specs.Prelude.{◌≡◌, ℕ, true, cond, List, [], ◌∷◌, Some, None, Option, slice_index}
use Rattle.message.specs.Layout.{Entry, Place, opens, opening, left, ending, whole}
use Rattle.message.specs.Shapes.{head_of, in_range}
use Rattle.message.specs.declared.shapes.Head.{Head}

-- where a step gives nothing, the rule gives nothing, or the message is not whole
abbrev pub Took : {X : Type 0} → Place → Place → (List Entry → Option (X × List Entry)) → Option X → Type 0
Took p p' rule None = whole p ≡ true → rule (left p) ≡ None
Took p p' rule (Some x) = (rule (left p) ≡ Some (x, left p')) × ((ending p' ≡ ending p) × (p'.text ≡ p.text))

-- what the bodies that are left say by a rule, if the message is whole
abbrev pub Found : {X : Type 0} → Place → (List Entry → Option X) → Option X → Type 0
Found p rule x = x ≡ cond (whole p) (rule (left p)) None

-- the next body, and what is left after it
abbrev pub Nexted : Place → Place → Option Entry → Type 0
Nexted p p' None = (whole p ≡ true → left p ≡ []) × (p' ≡ p)
Nexted p p' (Some e) = (left p ≡ e ∷ left p') × ((ending p' ≡ ending p) × (p'.text ≡ p.text))

-- a message whose header and table are there and in range, before its first body
pub record OpenedAs (m : List ℕ) (kind : ℕ) (head : Head) (p : Place) : Type 0 where
  pub opened : opens m ≡ true
  pub ranges : in_range head ≡ true
  pub kind_is : kind ≡ slice_index m 0
  pub head_is : head ≡ head_of m
  pub place_is : p ≡ opening m
