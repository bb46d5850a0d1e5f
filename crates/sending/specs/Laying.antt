-- Laying a sealed message out by a call of a value.
use Rattle.std.specs.Prelude.{◌≡◌, ℕ, List, Ok, Err, Result}
use Rattle.std.specs.Borrow.{Bor, MutBor}
use Rattle.std.specs.Fn.{Once}
use Rattle.base.specs.declared.refusals.Refusal.{Refusal}
use Rattle.outbox.specs.declared.drafts.Fill.{Fill}

module _ {F T : Type 0} (g : Once F (MutBor Fill × (MutBor (List ℕ) × (Bor T × Unit {0}))) (Unit {0} × (MutBor Fill × (MutBor (List ℕ) × Unit {0})))) (f : F) where
  -- the call of a value at a fill, an outbox and what was made may leave the two so
  pub record LaysAt (made : T) (fill fill' : ℕ) (out out' : List ℕ) : Type 0 where
    pub fill_shown : MutBor Fill
    pub out_shown : MutBor (List ℕ)
    pub made_shown : Bor T
    pub fill_left : MutBor Fill
    pub out_left : MutBor (List ℕ)
    pub shows_fill : fill_shown.now.len ≡ fill
    pub shows_out : out_shown.now ≡ out
    pub shows_made : made_shown.now ≡ made
    pub met : g.post f (fill_shown, (out_shown, (made_shown, tt))) (tt, (fill_left, (out_left, tt)))
    pub leaves_fill : fill_left.now.len ≡ fill'
    pub leaves_out : out_left.now ≡ out'

  -- it was called with what was made; where nothing was, all is as before
  abbrev pub Lays : Result T Refusal → ℕ → ℕ → List ℕ → List ℕ → Type 0
  Lays (Ok made) fill fill' out out' = LaysAt made fill fill' out out'
  Lays (Err why) fill fill' out out' = (out' ≡ out) × (fill' ≡ fill)
