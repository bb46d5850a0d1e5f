-- Laying a message out by a call of a value.
use Rattle.std.specs.Prelude.{◌≡◌, ℕ, List}
use Rattle.std.specs.Borrow.{MutBor}
use Rattle.std.specs.Fn.{Once}
use Rattle.outbox.specs.declared.drafts.Fill.{Fill}

-- the call of a value at a fill and an outbox may leave them so
pub record LaysAt {F : Type 0} (g : Once F (MutBor Fill × (MutBor (List ℕ) × Unit {0})) (Unit {0} × (MutBor Fill × (MutBor (List ℕ) × Unit {0})))) (f : F) (fill fill' : ℕ) (out out' : List ℕ) : Type 0 where
  pub fill_shown : MutBor Fill
  pub out_shown : MutBor (List ℕ)
  pub fill_left : MutBor Fill
  pub out_left : MutBor (List ℕ)
  pub shows_fill : fill_shown.now.len ≡ fill
  pub shows_out : out_shown.now ≡ out
  pub met : g.post f (fill_shown, (out_shown, tt)) (tt, (fill_left, (out_left, tt)))
  pub leaves_fill : fill_left.now.len ≡ fill'
  pub leaves_out : out_left.now ≡ out'
