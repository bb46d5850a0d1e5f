-- One test of a judgement after the other.
use Rattle.std.proofs.Common.{◌≡◌, ℕ, Bool, true, false, cond, Ok, Err, Result, refl, ap, ◌∙◌, arith}
use Rattle.std.specs.Result.{result_and}
use Rattle.base.specs.declared.refusals.Refusal.{Refusal}
use Rattle.protocol.specs.Plans.{unless}

module _ {X : Type 0} where
  -- the test holds: judged on
  pub goes : (t : Bool) (why : Refusal) (j rest : Result X Refusal) → true ≡ t → j ≡ rest → j ≡ unless t why rest
  goes t why j rest e same = same ∙ (λ i. cond (e i) rest (Err why))

  -- what was not refused passed the test
  pub passed : (t : Bool) (why : Refusal) (x : X) (rest : Result X Refusal) → Ok x ≡ unless t why rest → (t ≡ true) × (Ok x ≡ rest)
  passed true why x rest is = (refl, is)
  passed false why x rest is = absurd (let z : ◌≡◌ {A = ℕ} 0 1 = cc in omega arith)

  -- two and three tests, whatever is judged after them
  pub two_asked : (r : Result Unit Refusal) (t u : Bool) (a e : Refusal) (rest : Result X Refusal) → r ≡ unless t a (unless u e (Ok tt)) → result_and r rest ≡ unless t a (unless u e rest)
  two_asked r true true a e rest is = ap (λ z. result_and z rest) is
  two_asked r true false a e rest is = ap (λ z. result_and z rest) is
  two_asked r false u a e rest is = ap (λ z. result_and z rest) is

  pub three_asked : (r : Result Unit Refusal) (t u v : Bool) (a e i : Refusal) (rest : Result X Refusal) → r ≡ unless t a (unless u e (unless v i (Ok tt))) → result_and r rest ≡ unless t a (unless u e (unless v i rest))
  three_asked r true true true a e i rest is = ap (λ z. result_and z rest) is
  three_asked r true true false a e i rest is = ap (λ z. result_and z rest) is
  three_asked r true false v a e i rest is = ap (λ z. result_and z rest) is
  three_asked r false u v a e i rest is = ap (λ z. result_and z rest) is
