-- The outcome of a writer, from its test of the room and from its pieces.
use Rattle.std.proofs.Common.{◌≡◌, ℕ, ◌+◌, ◌≤◌, Bool, true, false, cond, List, length, Ok, Err, Result, sym, refl, ap, ◌∙◌, subst, arith}
use Rattle.std.proofs.lemmas.Bool.Decides.{nat_tests}
use Rattle.base.specs.Writing.{wrote}
use Rattle.base.specs.declared.refusals.Refusal.TheVariants.{Misshapen, OutboxShort}
use Rattle.outbox.specs.Appending.{fits, Appended, Adds}
use Rattle.base.specs.declared.refusals.Refusal.{Refusal}

module _ (lays : Bool) (bytes : List ℕ) (f need : ℕ) (out : List ℕ) (lay : lays ≡ true) (long : need ≡ length bytes) where
  pub too_short : false ≡ fits f need (length out) → Appended lays bytes f f out out (Err OutboxShort)
  too_short no_room =
      let room : fits f (length bytes) (length out) ≡ false = sym (ap (λ n. fits f n (length out)) long) ∙ sym no_room
      in record {
        answer = sym (ap (λ b. cond b (cond (fits f (length bytes) (length out)) (Ok tt) (Err OutboxShort)) (Err Misshapen)) lay ∙ ap (λ b. cond b (Ok tt) (Err OutboxShort)) room);
        outbox = refl;
        filled = refl;
      }

  -- the draft began at the fill and was finished
  pub all_written : (f0 g f' : ℕ) (pieces out' : List ℕ) → pieces ≡ bytes → true ≡ fits f need (length out) → f0 ≡ f → f' ≡ g → Adds f0 g pieces out out' → Appended lays bytes f f' out out' (Ok tt)
  all_written f0 g f' pieces out' same has_room began ended adds =
      let room : fits f (length bytes) (length out) ≡ true = sym (ap (λ n. fits f n (length out)) long) ∙ sym has_room
      in let fit : f0 + length pieces ≤ length out = let l : length pieces ≡ length bytes = ap length same in grind (arith, nat_tests)
      in record {
        answer = sym (ap (λ b. cond b (cond (fits f (length bytes) (length out)) (Ok tt) (Err OutboxShort)) (Err Misshapen)) lay ∙ ap (λ b. cond b (Ok tt) (Err OutboxShort)) room);
        outbox = adds.stands fit ∙ (λ i. wrote (began i) (same i) out);
        filled = ended ∙ adds.moved fit ∙ (λ i. began i + length (same i));
      }

-- what a call of `append` promises, at a message of that length
pub outcome : (lays : Bool) (bytes : List ℕ) (f f' need : ℕ) (out out' : List ℕ) (r : Result (Unit {0}) Refusal) → lays ≡ true → need ≡ length bytes
    → r ≡ cond (fits f need (length out)) (Ok tt) (Err OutboxShort) → (fits f need (length out) ≡ false → (out' ≡ out) × (f' ≡ f)) → (fits f need (length out) ≡ true → Adds f f' bytes out out')
    → Appended lays bytes f f' out out' r
outcome lays bytes f f' need out out' r lay long answer short laid = by_room (fits f need (length out)) refl
  where
    by_room : (b : Bool) → b ≡ fits f need (length out) → Appended lays bytes f f' out out' r
    by_room true e =
        let a : r ≡ Ok tt = answer ∙ ap (λ t. cond t (Ok tt) (Err OutboxShort)) (sym e)
        in subst (λ x. Appended lays bytes f f' out out' x) (sym a) (all_written lays bytes f need out lay long f f' f' bytes out' refl e refl refl (laid (sym e)))
    by_room false e =
        let a : r ≡ Err OutboxShort = answer ∙ ap (λ t. cond t (Ok tt) (Err OutboxShort)) (sym e)
        in let k = short (sym e)
        in subst (λ x. Appended lays bytes f f' out out' x) (sym a)
        (subst (λ x. Appended lays bytes f x out out' (Err OutboxShort)) (sym k.1) (subst (λ x. Appended lays bytes f f out x (Err OutboxShort)) (sym k.0) (too_short lays bytes f need out lay long e)))
