-- What an accepted message has passed.
use Rattle.std.proofs.Common.{◌≡◌, ℕ, Bool, true, not, leb, List, [], ◌∷◌, Some, None, sym, arith}
use Rattle.std.specs.List.{AllByRecursion as All}
use Rattle.std.proofs.lemmas.Bool.{cond_both, leb-true}
use Rattle.agree.proofs.Log.{none_some}
use Rattle.base.specs.declared.refusals.Refusal.TheVariants.{BadSeal}
use Rattle.message.specs.Contents.{Sent}
use Rattle.protocol.specs.Judging.{Check, height_in, familiar, checks_of, recognised, bad_seal, round_taken, stage_takes, slip_in, on_chain, of_slip, contradicts, placed, goes_on}
use Rattle.protocol.specs.Messages.{Answer, plan_of, judged_sent}
use Rattle.protocol.specs.Plans.{Plan}
use Rattle.protocol.specs.State.{Box}
use Rattle.protocol.proofs.Settling.{Passing, passes, passing}
use Rattle.protocol.proofs.Turning.{passing_seals}

pub record Passed (b : Box) (s : Sent (List ℕ)) : Type 0 where
  pub height_is : height_in s.head ≡ b.view.height
  pub known : familiar b.settings.pool s ≡ true
  pub round_taken_lem : round_taken b.view s.head s.content ≡ true
  pub sealed_well : All (λ (k : Check). recognised b.sealer.knows k ≡ true) (checks_of s.head s.content)
  pub chained : of_slip (on_chain b.view.last) (slip_in s.content) ≡ true
  pub admitted : of_slip (b.rules.admits b.view.height) (slip_in s.content) ≡ true
  pub consistent : not (contradicts b.sealer.number b.view s.head s.content) ≡ true
  pub book_on : goes_on b.view s.content ≡ true

-- where no seal is bad, every seal is recognised
good_seals : (knows : ℕ → List ℕ → List ℕ → Bool) (ks : List Check) → bad_seal knows ks ≡ None → All (λ (k : Check). recognised knows k ≡ true) ks
good_seals knows [] e = tt
good_seals knows (k ∷ ks) e =
    cond_both (recognised knows k) (bad_seal knows ks) (Some (BadSeal k.place k.inside))
    (λ o. o ≡ None → (recognised knows k ≡ true) × All (λ (x : Check). recognised knows x ≡ true) ks)
    (λ good none. (good, good_seals knows ks none))
    (λ bad none. absurd (none_some (sym none)))
    e

pub judged : (b : Box) (m : List ℕ) (s : Sent (List ℕ)) (Q : Plan Answer → Type 0) → (Passed b s → Q (plan_of b m s.head s.content)) → Passing Q (judged_sent b m s)
judged b m s Q f =
    passing Q (leb b.view.height (height_in s.head)) _ _ (λ above.
    passing Q (leb (height_in s.head) b.view.height) _ _ (λ below.
    passing Q (familiar b.settings.pool s) _ _ (λ known.
    passing Q (round_taken b.view s.head s.content) _ _ (λ round.
    passing Q (stage_takes b.view s.head s.content) _ _ (λ stage.
    passing_seals Q (bad_seal b.sealer.knows (checks_of s.head s.content)) _ (λ good.
    passing Q (of_slip (on_chain b.view.last) (slip_in s.content)) _ _ (λ chain.
    passing Q (of_slip (b.rules.admits b.view.height) (slip_in s.content)) _ _ (λ admitted.
    passing Q (not (contradicts b.sealer.number b.view s.head s.content)) _ _ (λ consistent.
    passing Q (placed b.view s.head s.content) _ _ (λ placed.
    passing Q (goes_on b.view s.content) _ _ (λ on.
    passes (f (record {
      height_is = omega (arith, leb-true b.view.height (height_in s.head) above, leb-true (height_in s.head) b.view.height below);
      known = known;
      round_taken_lem = round;
      sealed_well = good_seals b.sealer.knows (checks_of s.head s.content) good;
      chained = chain;
      admitted = admitted;
      consistent = consistent;
      book_on = on;
    })))))))))))))
