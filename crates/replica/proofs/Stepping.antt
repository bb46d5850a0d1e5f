-- The contract of a call makes it a step of a run.
use Rattle.std.proofs.Common.{◌≡◌, ℕ, List, length, is_ok, Result, sym, refl, ap, ◌∙◌, subst}
use Rattle.base.specs.declared.refusals.Refusal.{Refusal}
use Rattle.holding.specs.Outcome.{appended}
use Rattle.protocol.specs.Plans.{Plan, settled}
use Rattle.protocol.specs.Runs.{Call, Call.offers, Call.begins, Call.ticks, Call.takes, Call.turns, Call.forwards, Call.counts, Call.closes, step_by, step_of, Step, settings_by}
use Rattle.protocol.specs.Witness.{written_by}
use Rattle.protocol.specs.State.{Settings, Box}
use Rattle.sending.specs.Sending.{Good}
use Rattle.replica.specs.Steps.{acting, IsStep, CallsAreSteps}

module _ {X : Type 0} (judge : Box → Result (Plan X) Refusal) (call : Call)
    (is : (b : Box) (f : ℕ) (o : List ℕ) (seals : List (List ℕ)) → step_by b (acting b call f o seals) call ≡ step_of (settled b f (length o) (judge b) seals))
    (says : (b : Box) (f : ℕ) (o : List ℕ) (seals : List (List ℕ)) → written_by b (acting b call f o seals) call ≡ (settled b f (length o) (judge b) seals).wrote)
    (stays : (s : Settings) → settings_by s call ≡ s) where
  steps : IsStep judge call
  steps b after f f' o o' r e =
      let s = e.seals
      in record {
        seals = s;
        good = subst (λ (x : Step). Good b.sealer x.sealed s) (sym (is b f o s)) e.good;
        accepts = ap (λ (x : Step). x.accepted) (is b f o s) ∙ ap is_ok (sym e.ends.answers);
        sets = stays b.settings ∙ sym (ap (λ (x : Box). x.settings) e.ends.leaves);
        holds = ap (λ (x : Step). x.view) (is b f o s) ∙ sym (ap (λ (x : Box). x.view) e.ends.leaves);
        leaves = ap (λ (x : Step). x.left) (is b f o s) ∙ sym (ap (λ (x : Box). x.sealer.left) e.ends.leaves);
        writes = e.ends.writes ∙ ap (λ w. appended f w o) (sym (says b f o s));
      }

pub calls_are_steps : CallsAreSteps
calls_are_steps =
    record {
      offer_steps = λ s. steps _ (offers s) (λ b f o ss. refl) (λ b f o ss. refl) (λ s. refl);
      begin_steps = steps _ begins (λ b f o ss. refl) (λ b f o ss. refl) (λ s. refl);
      tick_steps = λ k. steps _ (ticks k) (λ b f o ss. refl) (λ b f o ss. refl) (λ s. refl);
      take_steps = λ m. steps _ (takes m) (λ b f o ss. refl) (λ b f o ss. refl) (λ s. refl);
      open_turn_steps = steps _ turns (λ b f o ss. refl) (λ b f o ss. refl) (λ s. refl);
      put_forward_steps = λ t rs. steps _ (forwards t rs) (λ b f o ss. refl) (λ b f o ss. refl) (λ s. refl);
      take_commit_steps = λ t rs m. steps _ (counts t rs m) (λ b f o ss. refl) (λ b f o ss. refl) (λ s. refl);
      close_steps = λ t rs. steps _ (closes t rs) (λ b f o ss. refl) (λ b f o ss. refl) (λ s. refl);
    }
