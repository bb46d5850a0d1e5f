-- How a call ends that was judged: refused, or with a certificate by the replica, which does not move.
use Rattle.std.proofs.Common.{◌≡◌, ℕ, List, Some, Ok, Err, Result, sym, ap, ◌∙◌}
use Rattle.base.specs.declared.refusals.Refusal.{Refusal}
use Rattle.base.specs.declared.slips.Slip.{Slip}
use Rattle.base.specs.declared.stages.Kind.{Kind}
use Rattle.base.specs.declared.statements.Word.{Word}
use Rattle.message.specs.Contents.{Signed}
use Rattle.protocol.specs.Plans.{Draft, Plan}
use Rattle.protocol.specs.Rounds.{head_for}
use Rattle.protocol.specs.State.{Box}
use Rattle.protocol.specs.Turns.{cert_draft}
use Rattle.seal.specs.Meaning.{Meaning}
use Rattle.sending.specs.Drafts.{cert_for}
use Rattle.sending.specs.Sending.{Sending}
use Rattle.holding.specs.Outcome.{Outcome}
use Rattle.holding.proofs.Endings.{with_sealer, outcome_as, sending_as, ends_refused, ends_sent, ends_unsent}

-- a certificate by the replica
pub cert_as : (b : Box) (own : ℕ) (kind : Kind) (sort : ℕ) (word : Word) (s : Slip) (vs ws : List (Signed (List ℕ))) → own ≡ b.sealer.number → vs ≡ ws → cert_for (head_for own b.view.height b.view.round) kind sort word s vs ≡ cert_draft b kind sort word s ws
cert_as b own kind sort word s vs ws mine same i = cert_for (head_for (mine i) b.view.height b.view.round) kind sort word s (same i)

module _ {X : Type 0} (b after : Box) (f f' : ℕ) (o o' : List ℕ) (j : Result (Plan X) Refusal) where
  pub judged_not : (why : Refusal) → Err why ≡ j → f' ≡ f → o' ≡ o → after ≡ b → Outcome b after f f' o o' j (Err why)
  judged_not why is same_fill same_out same = outcome_as b after f f' o o' (Err why) j (Err why) is (ends_refused b after f f' o o' same_fill same_out why same)

  module _ (p : Plan X) (is : Ok p ≡ j) (d e : Draft) (due : p.draft ≡ Some d) (told : e ≡ d) (m : Meaning) (left : after ≡ with_sealer b m b.view) where
    pub certified : (s : List (List ℕ)) → p.next s ≡ b.view → Sending b.sealer m e f f' o o' (Ok s) → Outcome b after f f' o o' j (Ok p.answer)
    certified s stays sent =
        outcome_as b after f f' o o' (Ok p) j (Ok p.answer) is
        (ends_sent b after f f' o o' p d due m s (sending_as b.sealer m e d f f' o o' (Ok s) told sent) (left ∙ ap (with_sealer b m) (sym stays)))

    pub uncertified : (why : Refusal) → Sending b.sealer m e f f' o o' (Err why) → Outcome b after f f' o o' j (Err why)
    uncertified why unsent =
        outcome_as b after f f' o o' (Ok p) j (Err why) is
        (ends_unsent b after f f' o o' p d due m why (sending_as b.sealer m e d f f' o o' (Err why) told unsent) left)
