-- What the replica's own moves come to.
use Rattle.std.proofs.Common.{◌≡◌, ℕ, ◌≤◌, true, List, length, Some, Ok, Err, Option, sym, refl, ap, ◌∙◌, arith}
use Rattle.base.specs.declared.refusals.Refusal.{Refusal}
use Rattle.base.specs.declared.slips.Slip.{Slip}
use Rattle.protocol.specs.Calls.{again, resending}
use Rattle.protocol.specs.Judging.{latest_of}
use Rattle.protocol.specs.Messages.{taken}
use Rattle.outbox.specs.Written.{measurable}
use Rattle.protocol.specs.Rounds.{change_draft, candidate_of, head_for, release_draft, release_of, releasing, stating, stated, with_ticks}
use Rattle.protocol.specs.State.{View, Box, Held, Latest}
use Rattle.seal.specs.Meaning.{Meaning}
use Rattle.sending.specs.Drafts.{release_for}
use Rattle.sending.specs.Sending.{Sending}
use Rattle.std.proofs.lemmas.Bool.Decides.{nat_tests}
use Rattle.holding.specs.Outcome.{Outcome}
use Rattle.holding.specs.Views.{released_view}
use Rattle.holding.proofs.Endings.{with_sealer, sending_as, ends_sent, ends_unsent}

-- stating a round
module _ (b after : Box) (f f' : ℕ) (o o' : List ℕ) (v : View) (r own : ℕ) (page : Option Slip) (m : Meaning) (mine : own ≡ b.sealer.number) (is : page ≡ candidate_of b.rules v.candidates) where
  draft_as : change_draft own v.height r page ≡ change_draft b.sealer.number v.height r (candidate_of b.rules v.candidates)
  draft_as i = change_draft (mine i) v.height r (is i)

  pub states : (s : List (List ℕ)) → Sending b.sealer m (change_draft own v.height r page) f f' o o' (Ok s) → after ≡ with_sealer b m (stated b.settings own v r page s) → Outcome b after f f' o o' (Ok (stating b taken v r)) (Ok taken)
  states s sent same =
      ends_sent b after f f' o o' (stating b taken v r) _ refl m s (sending_as b.sealer m _ _ f f' o o' (Ok s) draft_as sent)
      (same ∙ (λ i. with_sealer b m (stated b.settings (mine i) v r (is i) s)))

  pub states_not : (why : Refusal) → Sending b.sealer m (change_draft own v.height r page) f f' o o' (Err why) → after ≡ with_sealer b m b.view → Outcome b after f f' o o' (Ok (stating b taken v r)) (Err why)
  states_not why unsent same = ends_unsent b after f f' o o' (stating b taken v r) _ refl m why (sending_as b.sealer m _ _ f f' o o' (Err why) draft_as unsent) same

-- entering releasing with a lock message held
module _ (b after : Box) (f f' : ℕ) (o o' : List ℕ) (v : View) (h : Held) (holds : v.held ≡ Some h) (own : ℕ) (lock : List ℕ) (m : Meaning) (mine : own ≡ b.sealer.number) (is : lock ≡ h.bytes) where
  release_as : release_for (head_for own v.height v.round) h.slip lock ≡ release_draft b.sealer.number v h
  release_as i = release_for (head_for (mine i) v.height v.round) h.slip (is i)

  pub releases : (s : List (List ℕ)) → Sending b.sealer m (release_for (head_for own v.height v.round) h.slip lock) f f' o o' (Ok s) → after ≡ with_sealer b m (released_view v) → Outcome b after f f' o o' (Ok (releasing b taken v)) (Ok taken)
  releases s sent same =
      ends_sent b after f f' o o' (releasing b taken v) _ (ap (release_of b.sealer.number v) holds) m s (sending_as b.sealer m _ _ f f' o o' (Ok s) release_as sent) same

  pub releases_not : (why : Refusal) → Sending b.sealer m (release_for (head_for own v.height v.round) h.slip lock) f f' o o' (Err why) → after ≡ with_sealer b m b.view → Outcome b after f f' o o' (Ok (releasing b taken v)) (Err why)
  releases_not why unsent same =
      ends_unsent b after f f' o o' (releasing b taken v) _ (ap (release_of b.sealer.number v) holds) m why (sending_as b.sealer m _ _ f f' o o' (Err why) release_as unsent) same

-- a lock message that is held can be measured
pub short_lock : (l : List ℕ) → length l ≤ 760 → measurable l ≡ true
short_lock l small = grind (arith, nat_tests)

-- sending the recorded change again
module _ (b after : Box) (f f' : ℕ) (o o' : List ℕ) (l : Latest) (own : ℕ) (m : Meaning) (mine : own ≡ b.sealer.number) (known : Some l ≡ latest_of b.view own) where
  due : (resending b).draft ≡ Some (change_draft b.sealer.number b.view.height l.round l.page)
  due = ap (again b) (ap (latest_of b.view) (sym mine) ∙ sym known)

  again_as : change_draft own b.view.height l.round l.page ≡ change_draft b.sealer.number b.view.height l.round l.page
  again_as i = change_draft (mine i) b.view.height l.round l.page

  pub resends : (s : List (List ℕ)) → Sending b.sealer m (change_draft own b.view.height l.round l.page) f f' o o' (Ok s) → after ≡ with_sealer b m (with_ticks b.view 0) → Outcome b after f f' o o' (Ok (resending b)) (Ok taken)
  resends s sent same = ends_sent b after f f' o o' (resending b) _ due m s (sending_as b.sealer m _ _ f f' o o' (Ok s) again_as sent) same

  pub resends_not : (why : Refusal) → Sending b.sealer m (change_draft own b.view.height l.round l.page) f f' o o' (Err why) → after ≡ with_sealer b m b.view → Outcome b after f f' o o' (Ok (resending b)) (Err why)
  resends_not why unsent same = ends_unsent b after f f' o o' (resending b) _ due m why (sending_as b.sealer m _ _ f f' o o' (Err why) again_as unsent) same
