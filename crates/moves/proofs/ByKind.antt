-- What messages that are judged good come to, kind by kind.
use Rattle.std.proofs.Common.{◌≡◌, ℕ, Bool, true, false, cond, List, Some, None, Ok, Err, Option, Result, sym, refl, ap, ◌∙◌}
use Rattle.base.specs.declared.refusals.Refusal.{Refusal}
use Rattle.base.specs.declared.slips.Slip.{Slip}
use Rattle.base.specs.declared.stages.Stage.TheVariants.{Committing}
use Rattle.message.specs.Contents.{Cert, Locked}
use Rattle.message.specs.declared.shapes.Head.{Head}
use Rattle.protocol.specs.Judging.{latest_of, outranks, repeats, round_in, sender_in}
use Rattle.protocol.specs.Messages.{Answer, taken, shelved_page, commit_draft, holding, on_change, on_lock, on_release}
use Rattle.holding.specs.Locking.{locked_with}
use Rattle.protocol.specs.Plans.{Plan}
use Rattle.protocol.specs.Rounds.{called_for, highest_round, is_changing, moved, onward, plainly, recorded, recorded_by, stating, unlocked, with_candidates, with_latest}
use Rattle.protocol.specs.State.{View, Box}
use Rattle.seal.specs.Meaning.{Meaning}
use Rattle.sending.specs.Sending.{Sending}
use Rattle.holding.specs.Outcome.{Outcome}
use Rattle.holding.proofs.Endings.{with_sealer, outcome_as, sending_as, ends_quiet, ends_sent, ends_unsent}

module _ (b after : Box) (f f' : ℕ) (o o' : List ℕ) where
  -- a plan without a message, told otherwise
  plain_as : f' ≡ f → o' ≡ o → (v : View) (p : Plan Answer) → plainly taken v ≡ p → after ≡ with_sealer b b.sealer v → Outcome b after f f' o o' (Ok p) (Ok taken)
  plain_as same_fill same_out v p is same =
      outcome_as b after f f' o o' (Ok (plainly taken v)) (Ok p) (Ok taken) (ap Ok is) (ends_quiet b after f f' o o' same_fill same_out (plainly taken v) refl same)

  -- a change: a repeat, one after which no round is stated, and one after which a round is stated
  module _ (h : Head) (page : Option Slip) (rchg cand : List ℕ) where
    abbrev pub shelved_in : View
    shelved_in = with_latest (with_candidates b.view (shelved_page page b.view.candidates)) (sender_in h) (record { round = round_in h; page = page; rchg = rchg; cand = cand })

    change_as : (again : Bool) → again ≡ repeats (round_in h) page (latest_of b.view (sender_in h)) → cond again (plainly taken b.view) (recorded b taken shelved_in) ≡ on_change b h page rchg cand
    change_as again is = ap (λ t. cond t (plainly taken b.view) (recorded b taken shelved_in)) is

    pub repeated : f' ≡ f → o' ≡ o → true ≡ repeats (round_in h) page (latest_of b.view (sender_in h)) → after ≡ b → Outcome b after f f' o o' (Ok (on_change b h page rchg cand)) (Ok taken)
    repeated same_fill same_out again same = plain_as same_fill same_out b.view (on_change b h page rchg cand) (change_as true again) same

    pub uncalled : f' ≡ f → o' ≡ o → (v : View) → false ≡ repeats (round_in h) page (latest_of b.view (sender_in h)) → v ≡ shelved_in → None ≡ highest_round (called_for b.settings v) v.latest → after ≡ with_sealer b b.sealer (cond (is_changing v.stage) (onward b.settings v) v) → Outcome b after f f' o o' (Ok (on_change b h page rchg cand)) (Ok taken)
    uncalled same_fill same_out v first is none same =
        plain_as same_fill same_out (cond (is_changing v.stage) (onward b.settings v) v) (on_change b h page rchg cand)
        (ap (recorded_by b taken v) none ∙ ap (recorded b taken) is ∙ change_as false first)
        same

    pub called : (v : View) (r : ℕ) (answer : Result Answer Refusal) → false ≡ repeats (round_in h) page (latest_of b.view (sender_in h)) → v ≡ shelved_in → Some r ≡ highest_round (called_for b.settings v) v.latest → Outcome b after f f' o o' (Ok (stating b taken v r)) answer → Outcome b after f f' o o' (Ok (on_change b h page rchg cand)) answer
    called v r answer first is some ends =
        outcome_as b after f f' o o' (Ok (stating b taken v r)) (Ok (on_change b h page rchg cand)) answer
        (ap Ok (ap (recorded_by b taken v) some ∙ ap (recorded b taken) is ∙ change_as false first)) ends

  -- a lock, with its commit
  module _ (m : List ℕ) (h : Head) (c : Cert (List ℕ)) (s : Slip) (is : c.slip ≡ s) (own : ℕ) (mine : own ≡ b.sealer.number) (after-seal : Meaning) where
    commit_as : commit_draft own b.view.height (round_in h) s ≡ commit_draft b.sealer.number b.view.height (round_in h) c.slip
    commit_as i = commit_draft (mine i) b.view.height (round_in h) (sym is i)

    abbrev pub locked_view : Slip → View
    locked_view x = moved (locked_with b.view x (round_in h) b.view.candidates (holding b.view x (round_in h) m)) (round_in h) Committing

    pub commits : (seals : List (List ℕ)) → Sending b.sealer after-seal (commit_draft own b.view.height (round_in h) s) f f' o o' (Ok seals) → after ≡ with_sealer b after-seal (locked_view s) → Outcome b after f f' o o' (Ok (on_lock b m h c)) (Ok taken)
    commits seals sent same =
        ends_sent b after f f' o o' (on_lock b m h c) _ refl after-seal seals (sending_as b.sealer after-seal _ _ f f' o o' (Ok seals) commit_as sent)
        (same ∙ ap (λ x. with_sealer b after-seal (locked_view x)) (sym is))

    pub commits_not : (why : Refusal) → Sending b.sealer after-seal (commit_draft own b.view.height (round_in h) s) f f' o o' (Err why) → after ≡ with_sealer b after-seal b.view → Outcome b after f f' o o' (Ok (on_lock b m h c)) (Err why)
    commits_not why unsent same =
        ends_unsent b after f f' o o' (on_lock b m h c) _ refl after-seal why (sending_as b.sealer after-seal _ _ f f' o o' (Err why) commit_as unsent) same

  -- a release of a lock that is above every lock held
  module _ (l : List ℕ) (inner : Locked (List ℕ)) where
    abbrev pub relocked_view : View
    relocked_view = locked_with b.view inner.cert.slip (round_in inner.head) (unlocked b.view.candidates) (Some (record { slip = inner.cert.slip; round = round_in inner.head; bytes = l }))

    pub relocked : f' ≡ f → o' ≡ o → true ≡ outranks b.view inner → after ≡ with_sealer b b.sealer relocked_view → Outcome b after f f' o o' (Ok (on_release b l inner)) (Ok taken)
    relocked same_fill same_out above same =
        plain_as same_fill same_out relocked_view (on_release b l inner) (ap (λ t. plainly taken (cond t relocked_view b.view)) above) same
