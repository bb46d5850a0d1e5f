-- Taking a lock, a select and a release.
use Rattle.std.proofs.Common.{◌≡◌, ℕ, ◌≤◌, Bool, true, false, cond, ltb, List, [], ◌∷◌, Some, Option, sym, refl, ap, ◌∙◌, subst, inl}
use Rattle.std.specs.List.{AllByRecursion as All}
use Rattle.std.proofs.lemmas.Bool.{and_parts, leb-true}
use Rattle.agree.specs.Pool.{Event.took, Event.committed, Replica, Certified}
use Rattle.agree.specs.Moves.{Move.locks, Move.releases}
use Rattle.agree.proofs.Log.{some_same}
use Rattle.base.specs.Pools.{members, last_round}
use Rattle.base.specs.declared.pools.Pool.{Pool}
use Rattle.base.specs.declared.slips.Mark.{Mark}
use Rattle.base.specs.declared.slips.Slip.{Slip}
use Rattle.base.specs.declared.stages.Stage.TheVariants.{Committing, Releasing}
use Rattle.base.specs.declared.statements.Word.TheVariants.{Cmit}
use Rattle.message.specs.Contents.{Cert, Locked, lock, select, release}
use Rattle.message.specs.Encoding.{LawfulHead, LawfulCert}
use Rattle.message.specs.declared.shapes.Head.{Head}
use Rattle.protocol.specs.Judging.{height_in, round_in, sender_in, all_members, from_leader, cert_familiar, checks_of, outranks, latest_of}
use Rattle.protocol.specs.Messages.{taken, commit_draft, holding, on_lock, in_round_of, on_select, on_release}
use Rattle.protocol.specs.Plans.{quiet, goes}
use Rattle.protocol.specs.Rounds.{is_resting, locks_of, shelved, locked_at, unlocked, with_candidates, with_held, plainly}
use Rattle.protocol.specs.Runs.{Assembly, World, SealedBefore, as_pool, box_of}
use Rattle.protocol.specs.State.{Held, View}
use Rattle.protocol.proofs.Certificates.{head_ranges, all_front, certified}
use Rattle.protocol.proofs.Judged.{Passed}
use Rattle.protocol.proofs.Keeping.{said, seen, look_at, Fair}
use Rattle.protocol.proofs.Locks.{kept_locked, kept_alone}
use Rattle.protocol.proofs.Settling.{late_one, Here, pool_is, fair_is, moves, Lands, plain_lands}
use Rattle.protocol.proofs.Shelf.{locks_shelved, fit_shelved, fit_locked, fit_map}
use Rattle.protocol.proofs.Stating.{says_fits, fair_candidates, fair_busy, releases_lands}

-- the quorum's members are the pool's
pub cert_members : (pool own : Pool) (h : Head) (c : Cert (List ℕ)) → own ≡ pool → cert_familiar own h c ≡ true → all_members pool c.votes ≡ true
cert_members pool own h c is e = subst (λ p. all_members p c.votes ≡ true) is (and_parts (all_members own c.votes) (from_leader own h) e).0

-- the held message is not seen
fair_held : (n : ℕ) (v : View) (o : Option Held) → Fair n v → Fair n (with_held v o)
fair_held n v o f = record { long = f.long; slips = f.slips; statements = f.statements; rest = f.rest; high = f.high; late = f.late }

module _ (a : Assembly) (start : ℕ → Replica Slip Mark) (w : World) (i : ℕ) (here : Here a start w i) (seals : List (List ℕ)) where
  pub lock_lands : (m : List ℕ) (h : Head) (c : Cert (List ℕ)) → Passed (box_of a i (w.stations i)) (record { head = h; content = lock c }) → LawfulHead h → LawfulCert a.pool (a.long i) c
      → Lands a start w i here (All (SealedBefore a w.sealed) (checks_of h (lock c)))
      (committed i (w.stations i).view.height (round_in h) c.slip ∷ (took i (w.stations i).view.height (round_in h) c.slip ∷ []))
      seals (on_lock (box_of a i (w.stations i)) m h c)
  lock_lands m h c passed range lawful =
      let v : View = (w.stations i).view in
      let fair : Fair (members a.pool) v = fair_is a start w i here in
      let known : all_members a.pool c.votes ≡ true = cert_members a.pool _ h c (pool_is a start w i here) (and_parts (ltb (sender_in h) _) _ passed.known).1 in
      let late : round_in h ≤ last_round = (head_ranges h range).1 in (
        late_one _,
        λ vouched.
            let cert : Certified (as_pool a) w.events v.height (round_in h) c.slip =
            subst (λ x. Certified (as_pool a) w.events x (round_in h) c.slip) passed.height_is (certified a w here.good.told (a.long i) h c range lawful known 2 false vouched.1) in
            moves a start w i here
            (goes (box_of a i (w.stations i)) (on_lock (box_of a i (w.stations i)) m h c) (commit_draft i v.height (round_in h) c.slip) seals)
            (committed i v.height (round_in h) c.slip ∷ (took i v.height (round_in h) c.slip ∷ []))
            (locks (round_in h) c.slip true (locks_of (locked_at c.slip (round_in h) (shelved c.slip v.candidates))))
            (look_at i v) refl
            (refl, leb-true v.round (round_in h) passed.round_taken_lem, cert, kept_locked c.slip (round_in h) v.candidates, λ yes. passed.admitted)
            refl
            (fair_busy _ _ (round_in h) Committing refl late
            (fair_held _ _ (holding v c.slip (round_in h) m)
            (fair_candidates _ v _ (fit_locked c.slip (round_in h) _ (fit_shelved c.slip v.candidates lawful.slip_fits fair.slips)) fair)))
            ((says_fits Cmit v.height (round_in h) (Some c.slip) fair.high late lawful.slip_fits, λ p e. inl (ap (committed i v.height (round_in h)) (sym (some_same e)))), tt)
            refl,
      )

  pub select_lands : (V : Type 0) (h : Head) (c : Cert (List ℕ)) → Passed (box_of a i (w.stations i)) (record { head = h; content = select c }) → LawfulHead h → LawfulCert a.pool (a.long i) c
      → Lands a start w i here V [] seals (on_select (box_of a i (w.stations i)) h c)
  select_lands V h c passed range lawful =
      let v : View = (w.stations i).view in
      let fair : Fair (members a.pool) v = fair_is a start w i here in
      let u : View = with_candidates v (shelved c.slip v.candidates) in
      let f = fair_busy _ u (round_in h) Releasing refl (head_ranges h range).1 (fair_candidates _ v _ (fit_shelved c.slip v.candidates lawful.slip_fits fair.slips) fair) in
      releases_lands a start w i here V seals taken (in_round_of u (round_in h)) v.round (is_resting v.stage)
      (λ t. seen v.height v.round (is_resting v.stage) (said (latest_of v i)) (sym (locks_shelved c.slip v.candidates) t) v.last)
      (leb-true v.round (round_in h) passed.round_taken_lem)
      (record { long = f.long; slips = f.slips; statements = f.statements; rest = f.rest; high = f.high; late = f.late })

  pub release_lands : (h : Head) (l : List ℕ) (inner : Locked (List ℕ)) (x : List ℕ) → Passed (box_of a i (w.stations i)) (record { head = h; content = release l inner x }) → LawfulHead inner.head → LawfulCert a.pool (a.long i) inner.cert → height_in inner.head ≡ height_in h
      → Lands a start w i here (All (SealedBefore a w.sealed) (checks_of h (release l inner x)))
      (cond (outranks (w.stations i).view inner) (took i (w.stations i).view.height (round_in inner.head) inner.cert.slip ∷ []) [])
      seals (on_release (box_of a i (w.stations i)) l inner)
  release_lands h l inner x passed range lawful same = by (outranks (w.stations i).view inner) refl
    where
      V : Type 0
      V = All (SealedBefore a w.sealed) (checks_of h (release l inner x))

      v : View
      v = (w.stations i).view

      s : Slip
      s = inner.cert.slip

      r : ℕ
      r = round_in inner.head

      fair : Fair (members a.pool) v
      fair = fair_is a start w i here

      known : all_members a.pool inner.cert.votes ≡ true
      known = cert_members a.pool _ inner.head inner.cert (pool_is a start w i here) (and_parts (ltb (sender_in h) _) _ passed.known).1

      next : View
      next = with_held (with_candidates v (locked_at s r (shelved s (unlocked v.candidates)))) (Some (record { slip = s; round = r; bytes = l }))

      fair' : Fair (members a.pool) next
      fair' =
          fair_held _ _ _
          (fair_candidates _ v _ (fit_locked s r _ (fit_shelved s (unlocked v.candidates) lawful.slip_fits (fit_map _ (λ c. refl) v.candidates fair.slips))) fair)

      cert : V → Certified (as_pool a) w.events v.height r s
      cert vouched =
          subst (λ k. Certified (as_pool a) w.events k r s) (same ∙ passed.height_is)
          (certified a w here.good.told (a.long i) inner.head inner.cert range lawful known 2 true (all_front (SealedBefore a w.sealed) _ _ vouched.1))

      by : (t : Bool) → outranks v inner ≡ t → Lands a start w i here V (cond t (took i v.height r s ∷ []) []) seals (plainly taken (cond t next v))
      by false e = plain_lands a start w i here V seals taken v refl fair
      by true e = (
        tt,
        λ vouched.
            moves a start w i here (quiet (box_of a i (w.stations i)) (plainly taken next)) (took i v.height r s ∷ [])
            (releases r s (locks_of (locked_at s r (shelved s (unlocked v.candidates))))) (look_at i v) refl
            (refl, cert vouched, kept_alone s r v.candidates e) refl fair' tt refl,
      )
