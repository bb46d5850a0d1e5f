-- For whoever has replicas of another kind: each of their steps is no move or one, so what they come to is reached by a run.
-- Assumes nothing.
use Rattle.std.proofs.Common.{◌≡◌, ℕ, ◌<◌, true, false, eqb, List, [], ◌∷◌, ◌++◌, sym, refl, ap, ◌∙◌, subst}
use Rattle.std.proofs.lemmas.Bool.{cond_both, eqb-true, eqb-false}
use Rattle.agree.specs.Lists.{In}
use Rattle.agree.specs.Pool.{Pool, members, Event, Event.committed, Replica}
use Rattle.agree.specs.Moves.{Move, after, logged, Allowed}
use Rattle.agree.specs.Runs.{Act, World, played, Lawful}
use Rattle.agree.specs.Agreement.{Agreed}
use Rattle.agree.proofs.Facts.{Facts}
use Rattle.agree.proofs.Settled.{cert_one}
use Rattle.agree.proofs.Whole.{good_run, agreed}

module _ {P M : Type 0} (pool : Pool P M) (start : ℕ → Replica P M) where
  -- Some lawful run leads to these replicas and this log.
  abbrev pub Reached : (ℕ → Replica P M) → List (Event P M) → Type 0
  Reached now log = (run : List (Act P M)) × Lawful pool start run × ((j : ℕ) → (played pool start run).replicas j ≡ now j) × ((played pool start run).log ≡ log)

  pub reached_start : ((i : ℕ) → (start i).live ≡ false) → Reached start []
  reached_start shut = ([], shut, (λ j. refl), refl)

  -- one move of member i, the replicas of the others being what they were
  pub reached_move : (i : ℕ) (m : Move P M) (now next : ℕ → Replica P M) (log : List (Event P M)) → i < members pool → pool.sound i ≡ true → Allowed pool i (now i) log m → next i ≡ after pool (now i) m → ((j : ℕ) → (j ≡ i → ⊥) → next j ≡ now j) → Reached now log → Reached next (logged pool i (now i) m ++ log)
  reached_move i m now next log low sound ok mine others r =
      let here : (played pool start r.0).replicas i ≡ now i = r.2 i in
      let ok' : Allowed pool i ((played pool start r.0).replicas i) (played pool start r.0).log m =
      subst (λ s. Allowed pool i s (played pool start r.0).log m) (sym here) (subst (λ l. Allowed pool i (now i) l m) (sym r.3) ok) in (
        record { who = i; move = m } ∷ r.0,
        (r.1, low, sound, ok'),
        (λ j.
            cond_both (eqb j i) (after pool ((played pool start r.0).replicas i) m) ((played pool start r.0).replicas j) (λ s. s ≡ next j)
            (λ e. ap (λ s. after pool s m) here ∙ (sym mine ∙ ap next (sym (eqb-true j i e))))
            (λ e. r.2 j ∙ sym (others j (eqb-false j i e)))),
        ap (λ s. logged pool i s m ++ (played pool start r.0).log) here ∙ ap (λ l. logged pool i (now i) m ++ l) r.3,
      )

  -- no move
  pub reached_same : (now next : ℕ → Replica P M) (log : List (Event P M)) → ((j : ℕ) → next j ≡ now j) → Reached now log → Reached next log
  reached_same now next log same r = (r.0, r.1, (λ j. r.2 j ∙ sym (same j)), r.3)

  -- and so the theorem holds there
  pub reached_agreed : (now : ℕ → Replica P M) (log : List (Event P M)) → Reached now log → Agreed pool log
  reached_agreed now log r = subst (Agreed pool) r.3 (agreed pool (played pool start r.0) (good_run pool start r.0 r.1))

  -- as do the facts of each member
  pub reached_facts : (now : ℕ → Replica P M) (log : List (Event P M)) → Reached now log → (i : ℕ) → Facts pool i (now i) log
  reached_facts now log r i =
      subst (λ l. Facts pool i (now i) l) r.3
      (subst (λ s. Facts pool i s (played pool start r.0).log) (r.2 i) ((good_run pool start r.0 r.1).everyone i))

  -- commits of one height and round are to one page
  pub reached_commits : (now : ℕ → Replica P M) (log : List (Event P M)) → Reached now log → (i j h r : ℕ) (p q : P) → In (committed i h r p) log → In (committed j h r q) log → p ≡ q
  reached_commits now log r i j h k p q mine theirs =
      let w : World P M = played pool start r.0 in
      let good = good_run pool start r.0 r.1 in
      let mine' : In (committed i h k p) w.log = subst (λ l. In (committed i h k p) l) (sym r.3) mine in
      let theirs' : In (committed j h k q) w.log = subst (λ l. In (committed j h k q) l) (sym r.3) theirs in
      cert_one pool w good.everyone h k p q (good.book.commit_cert i h k p mine').0 (good.book.commit_cert j h k q theirs').0
