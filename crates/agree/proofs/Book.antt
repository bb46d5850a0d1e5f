-- What the log says of itself: locks and commits have their certificates, pages entered stand on one another.
-- Assumes nothing.
use Rattle.std.proofs.Common.{◌≡◌, ℕ, true, List, [], ◌++◌, sym, refl, subst, inl, inr}
use Rattle.agree.specs.Lists.{In}
use Rattle.agree.specs.Pool.{Pool, Event, Event.took, Event.committed, Event.entered, Replica, Certified, Decided}
use Rattle.agree.specs.Moves.{Move, Move.locks, Move.enters, logged, Allowed}
use Rattle.agree.specs.Agreement.{Follows}
use Rattle.agree.proofs.Gains.{Commits, new_committed, new_took, Enters, new_entered}
use Rattle.agree.proofs.Facts.{Facts, cert_more, decided_more, follows_more}

module _ {P M : Type 0} (pool : Pool P M) where
  pub record Book (log : List (Event P M)) : Type 0 where
    pub took_cert : (i h r : ℕ) (p : P) → In (took i h r p) log → Certified pool log h r p
    pub commit_cert : (i h r : ℕ) (p : P) → In (committed i h r p) log → Certified pool log h r p × (pool.admits i h p ≡ true)
    pub entered_cert : (i h : ℕ) (p : P) → In (entered i h p) log → (r : ℕ) × Decided pool log h r p
    pub entered_mark : (i h : ℕ) (p : P) → In (entered i h p) log → Follows pool log i h (pool.parent p)

  pub empty_book : Book []
  empty_book = record {
    took_cert = λ i h r p e. absurd e;
    commit_cert = λ i h r p e. absurd e;
    entered_cert = λ i h p e. absurd e;
    entered_mark = λ i h p e. absurd e;
  }

module _ {P M : Type 0} (pool : Pool P M) (i : ℕ) (s : Replica P M) (log : List (Event P M)) (m : Move P M) (a : Allowed pool i s log m) (f : Facts pool i s log) where
  -- what the move's own commit and its own entering say, of the log before it
  new_commit : (j h r : ℕ) (p : P) → Commits pool i s log m j h r p → Certified pool log h r p × (pool.admits j h p ≡ true)
  new_commit j h r p n =
      let b : Allowed pool i s log (locks r p true n.2.0) = subst (Allowed pool i s log) n.2.1 a in (
        subst (λ k. Certified pool log k r p) (sym n.1) b.2,
        subst (λ k. pool.admits k h p ≡ true) (sym n.0) (subst (λ k. pool.admits i k p ≡ true) (sym n.1) (b.4 refl)),
      )

  new_enter : (j h : ℕ) (p : P) → Enters pool i s log m j h p → ((r : ℕ) × Decided pool log h r p) × Follows pool log j h (pool.parent p)
  new_enter j h p n =
      let r : ℕ = n.2.0 in
      let b : Allowed pool i s log (enters r p) = subst (Allowed pool i s log) n.2.1 a in (
        (r, subst (λ k. Decided pool log k r p) (sym n.1) b.1),
        subst (λ k. Follows pool log k h (pool.parent p)) (sym n.0)
            (subst (λ k. Follows pool log i k (pool.parent p)) (sym n.1) (subst (λ k. Follows pool log i s.height k) (sym b.2) (f.last_mark_lem b.0))),
      )

  pub next_book : Book pool log → Book pool (logged pool i s m ++ log)
  next_book old = record {
    took_cert = λ j h r p e.
        let more : Certified pool log h r p → Certified pool (logged pool i s m ++ log) h r p = cert_more pool (logged pool i s m) log h r p in
        elim (new_took pool i s log m a j h r p e) [ inl k ↦ more (old.took_cert j h r p k) | inr c ↦ more c ];
    commit_cert = λ j h r p e.
        let more : Certified pool log h r p × (pool.admits j h p ≡ true) → Certified pool (logged pool i s m ++ log) h r p × (pool.admits j h p ≡ true) =
        λ x. (cert_more pool (logged pool i s m) log h r p x.0, x.1) in
        elim (new_committed pool i s log m j h r p e) [ inl k ↦ more (old.commit_cert j h r p k) | inr n ↦ more (new_commit j h r p n) ];
    entered_cert = λ j h p e.
        let more : ((r : ℕ) × Decided pool log h r p) → ((r : ℕ) × Decided pool (logged pool i s m ++ log) h r p) =
        λ x. (x.0, decided_more pool (logged pool i s m) log h x.0 p x.1) in
        elim (new_entered pool i s log m j h p e) [ inl k ↦ more (old.entered_cert j h p k) | inr n ↦ more (new_enter j h p n).0 ];
    entered_mark = λ j h p e.
        let more : Follows pool log j h (pool.parent p) → Follows pool (logged pool i s m ++ log) j h (pool.parent p) =
        follows_more pool (logged pool i s m) log j h (pool.parent p) in
        elim (new_entered pool i s log m j h p e) [ inl k ↦ more (old.entered_mark j h p k) | inr n ↦ more (new_enter j h p n).1 ];
  }
