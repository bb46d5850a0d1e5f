-- What an event that the log has after a move says: it was there before, or it is that move's.
-- Assumes nothing.
use Rattle.std.proofs.Common.{◌≡◌, ℕ, true, false, ◌⊎◌, List, ◌∷◌, ◌++◌, Some, Option, sym, subst, inl, inr, arith}
use Rattle.agree.specs.Lists.{In}
use Rattle.agree.specs.Pool.{Pool, Event, Event.opened, Event.stated, Event.took, Event.committed, Event.entered, Lock, Replica, Certified}
use Rattle.agree.specs.Moves.{Move, Move.starts, Move.states, Move.repeats, Move.locks, Move.passes, Move.releases, Move.enters, logged, Allowed}
use Rattle.agree.proofs.Log.{skip, stated_same, committed_same, took_same, entered_same}

module _ {P M : Type 0} (pool : Pool P M) (i : ℕ) (s : Replica P M) (log : List (Event P M)) where
  -- a candidate stated by the move m
  abbrev pub States : Move P M → ℕ → ℕ → ℕ → Option P → Type 0
  States m j h r c = (j ≡ i) × (h ≡ s.height) × (m ≡ states r c)

  -- the latest candidate is in the log
  abbrev pub Told : Type 0
  Told = (r : ℕ) (c : Option P) → s.live ≡ true → s.latest ≡ Some (record { round = r; page = c }) → In (stated i s.height r c) log

  pub new_stated : Told → (m : Move P M) → Allowed pool i s log m → (j h r : ℕ) (c : Option P) → In (stated j h r c) (logged pool i s m ++ log) → In (stated j h r c) log ⊎ States m j h r c
  new_stated told (starts k x) a j h r c e = inl (skip (stated j h r c) (opened i k x) log (omega arith) e)
  new_stated told (states r' c') a j h r c e =
      elim e [ inl q ↦ (let same : (j ≡ i) × (h ≡ s.height) × (r ≡ r') × (c ≡ c') = stated_same q in inr (same.0, same.1, cc)) | inr k ↦ inl k ]
  new_stated told (repeats r' c') a j h r c e =
      elim e [ inl q ↦ inl (subst (λ x. In x log) (sym q) (told r' c' a.0 a.1)) | inr k ↦ inl k ]
  new_stated told (locks r' p true ls) a j h r c e =
      inl (skip (stated j h r c) (took i s.height r' p) log (omega arith) (skip (stated j h r c) (committed i s.height r' p) (took i s.height r' p ∷ log) (omega arith) e))
  new_stated told (locks r' p false ls) a j h r c e = inl (skip (stated j h r c) (took i s.height r' p) log (omega arith) e)
  new_stated told (passes r' ls) a j h r c e = inl e
  new_stated told (releases r' p ls) a j h r c e = inl (skip (stated j h r c) (took i s.height r' p) log (omega arith) e)
  new_stated told (enters r' p) a j h r c e = inl (skip (stated j h r c) (entered i s.height p) log (omega arith) e)

  -- a commit made by the move m
  abbrev pub Commits : Move P M → ℕ → ℕ → ℕ → P → Type 0
  Commits m j h r p = (j ≡ i) × (h ≡ s.height) × ((ls : List (Lock P)) × (m ≡ locks r p true ls))

  pub new_committed : (m : Move P M) → (j h r : ℕ) (p : P) → In (committed j h r p) (logged pool i s m ++ log) → In (committed j h r p) log ⊎ Commits m j h r p
  new_committed (starts k x) j h r p e = inl (skip (committed j h r p) (opened i k x) log (omega arith) e)
  new_committed (states r' c) j h r p e = inl (skip (committed j h r p) (stated i s.height r' c) log (omega arith) e)
  new_committed (repeats r' c) j h r p e = inl (skip (committed j h r p) (stated i s.height r' c) log (omega arith) e)
  new_committed (locks r' p' true ls) j h r p e =
      elim e [
        | inl q ↦ (let same : (j ≡ i) × (h ≡ s.height) × (r ≡ r') × (p ≡ p') = committed_same q in inr (same.0, same.1, (ls, cc)))
        | inr k ↦ inl (skip (committed j h r p) (took i s.height r' p') log (omega arith) k)
      ]
  new_committed (locks r' p' false ls) j h r p e = inl (skip (committed j h r p) (took i s.height r' p') log (omega arith) e)
  new_committed (passes r' ls) j h r p e = inl e
  new_committed (releases r' p' ls) j h r p e = inl (skip (committed j h r p) (took i s.height r' p') log (omega arith) e)
  new_committed (enters r' p') j h r p e = inl (skip (committed j h r p) (entered i s.height p') log (omega arith) e)

  -- a lock that the move takes has its certificate
  lock_of_lem : (j h r r' : ℕ) (p p' : P) → ◌≡◌ {A = Event P M} (took j h r p) (took i s.height r' p') → Certified pool log s.height r' p' → Certified pool log h r p
  lock_of_lem j h r r' p p' q cert =
      let same : (j ≡ i) × (h ≡ s.height) × (r ≡ r') × (p ≡ p') = took_same q in
      subst (λ k. Certified pool log k r p) (sym same.1)
      (subst (λ k. Certified pool log s.height k p) (sym same.2) (subst (λ k. Certified pool log s.height r' k) (sym same.3) cert))

  pub new_took : (m : Move P M) → Allowed pool i s log m → (j h r : ℕ) (p : P) → In (took j h r p) (logged pool i s m ++ log) → In (took j h r p) log ⊎ Certified pool log h r p
  new_took (starts k x) a j h r p e = inl (skip (took j h r p) (opened i k x) log (omega arith) e)
  new_took (states r' c) a j h r p e = inl (skip (took j h r p) (stated i s.height r' c) log (omega arith) e)
  new_took (repeats r' c) a j h r p e = inl (skip (took j h r p) (stated i s.height r' c) log (omega arith) e)
  new_took (locks r' p' true ls) a j h r p e =
      elim (skip (took j h r p) (committed i s.height r' p') (took i s.height r' p' ∷ log) (omega arith) e)
      [ inl q ↦ inr (lock_of_lem j h r r' p p' q a.2) | inr k ↦ inl k ]
  new_took (locks r' p' false ls) a j h r p e = elim e [ inl q ↦ inr (lock_of_lem j h r r' p p' q a.2) | inr k ↦ inl k ]
  new_took (passes r' ls) a j h r p e = inl e
  new_took (releases r' p' ls) a j h r p e = elim e [ inl q ↦ inr (lock_of_lem j h r r' p p' q a.1) | inr k ↦ inl k ]
  new_took (enters r' p') a j h r p e = inl (skip (took j h r p) (entered i s.height p') log (omega arith) e)

  -- a page entered by the move m
  abbrev pub Enters : Move P M → ℕ → ℕ → P → Type 0
  Enters m j h p = (j ≡ i) × (h ≡ s.height) × ((r : ℕ) × (m ≡ enters r p))

  pub new_entered : (m : Move P M) → (j h : ℕ) (p : P) → In (entered j h p) (logged pool i s m ++ log) → In (entered j h p) log ⊎ Enters m j h p
  new_entered (starts k x) j h p e = inl (skip (entered j h p) (opened i k x) log (omega arith) e)
  new_entered (states r' c) j h p e = inl (skip (entered j h p) (stated i s.height r' c) log (omega arith) e)
  new_entered (repeats r' c) j h p e = inl (skip (entered j h p) (stated i s.height r' c) log (omega arith) e)
  new_entered (locks r' p' true ls) j h p e =
      inl (skip (entered j h p) (took i s.height r' p') log (omega arith) (skip (entered j h p) (committed i s.height r' p') (took i s.height r' p' ∷ log) (omega arith) e))
  new_entered (locks r' p' false ls) j h p e = inl (skip (entered j h p) (took i s.height r' p') log (omega arith) e)
  new_entered (passes r' ls) j h p e = inl e
  new_entered (releases r' p' ls) j h p e = inl (skip (entered j h p) (took i s.height r' p') log (omega arith) e)
  new_entered (enters r' p') j h p e =
      elim e [ inl q ↦ (let same : (j ≡ i) × (h ≡ s.height) × (p ≡ p') = entered_same q in inr (same.0, same.1, (r', cc))) | inr k ↦ inl k ]
