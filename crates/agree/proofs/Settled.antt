-- Once t + 1 sound members have committed to a page, or can still do no other, no later round certifies another.
-- Assumes nothing.
use Rattle.std.proofs.Common.{◌≡◌, ℕ, ◌+◌, ◌<◌, ◌≤◌, Bool, true, false, eqb, ◌⊎◌, List, ◌++◌, Some, sym, subst, inl, inr, arith}
use Rattle.std.proofs.lemmas.Bool.{both_ways, cases_order, cond_both, cond-true, eqb-true, eqb-false, eq-eqb}
use Rattle.agree.specs.Lists.{In, count}
use Rattle.agree.specs.Pool.{Pool, members, Event, Event.stated, Event.committed, Lock, Replica, Certified}
use Rattle.agree.specs.Moves.{Move, Move.starts, Move.states, Move.repeats, Move.locks, Move.passes, Move.releases, Move.enters, after, logged, Allowed}
use Rattle.agree.specs.Runs.{World, step}
use Rattle.agree.proofs.Log.{all_in, skip, some_same}
use Rattle.agree.proofs.Quorums.{meet, share_sound}
use Rattle.agree.proofs.Gains.{new_committed, new_stated}
use Rattle.agree.proofs.Facts.{Facts}
use Rattle.agree.proofs.Keeps.{still_committed}
use Rattle.agree.proofs.Book.{Book}

module _ {P M : Type 0} where
  -- The replica has not passed round r of height h.
  abbrev pub Free : Replica P M → ℕ → ℕ → Type 0
  Free s h r = (s.live ≡ false) ⊎ ((s.height < h) ⊎ ((s.height ≡ h) × (s.round ≤ r)))

  -- Member i has committed to p at (h, r), or can still do so.
  abbrev pub Can : ℕ → Replica P M → List (Event P M) → ℕ → ℕ → P → Type 0
  Can i s log h r p = In (committed i h r p) log ⊎ Free s h r

module _ {P M : Type 0} (pool : Pool P M) (i : ℕ) (s : Replica P M) (log : List (Event P M)) where
  -- what is free after a move was free before it
  free_before : (m : Move P M) → Allowed pool i s log m → (h r : ℕ) → Free (after pool s m) h r → Free s h r
  free_before (starts k x) a h r f = inl a
  free_before (states r' c) a h r f =
      elim f [ inl d ↦ inl d | inr g ↦ elim g [ inl l ↦ inr (inl l) | inr e ↦ inr (inr (e.0, elim a.1 [ inl w ↦ omega arith | inr w ↦ omega arith ])) ] ]
  free_before (repeats r' c) a h r f = f
  free_before (locks r' p b ls) a h r f =
      elim f [ inl d ↦ inl d | inr g ↦ elim g [ inl l ↦ inr (inl l) | inr e ↦ inr (inr (e.0, omega arith)) ] ]
  free_before (passes r' ls) a h r f =
      elim f [ inl d ↦ inl d | inr g ↦ elim g [ inl l ↦ inr (inl l) | inr e ↦ inr (inr (e.0, omega arith)) ] ]
  free_before (releases r' p ls) a h r f = f
  free_before (enters r' p) a h r f =
      elim f [ inl d ↦ inl d | inr g ↦ elim g [ inl l ↦ inr (inl (omega arith)) | inr e ↦ inr (inl (omega arith)) ] ]

  can_before : (m : Move P M) → Allowed pool i s log m → (h r : ℕ) (p : P) → Can i (after pool s m) (logged pool i s m ++ log) h r p → Can i s log h r p
  can_before m a h r p can =
      elim can [
        | inl e ↦
            elim (new_committed pool i s log m i h r p e) [
              | inl old ↦ inl old
              | inr n ↦ (let b : Allowed pool i s log (locks r p true n.2.0) = subst (Allowed pool i s log) n.2.1 a in inr (inr (inr (sym n.1, b.1))))
            ]
        | inr f ↦ inr (free_before m a h r f)
      ]

  -- who has stated a round above r, and can have committed in r, has done so
  committed_first : (r k : ℕ) (p q : P) → Allowed pool i s log (states k (Some q)) → r < k → Can i (after pool s (states k (Some q))) (logged pool i s (states k (Some q)) ++ log) s.height r p → In (committed i s.height r p) log
  committed_first r k p q a above can =
      elim can [
        | inl e ↦ skip (committed i s.height r p) (stated i s.height k (Some q)) log (omega arith) e
        | inr f ↦ elim f [ inl d ↦ absurd (both_ways s.live d a.0) | inr g ↦ elim g [ inl l ↦ absurd (omega arith) | inr e ↦ absurd (omega arith) ] ]
      ]

module _ {P M : Type 0} (pool : Pool P M) where
  abbrev pub Everyone : World P M → Type 0
  Everyone w = (i : ℕ) → Facts pool i (w.replicas i) w.log

  -- sound members, t + 1 or more of them, who have committed to p at (h, r) or can still do so
  abbrev pub Committing : World P M → ℕ → ℕ → P → (ℕ → Bool) → Type 0
  Committing w h r p c = (pool.t + 1 ≤ count c (members pool)) × ((i : ℕ) → c i ≡ true → (pool.sound i ≡ true) × Can i (w.replicas i) w.log h r p)

  -- none of them states another page in a later round
  abbrev pub Settled : World P M → Type 0
  Settled w = (h r : ℕ) (p : P) (c : ℕ → Bool) → Committing w h r p c → (i k : ℕ) (q : P) → c i ≡ true → r < k → In (stated i h k (Some q)) w.log → q ≡ p

  -- two certificates of one height and round are for one page
  pub cert_one : (w : World P M) → Everyone w → (h r : ℕ) (p q : P) → Certified pool w.log h r p → Certified pool w.log h r q → p ≡ q
  cert_one w all h r p q c d =
      let both : (i : ℕ) × (pool.sound i ≡ true) × In (stated i h r (Some p)) w.log × In (stated i h r (Some q)) w.log =
      share_sound pool (λ i. In (stated i h r (Some p)) w.log) (λ i. In (stated i h r (Some q)) w.log) c d in
      some_same ((all both.0).stated_one h r (Some p) (Some q) both.2 both.3)

  -- a certificate of a later round is for the page committed to
  pub cert_later : (w : World P M) → Settled w → (h r : ℕ) (p : P) (c : ℕ → Bool) → Committing w h r p c → (k : ℕ) (q : P) → r < k → Certified pool w.log h k q → q ≡ p
  cert_later w settled h r p c those k q above cert =
      let one : (i : ℕ) × (c i ≡ true) × (pool.sound i ≡ true → In (stated i h k (Some q)) w.log) =
      meet pool (λ i. pool.sound i ≡ true → In (stated i h k (Some q)) w.log) cert c those.0 in
      settled h r p c those one.0 k q one.1 above (one.2 (those.1 one.0 one.1).0)

module _ {P M : Type 0} (pool : Pool P M) (w : World P M) (i : ℕ) (m : Move P M) (a : Allowed pool i (w.replicas i) w.log m) (all : Everyone pool w) where
  can_step : (j h r : ℕ) (p : P) → Can j ((step pool (record { who = i; move = m }) w).replicas j) (step pool (record { who = i; move = m }) w).log h r p → Can j (w.replicas j) w.log h r p
  can_step j h r p =
      let s : Replica P M = w.replicas i in
      let new : List (Event P M) = logged pool i s m ++ w.log in
      cond_both (eqb j i) (after pool s m) (w.replicas j) (λ u. Can j u new h r p → Can j (w.replicas j) w.log h r p)
      (λ e. subst (λ k. Can k (after pool s m) new h r p → Can k (w.replicas k) w.log h r p) (sym (eqb-true j i e)) (can_before pool i s w.log m a h r p))
      (λ e can. elim can [ inl d ↦ inl (still_committed pool i s w.log m a (all i).stated_last j (eqb-false j i e) h r p d) | inr f ↦ inr f ])

  -- the page that the mover states in a later round is the one committed to
  same_page_lem : Book pool w.log → Settled pool w → (h r : ℕ) (p : P) (c : ℕ → Bool) → Committing pool w h r p c → (k : ℕ) (q : P) → r < k → Allowed pool i (w.replicas i) w.log (states k (Some q)) → h ≡ (w.replicas i).height → In (committed i h r p) w.log → q ≡ p
  same_page_lem book settled h r p c those k q above b at' done =
      let s : Replica P M = w.replicas i in
      let l : (l : Lock P) × In l s.held × (r ≤ l.round) = (all i).commit_held h r p done at' in
      let page : l.0.page ≡ q = all_in (λ (o : Lock P). o.page ≡ q) s.held l.0 b.2 l.1 in
      let cert : Certified pool w.log h l.0.round q =
      subst (λ x. Certified pool w.log h l.0.round x) page
      (subst (λ x. Certified pool w.log x l.0.round l.0.page) (sym at') ((all i).held_cert b.0 l.0 l.1)) in
      elim (cases_order r l.0.round) [
        | inl e ↦ cert_one pool w all h r q p (subst (λ x. Certified pool w.log h x q) (sym e) cert) (book.commit_cert i h r p done).0
        | inr o ↦
            elim o [
              | inl lt ↦ cert_later pool w settled h r p c those l.0.round q lt cert
              | inr gt ↦ absurd (omega (arith, l.2))
            ]
      ]

  pub still_settled : Book pool w.log → Settled pool w → Settled pool (step pool (record { who = i; move = m }) w)
  still_settled book settled h r p c those j k q in' above e =
      let s : Replica P M = w.replicas i in
      let before : Committing pool w h r p c = (those.0, λ x y. ((those.1 x y).0, can_step x h r p (those.1 x y).1)) in
      elim (new_stated pool i s w.log (all i).stated_last m a j h k (Some q) e) [
        | inl old ↦ settled h r p c before j k q in' above old
        | inr n ↦
            (let b : Allowed pool i s w.log (states k (Some q)) = subst (Allowed pool i s w.log) n.2 a in
            let can : Can j (after pool s m) (logged pool i s m ++ w.log) h r p =
            subst (λ u. Can j u (logged pool i s m ++ w.log) h r p) (cond-true (eqb j i) (after pool s m) (w.replicas j) (eq-eqb j i n.0)) (those.1 j in').1 in
            let mine : Can i (after pool s (states k (Some q))) (logged pool i s (states k (Some q)) ++ w.log) s.height r p =
            subst (λ x. Can i (after pool s x) (logged pool i s x ++ w.log) s.height r p) n.2
            (subst (λ x. Can i (after pool s m) (logged pool i s m ++ w.log) x r p) n.1
            (subst (λ x. Can x (after pool s m) (logged pool i s m ++ w.log) h r p) n.0 can)) in
            let done : In (committed i h r p) w.log = subst (λ x. In (committed i x r p) w.log) (sym n.1) (committed_first pool i s w.log r k p q b above mine) in
            same_page_lem book settled h r p c before k q above b n.1 done)
      ]
