-- A move keeps the facts of its own member and of every other. Assumes nothing.
use Rattle.std.proofs.Common.{◌≡◌, ℕ, ◌≤◌, true, List, ◌∷◌, ◌++◌, Some, Option, sym, refl, ◌∙◌, subst, inl, inr, arith}
use Rattle.std.proofs.lemmas.Bool.{both_ways}
use Rattle.agree.specs.Lists.{In}
use Rattle.agree.specs.Pool.{Pool, Event, Event.stated, Event.committed, Lock, Replica, Certified}
use Rattle.agree.specs.Moves.{Move, Move.starts, Move.states, Move.repeats, Move.locks, Move.passes, Move.releases, Move.enters, Kept, Ahead, after, logged, Allowed}
use Rattle.agree.specs.Agreement.{Follows}
use Rattle.agree.proofs.Log.{in_old, all_in, none_some, some_same, same_statement}
use Rattle.agree.proofs.Gains.{Told, new_stated, new_committed}
use Rattle.agree.proofs.Facts.{Past, Facts, cert_more, follows_more, grows, past_stays, held_stays}

module _ {P M : Type 0} (pool : Pool P M) (i : ℕ) (s : Replica P M) (log : List (Event P M)) where
  -- at a place that is yet to be stated nothing was
  fresh_place : Facts pool i s log → (r : ℕ) → Ahead s r → (h : ℕ) (c : Option P) → h ≡ s.height → In (stated i h r c) log → ⊥
  fresh_place f r ahead h c e old =
      elim (f.stated_past h r c old).1 [
        | inl l ↦ omega arith
        | inr k ↦ elim ahead [ inl w ↦ both_ways s.rests k.2 w.0 | inr w ↦ omega arith ]
      ]

  -- the locks left have their certificates: each was held or is the one taken
  left_cert : (r : ℕ) (p : P) (ls : List (Lock P)) → Kept (record { page = p; round = r } ∷ s.held) ls → Certified pool log s.height r p → ((l : Lock P) → In l s.held → Certified pool log s.height l.round l.page) → (l : Lock P) → In l ls → Certified pool log s.height l.round l.page
  left_cert r p ls kept cert old l in' =
      elim (all_in (λ k. In k (record { page = p; round = r } ∷ s.held)) ls l kept.0 in') [
        | inl e ↦ subst (λ (k : Lock P). Certified pool log s.height k.round k.page) (sym e) cert
        | inr o ↦ old l o
      ]

  kept_cert : (m : Move P M) → Allowed pool i s log m → Facts pool i s log → (after pool s m).live ≡ true → (l : Lock P) → In l (after pool s m).held → Certified pool log (after pool s m).height l.round l.page
  kept_cert (starts h x) a f live l in' = absurd in'
  kept_cert (states r c) a f live l in' = f.held_cert live l in'
  kept_cert (repeats r c) a f live l in' = f.held_cert live l in'
  kept_cert (locks r p b ls) a f live l in' = left_cert r p ls a.3 a.2 (f.held_cert live) l in'
  kept_cert (passes r ls) a f live l in' = f.held_cert live l (all_in (λ k. In k s.held) ls l a.2.0 in')
  kept_cert (releases r p ls) a f live l in' = left_cert r p ls a.2 a.1 (f.held_cert live) l in'
  kept_cert (enters r p) a f live l in' = absurd in'

  kept_last : (m : Move P M) → Allowed pool i s log m → Facts pool i s log → (r : ℕ) (c : Option P) → (after pool s m).live ≡ true → (after pool s m).latest ≡ Some (record { round = r; page = c }) → In (stated i (after pool s m).height r c) (logged pool i s m ++ log)
  kept_last (starts h x) a f r c live e = absurd (none_some e)
  kept_last (states r' c') a f r c live e = inl (same_statement i s.height r c r' c' (some_same e))
  kept_last (repeats r' c') a f r c live e = inr (f.stated_last r c live e)
  kept_last (locks r' p b ls) a f r c live e = in_old (logged pool i s (locks r' p b ls)) log (stated i s.height r c) (f.stated_last r c live e)
  kept_last (passes r' ls) a f r c live e = f.stated_last r c live e
  kept_last (releases r' p ls) a f r c live e = inr (f.stated_last r c live e)
  kept_last (enters r' p) a f r c live e = absurd (none_some e)

  kept_mark : (m : Move P M) → Allowed pool i s log m → Facts pool i s log → (after pool s m).live ≡ true → Follows pool (logged pool i s m ++ log) i (after pool s m).height (after pool s m).last
  kept_mark (starts h x) a f live = inr (inl refl)
  kept_mark (states r c) a f live = follows_more pool (logged pool i s (states r c)) log i s.height s.last (f.last_mark_lem live)
  kept_mark (repeats r c) a f live = follows_more pool (logged pool i s (repeats r c)) log i s.height s.last (f.last_mark_lem live)
  kept_mark (locks r p b ls) a f live = follows_more pool (logged pool i s (locks r p b ls)) log i s.height s.last (f.last_mark_lem live)
  kept_mark (passes r ls) a f live = follows_more pool (logged pool i s (passes r ls)) log i s.height s.last (f.last_mark_lem live)
  kept_mark (releases r p ls) a f live = follows_more pool (logged pool i s (releases r p ls)) log i s.height s.last (f.last_mark_lem live)
  kept_mark (enters r p) a f live = inl (s.height, p, refl, inl refl, refl)

module _ {P M : Type 0} (pool : Pool P M) (i : ℕ) (s : Replica P M) (log : List (Event P M)) (m : Move P M) (a : Allowed pool i s log m) (f : Facts pool i s log) where
  kept_past : (h r : ℕ) (c : Option P) → In (stated i h r c) (logged pool i s m ++ log) → ((after pool s m).live ≡ true) × Past (after pool s m) h r
  kept_past h r c e =
      elim (new_stated pool i s log f.stated_last m a i h r c e) [
        | inl old ↦
            (let q : (s.live ≡ true) × Past s h r = f.stated_past h r c old in
            ((grows pool i s log m a q.0).0, past_stays pool i s log m a q.0 h r q.1))
        | inr n ↦
            (let b : Allowed pool i s log (states r c) = subst (Allowed pool i s log) n.2 a in
            subst (λ k. ((after pool s k).live ≡ true) × Past (after pool s k) h r) (sym n.2) (b.0, inr (n.1, omega arith, refl)))
      ]

  kept_one : (h r : ℕ) (c d : Option P) → In (stated i h r c) (logged pool i s m ++ log) → In (stated i h r d) (logged pool i s m ++ log) → c ≡ d
  kept_one h r c d e g =
      elim (new_stated pool i s log f.stated_last m a i h r c e) [
        | inl old ↦
            elim (new_stated pool i s log f.stated_last m a i h r d g) [
              | inl before ↦ f.stated_one h r c d old before
              | inr n ↦ absurd (fresh_place pool i s log f r (subst (Allowed pool i s log) n.2 a).1 h c n.1 old)
            ]
        | inr n ↦
            elim (new_stated pool i s log f.stated_last m a i h r d g) [
              | inl before ↦ absurd (fresh_place pool i s log f r (subst (Allowed pool i s log) n.2 a).1 h d n.1 before)
              | inr k ↦ (let same : states r c ≡ states r d = sym n.2 ∙ k.2 in cc)
            ]
      ]

  kept_commit : (h r : ℕ) (p : P) → In (committed i h r p) (logged pool i s m ++ log) → ((after pool s m).live ≡ true) × (h ≤ (after pool s m).height)
  kept_commit h r p e =
      elim (new_committed pool i s log m i h r p e) [
        | inl old ↦
            (let q : (s.live ≡ true) × (h ≤ s.height) = f.commit_past h r p old in
            let g : ((after pool s m).live ≡ true) × (s.height ≤ (after pool s m).height) = grows pool i s log m a q.0 in
            (g.0, omega arith))
        | inr n ↦
            (let b : Allowed pool i s log (locks r p true n.2.0) = subst (Allowed pool i s log) n.2.1 a in
            subst (λ k. ((after pool s k).live ≡ true) × (h ≤ (after pool s k).height)) (sym n.2.1) (b.0, omega (arith, n.1)))
      ]

  kept_lock : (h r : ℕ) (p : P) → In (committed i h r p) (logged pool i s m ++ log) → h ≡ (after pool s m).height → (l : Lock P) × In l (after pool s m).held × (r ≤ l.round)
  kept_lock h r p e at' =
      elim (new_committed pool i s log m i h r p e) [
        | inl old ↦
            (let q : (s.live ≡ true) × (h ≤ s.height) = f.commit_past h r p old in
            let g : ((after pool s m).live ≡ true) × (s.height ≤ (after pool s m).height) = grows pool i s log m a q.0 in
            let l : (l : Lock P) × In l s.held × (r ≤ l.round) = f.commit_held h r p old (omega arith) in
            let k : (k : Lock P) × In k (after pool s m).held × (l.0.round ≤ k.round) = held_stays pool i s log m a q.0 (omega arith) l.0 l.1 in
            (k.0, k.1, omega (arith, l.2, k.2)))
        | inr n ↦
            (let b : Allowed pool i s log (locks r p true n.2.0) = subst (Allowed pool i s log) n.2.1 a in
            subst (λ k. (l : Lock P) × In l (after pool s k).held × (r ≤ l.round)) (sym n.2.1) b.3.1.0)
      ]

  pub own_facts : Facts pool i (after pool s m) (logged pool i s m ++ log)
  own_facts = record {
    stated_past = kept_past;
    stated_last = kept_last pool i s log m a f;
    stated_one = kept_one;
    commit_past = kept_commit;
    commit_held = kept_lock;
    held_cert = λ live l in'. cert_more pool (logged pool i s m) log (after pool s m).height l.round l.page (kept_cert pool i s log m a f live l in');
    last_mark_lem = kept_mark pool i s log m a f;
  }

module _ {P M : Type 0} (pool : Pool P M) (i : ℕ) (s : Replica P M) (log : List (Event P M)) (m : Move P M) (a : Allowed pool i s log m) (told : Told pool i s log) where
  -- another member's events are as they were
  pub still_stated : (j : ℕ) → (j ≡ i → ⊥) → (h r : ℕ) (c : Option P) → In (stated j h r c) (logged pool i s m ++ log) → In (stated j h r c) log
  still_stated j apart h r c e = elim (new_stated pool i s log told m a j h r c e) [ inl old ↦ old | inr n ↦ absurd (apart n.0) ]

  pub still_committed : (j : ℕ) → (j ≡ i → ⊥) → (h r : ℕ) (p : P) → In (committed j h r p) (logged pool i s m ++ log) → In (committed j h r p) log
  still_committed j apart h r p e = elim (new_committed pool i s log m j h r p e) [ inl old ↦ old | inr n ↦ absurd (apart n.0) ]

  pub other_facts : (j : ℕ) → (j ≡ i → ⊥) → (u : Replica P M) → Facts pool j u log → Facts pool j u (logged pool i s m ++ log)
  other_facts j apart u f = record {
    stated_last = λ r c live e. in_old (logged pool i s m) log (stated j u.height r c) (f.stated_last r c live e);
    stated_past = λ h r c e. f.stated_past h r c (still_stated j apart h r c e);
    stated_one = λ h r c d e g. f.stated_one h r c d (still_stated j apart h r c e) (still_stated j apart h r d g);
    commit_past = λ h r p e. f.commit_past h r p (still_committed j apart h r p e);
    commit_held = λ h r p e at'. f.commit_held h r p (still_committed j apart h r p e) at';
    held_cert = λ live l in'. cert_more pool (logged pool i s m) log u.height l.round l.page (f.held_cert live l in');
    last_mark_lem = λ live. follows_more pool (logged pool i s m) log j u.height u.last (f.last_mark_lem live);
  }
