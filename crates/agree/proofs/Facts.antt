-- What holds of one member, its replica and the log, at all times; and what grows with the log.
-- Assumes nothing.
use Rattle.std.proofs.Common.{◌≡◌, ℕ, ◌<◌, ◌≤◌, true, false, ◌⊎◌, List, ◌++◌, Some, Option, refl, inl, inr, arith}
use Rattle.std.proofs.lemmas.Bool.{both_ways}
use Rattle.agree.specs.Lists.{In}
use Rattle.agree.specs.Pool.{Pool, quorum, Event, Event.opened, Event.stated, Event.committed, Event.entered, Lock, Replica, Certified, Decided}
use Rattle.agree.specs.Moves.{Move, Move.starts, Move.states, Move.repeats, Move.locks, Move.passes, Move.releases, Move.enters, after, Allowed}
use Rattle.agree.specs.Agreement.{Follows}
use Rattle.agree.proofs.Log.{in_old, all_in}
use Rattle.agree.proofs.Quorums.{several_weaker}

-- A replica has left the place (h, r) behind, or has been there: nothing more is stated there.
abbrev pub Past : {P M : Type 0} → Replica P M → ℕ → ℕ → Type 0
Past s h r = (h < s.height) ⊎ ((h ≡ s.height) × (r ≤ s.round) × (s.rests ≡ false))

module _ {P M : Type 0} (pool : Pool P M) where
  pub record Facts (i : ℕ) (s : Replica P M) (log : List (Event P M)) : Type 0 where
    pub stated_past : (h r : ℕ) (c : Option P) → In (stated i h r c) log → (s.live ≡ true) × Past s h r
    pub stated_last : (r : ℕ) (c : Option P) → s.live ≡ true → s.latest ≡ Some (record { round = r; page = c }) → In (stated i s.height r c) log
    pub stated_one : (h r : ℕ) (c d : Option P) → In (stated i h r c) log → In (stated i h r d) log → c ≡ d
    pub commit_past : (h r : ℕ) (p : P) → In (committed i h r p) log → (s.live ≡ true) × (h ≤ s.height)
    pub commit_held : (h r : ℕ) (p : P) → In (committed i h r p) log → h ≡ s.height → (l : Lock P) × In l s.held × (r ≤ l.round)
    pub held_cert : s.live ≡ true → (l : Lock P) → In l s.held → Certified pool log s.height l.round l.page
    pub last_mark_lem : s.live ≡ true → Follows pool log i s.height s.last

  -- what a longer log keeps
  pub cert_more : (new log : List (Event P M)) (h r : ℕ) (p : P) → Certified pool log h r p → Certified pool (new ++ log) h r p
  cert_more new log h r p c =
      several_weaker pool (quorum pool) (λ i. pool.sound i ≡ true → In (stated i h r (Some p)) log) (λ i. pool.sound i ≡ true → In (stated i h r (Some p)) (new ++ log))
      (λ i f e. in_old new log (stated i h r (Some p)) (f e)) c

  pub decided_more : (new log : List (Event P M)) (h r : ℕ) (p : P) → Decided pool log h r p → Decided pool (new ++ log) h r p
  decided_more new log h r p c =
      several_weaker pool (quorum pool) (λ i. pool.sound i ≡ true → In (committed i h r p) log) (λ i. pool.sound i ≡ true → In (committed i h r p) (new ++ log))
      (λ i f e. in_old new log (committed i h r p) (f e)) c

  pub follows_more : (new log : List (Event P M)) (i h : ℕ) (m : M) → Follows pool log i h m → Follows pool (new ++ log) i h m
  follows_more new log i h m f =
      elim f [
        | inl b ↦ inl (b.0, b.1, b.2, in_old new log (entered i b.0 b.1) b.3, b.4)
        | inr o ↦ inr (in_old new log (opened i h m) o)
      ]

  module _ (i : ℕ) (s : Replica P M) (log : List (Event P M)) where
    -- heights, and rounds of one height, do not fall
    pub grows : (m : Move P M) → Allowed pool i s log m → s.live ≡ true → ((after pool s m).live ≡ true) × (s.height ≤ (after pool s m).height)
    grows (starts h x) a live = (refl, absurd (both_ways s.live a live))
    grows (states r c) a live = (live, omega arith)
    grows (repeats r c) a live = (live, omega arith)
    grows (locks r p b ls) a live = (live, omega arith)
    grows (passes r ls) a live = (live, omega arith)
    grows (releases r p ls) a live = (live, omega arith)
    grows (enters r p) a live = (live, omega arith)

    -- a place that is past stays past
    pub past_stays : (m : Move P M) → Allowed pool i s log m → s.live ≡ true → (h r : ℕ) → Past s h r → Past (after pool s m) h r
    past_stays (starts k x) a live h r past = absurd (both_ways s.live a live)
    past_stays (states r' c) a live h r past = elim past [ inl l ↦ inl l | inr k ↦ inr (k.0, elim a.1 [ inl w ↦ omega arith | inr w ↦ omega arith ], refl) ]
    past_stays (repeats r' c) a live h r past = past
    past_stays (locks r' p b ls) a live h r past = elim past [ inl l ↦ inl l | inr k ↦ inr (k.0, omega arith, refl) ]
    past_stays (passes r' ls) a live h r past = elim past [ inl l ↦ inl l | inr k ↦ inr (k.0, omega arith, refl) ]
    past_stays (releases r' p ls) a live h r past = past
    past_stays (enters r' p) a live h r past = inl (elim past [ inl l ↦ omega arith | inr k ↦ omega arith ])

    -- of the locks left none is below one that was held
    pub held_stays : (m : Move P M) → Allowed pool i s log m → s.live ≡ true → (after pool s m).height ≡ s.height → (l : Lock P) → In l s.held → (k : Lock P) × In k (after pool s m).held × (l.round ≤ k.round)
    held_stays (starts h x) a live e l in' = absurd (both_ways s.live a live)
    held_stays (states r c) a live e l in' = (l, in', omega arith)
    held_stays (repeats r c) a live e l in' = (l, in', omega arith)
    held_stays (locks r p b ls) a live e l in' = all_in (λ o. (k : Lock P) × In k ls × (o.round ≤ k.round)) s.held l a.3.1.1 in'
    held_stays (passes r ls) a live e l in' = all_in (λ o. (k : Lock P) × In k ls × (o.round ≤ k.round)) s.held l a.2.1 in'
    held_stays (releases r p ls) a live e l in' = all_in (λ o. (k : Lock P) × In k ls × (o.round ≤ k.round)) s.held l a.2.1.1 in'
    held_stays (enters r p) a live e l in' = absurd (omega arith)
