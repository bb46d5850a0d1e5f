-- What holds after every run, and the theorem from it. Assumes nothing.
use Rattle.std.proofs.Common.{◌≡◌, ℕ, ◌+◌, ◌<◌, true, false, eqb, List, [], ◌∷◌, ◌++◌, sym, subst, inl, inr}
use Rattle.std.proofs.lemmas.Bool.{both_ways, cases_order, cond_both, eqb-true, eqb-false}
use Rattle.agree.specs.Lists.{In}
use Rattle.agree.specs.Pool.{Pool, Event, Event.committed, Replica, Several, Certified, Decided}
use Rattle.agree.specs.Moves.{after, logged, Allowed}
use Rattle.agree.specs.Runs.{Act, World, step, played, Lawful}
use Rattle.agree.specs.Agreement.{Agreed, Agreement}
use Rattle.agree.proofs.Quorums.{among, among_is, among_many, several_weaker, sound_several, a_sound}
use Rattle.agree.proofs.Facts.{Facts}
use Rattle.agree.proofs.Keeps.{own_facts, other_facts}
use Rattle.agree.proofs.Book.{Book, empty_book, next_book}
use Rattle.agree.proofs.Settled.{Everyone, Committing, Settled, cert_one, cert_later, still_settled}

module _ {P M : Type 0} (pool : Pool P M) where
  pub record Good (w : World P M) : Type 0 where
    pub everyone : Everyone pool w
    pub book : Book pool w.log
    pub settled : Settled pool w

  good_start : (start : ℕ → Replica P M) → ((i : ℕ) → (start i).live ≡ false) → Good (played pool start [])
  good_start start shut = record {
    everyone = λ i. record {
      stated_past = λ h r c e. absurd e;
      stated_last = λ r c live. absurd (both_ways (start i).live (shut i) live);
      stated_one = λ h r c d e g. absurd e;
      commit_past = λ h r p e. absurd e;
      commit_held = λ h r p e at'. absurd e;
      held_cert = λ live. absurd (both_ways (start i).live (shut i) live);
      last_mark_lem = λ live. absurd (both_ways (start i).live (shut i) live);
    };
    book = empty_book pool;
    settled = λ h r p c those i k q in' above e. absurd e;
  }

  good_step : (a : Act P M) (w : World P M) → Allowed pool a.who (w.replicas a.who) w.log a.move → Good w → Good (step pool a w)
  good_step a w ok good =
      let i : ℕ = a.who in
      let s : Replica P M = w.replicas i in
      let new : List (Event P M) = logged pool i s a.move ++ w.log in
      record {
        everyone = λ j.
            cond_both (eqb j i) (after pool s a.move) (w.replicas j) (λ u. Facts pool j u new)
            (λ e. subst (λ k. Facts pool k (after pool s a.move) new) (sym (eqb-true j i e)) (own_facts pool i s w.log a.move ok (good.everyone i)))
            (λ e. other_facts pool i s w.log a.move ok (good.everyone i).stated_last j (eqb-false j i e) (w.replicas j) (good.everyone j));
        book = next_book pool i s w.log a.move ok (good.everyone i) good.book;
        settled = still_settled pool w i a.move ok good.everyone good.book good.settled;
      }

  pub good_run : (start : ℕ → Replica P M) (run : List (Act P M)) → Lawful pool start run → Good (played pool start run)
  good_run start [] shut = good_start start shut
  good_run start (a ∷ run) law = good_step a (played pool start run) law.3 (good_run start run law.0)

module _ {P M : Type 0} (pool : Pool P M) (w : World P M) (good : Good pool w) where
  -- a decide's page has a lock's certificate of that round
  decided_cert : (h r : ℕ) (p : P) → Decided pool w.log h r p → Certified pool w.log h r p
  decided_cert h r p d =
      let one : (i : ℕ) × (pool.sound i ≡ true) × In (committed i h r p) w.log = a_sound pool (λ i. In (committed i h r p) w.log) d in
      (good.book.commit_cert one.0 h r p one.2).0

  later_lock : (h r : ℕ) (p : P) → Several pool (pool.t + 1) (λ j. (pool.sound j ≡ true) × In (committed j h r p) w.log) → (k : ℕ) (q : P) → r < k → Certified pool w.log h k q → q ≡ p
  later_lock h r p many k q above cert =
      let Q : ℕ → Type 0 = λ j. (pool.sound j ≡ true) × In (committed j h r p) w.log in
      let those : Committing pool w h r p (among pool (pool.t + 1) Q many) =
      (among_many pool (pool.t + 1) Q many, λ i e. let x : Q i = among_is pool (pool.t + 1) Q many i e in (x.0, inl x.1)) in
      cert_later pool w good.settled h r p (among pool (pool.t + 1) Q many) those k q above cert

  later_decide : (h r k : ℕ) (p q : P) → r < k → Decided pool w.log h r p → Decided pool w.log h k q → q ≡ p
  later_decide h r k p q above d e =
      later_lock h r p (sound_several pool (λ i. In (committed i h r p) w.log) d) k q above (decided_cert h k q e)

  one_decide : (h r k : ℕ) (p q : P) → Decided pool w.log h r p → Decided pool w.log h k q → p ≡ q
  one_decide h r k p q d e =
      elim (cases_order r k) [
        | inl same ↦ cert_one pool w good.everyone h r p q (decided_cert h r p d) (subst (λ x. Certified pool w.log h x q) (sym same) (decided_cert h k q e))
        | inr o ↦ elim o [ inl lt ↦ sym (later_decide h r k p q lt d e) | inr gt ↦ later_decide h k r q p gt e d ]
      ]

  pub agreed : Agreed pool w.log
  agreed = record {
    one_page = λ i j h p q e g.
        let d : (r : ℕ) × Decided pool w.log h r p = good.book.entered_cert i h p e in
        let f : (r : ℕ) × Decided pool w.log h r q = good.book.entered_cert j h q g in
        one_decide h d.0 f.0 p q d.1 f.1;
    admitted = λ i h p e.
        let d : (r : ℕ) × Decided pool w.log h r p = good.book.entered_cert i h p e in
        several_weaker pool (pool.t + 1) (λ j. (pool.sound j ≡ true) × In (committed j h d.0 p) w.log) (λ j. (pool.sound j ≡ true) × (pool.admits j h p ≡ true))
        (λ j x. (x.0, (good.book.commit_cert j h d.0 p x.1).1))
        (sound_several pool (λ j. In (committed j h d.0 p) w.log) d.1);
    chained = good.book.entered_mark;
    locked = λ h r p many i s q above e. later_lock h r p many s q above (good.book.took_cert i h s q e);
  }

pub agreement : (P M : Type 0) → Agreement P M
agreement P M pool start run law = agreed pool (played pool start run) (good_run pool start run law)
