-- Taking a change.
use Rattle.std.proofs.Common.{◌≡◌, ℕ, ◌≤◌, Bool, true, false, not, eqb, ltb, leb, List, [], ◌∷◌, get_or, set, Some, None, Option, sym, refl, ◌∙◌, subst, inl, inr, arith}
use native.Mathlib.Decide.{dec_le}
use Rattle.std.specs.List.{AllByRecursion as All}
use Rattle.std.proofs.lemmas.List.{get_or-set_other}
use Rattle.std.proofs.lemmas.Bool.{cond_both, and_parts, and_cases, or_parts, not-true, not-false, both_ways, eqb-false, leb-true, ltb-true}
use Rattle.agree.specs.Pool.{Replica}
use Rattle.agree.specs.Moves.{Ahead}
use Rattle.agree.specs.Lists.{In}
use Rattle.agree.proofs.Log.{all_in, none_some, some_same}
use Rattle.base.specs.Pools.{members, last_round}
use Rattle.base.specs.Statements.{PageFits}
use Rattle.base.specs.declared.slips.Mark.{Mark}
use Rattle.base.specs.declared.slips.Slip.{Slip}
use Rattle.base.specs.declared.stages.Stage.{Stage}
use Rattle.base.specs.declared.stages.Stage.TheVariants.{Resting, Changing, Locking, Committing, Releasing}
use Rattle.message.specs.Contents.{change}
use Rattle.message.specs.Encoding.{LawfulHead}
use Rattle.message.specs.declared.shapes.Head.{Head}
use Rattle.protocol.specs.Judging.{round_in, sender_in, latest_of, repeats, other_page, contradicts}
use Rattle.protocol.specs.Messages.{taken, shelved_page, on_change}
use Rattle.protocol.specs.Rounds.{is_resting, is_changing, locks_of, is_ahead, called_for, higher_round, highest_round, with_candidates, with_latest, onward, plainly, recorded_by, recorded}
use Rattle.protocol.specs.Runs.{Assembly, World, box_of}
use Rattle.protocol.specs.State.{Candidate, Latest, View}
use Rattle.protocol.proofs.Certificates.{head_ranges}
use Rattle.protocol.proofs.Judged.{Passed}
use Rattle.protocol.proofs.Keeping.{said, seen, look_at, LatestFits, Fair}
use Rattle.protocol.proofs.Settling.{Here, fair_is, Lands, plain_lands}
use Rattle.protocol.proofs.Shelf.{Fit, locks_shelved, fit_shelved}
use Rattle.protocol.proofs.Stating.{fair_candidates, fair_latest, onward_look, onward_fair, states_lands}

-- the highest round that passes a test passes it, and is of a statement
module _ (test : ℕ → Bool) where
  -- a round of the list that passes
  abbrev Found : List (Option Latest) → ℕ → Type 0
  Found ls r = (test r ≡ true) × ((l : Latest) × In (Some l) ls × (l.round ≡ r))

  later : (o : Option Latest) (ls : List (Option Latest)) (r : ℕ) → Found ls r → Found (o ∷ ls) r
  later o ls r f = (f.0, (f.1.0, inr f.1.1, f.1.2))

  higher : (l : Latest) (ls : List (Option Latest)) (r : ℕ) (o : Option ℕ) → test l.round ≡ true → ((j : ℕ) → o ≡ Some j → Found ls j) → higher_round l.round o ≡ r → Found (Some l ∷ ls) r
  higher l ls r None t f e = (subst (λ x. test x ≡ true) e t, (l, inl refl, e))
  higher l ls r (Some j) t f e =
      elim (dec_le j l.round) [
        | yes low ↦ (let m : l.round ≡ r = omega (arith, e) in (subst (λ x. test x ≡ true) m t, (l, inl refl, m)))
        | no high ↦ (let m : j ≡ r = omega (arith, e) in subst (Found (Some l ∷ ls)) m (later (Some l) ls j (f j refl)))
      ]

  pub highest : (ls : List (Option Latest)) (r : ℕ) → highest_round test ls ≡ Some r → Found ls r
  highest [] r e = absurd (none_some e)
  highest (None ∷ ls) r e = later None ls r (highest ls r e)
  highest (Some l ∷ ls) r e =
      cond_both (test l.round) (Some (higher_round l.round (highest_round test ls))) (highest_round test ls) (λ o. o ≡ Some r → Found (Some l ∷ ls) r)
      (λ t is. higher l ls r (highest_round test ls) t (λ j h. highest ls j h) (some_same is))
      (λ t is. later (Some l) ls r (highest ls r is))
      e

  -- it is in range
  pub highest_late : (ls : List (Option Latest)) (r : ℕ) → All LatestFits ls → highest_round test ls ≡ Some r → r ≤ last_round
  highest_late ls r all e =
      let f = highest ls r e in
      omega (arith, (all_in LatestFits ls (Some f.1.0) all f.1.1).0, f.1.2)

changing_busy : (g : Stage) → is_changing g ≡ true → is_resting g ≡ false
changing_busy Resting e = sym e
changing_busy Changing e = refl
changing_busy Locking e = refl
changing_busy Committing e = refl
changing_busy Releasing e = refl

pub locks_page : (page : Option Slip) (cs : List Candidate) → locks_of (shelved_page page cs) ≡ locks_of cs
locks_page None cs = refl
locks_page (Some s) cs = locks_shelved s cs

pub fit_page : (page : Option Slip) (cs : List Candidate) → PageFits page → All Fit cs → All Fit (shelved_page page cs)
fit_page None cs f all = all
fit_page (Some s) cs f all = fit_shelved s cs f all

ahead_from : (i : ℕ) (u : View) (r : ℕ) → is_ahead u r ≡ true → Ahead (look_at i u) r
ahead_from i u r e =
    cond_both (is_resting u.stage) (leb u.round r) (ltb u.round r) (λ t. t ≡ true → Ahead (look_at i u) r)
    (λ rests le. inl (rests, leb-true u.round r le))
    (λ busy lt. inr (ltb-true u.round r lt))
    e

module _ (a : Assembly) (start : ℕ → Replica Slip Mark) (w : World) (i : ℕ) (here : Here a start w i) (V : Type 0) (seals : List (List ℕ)) where
  -- after a statement of another member was recorded
  recorded_lands : (u : View) → look_at i u ≡ look_at i (w.stations i).view → Fair (members a.pool) u → (o : Option ℕ) → highest_round (called_for (w.stations i).settings u) u.latest ≡ o → Lands a start w i here V [] seals (recorded_by (box_of a i (w.stations i)) taken u o)
  recorded_lands u same fair (Some r) is =
      let top = highest (called_for (w.stations i).settings u) u.latest r is in
      states_lands a start w i here V seals taken u r (sym same) fair (ahead_from i u r (and_parts (is_ahead u r) _ top.0).0) (highest_late (called_for (w.stations i).settings u) u.latest r fair.statements is)
  recorded_lands u same fair None is =
      cond_both (is_changing u.stage) (onward (w.stations i).settings u) u (λ x. Lands a start w i here V [] seals (plainly taken x))
      (λ e. plain_lands a start w i here V seals taken (onward (w.stations i).settings u) (onward_look (w.stations i).settings i u (changing_busy u.stage e) ∙ same) (onward_fair _ (w.stations i).settings u fair))
      (λ e. plain_lands a start w i here V seals taken u same fair)

  -- a change that is no repeat is of another member
  other : (h : Head) (page : Option Slip) (x y : List ℕ) → not (contradicts i (w.stations i).view h (change page x y)) ≡ true → repeats (round_in h) page (latest_of (w.stations i).view (sender_in h)) ≡ false → sender_in h ≡ i → ⊥
  other h page x y consistent new =
      let v : View = (w.stations i).view in
      let c = or_parts (other_page (round_in h) page (latest_of v (sender_in h))) _ (not-true _ consistent) in
      elim (and_cases (eqb (sender_in h) i) (not (repeats (round_in h) page (latest_of v (sender_in h)))) c.1) [
        | inl ne ↦ eqb-false (sender_in h) i ne
        | inr rep ↦ (λ e. both_ways (repeats (round_in h) page (latest_of v (sender_in h))) new (not-false _ rep))
      ]

  pub change_lands : (h : Head) (page : Option Slip) (x y : List ℕ) → Passed (box_of a i (w.stations i)) (record { head = h; content = change page x y }) → LawfulHead h → PageFits page → Lands a start w i here V [] seals (on_change (box_of a i (w.stations i)) h page x y)
  change_lands h page x y passed range fits =
      let v : View = (w.stations i).view in
      let fair : Fair (members a.pool) v = fair_is a start w i here in
      let l : Latest = record { round = round_in h; page = page; rchg = x; cand = y } in
      let u : View = with_latest (with_candidates v (shelved_page page v.candidates)) (sender_in h) l in
      cond_both (repeats (round_in h) page (latest_of v (sender_in h))) (plainly taken v) (recorded (box_of a i (w.stations i)) taken u) (Lands a start w i here V [] seals)
      (λ old. plain_lands a start w i here V seals taken v refl fair)
      (λ new.
      let kept : get_or (set v.latest (sender_in h) (Some l)) i None ≡ latest_of v i = get_or-set_other v.latest (sender_in h) i (Some l) None (λ e. other h page x y passed.consistent new (sym e)) in
      recorded_lands u
      (λ t. seen v.height v.round (is_resting v.stage) (said (kept t)) (locks_page page v.candidates t) v.last)
      (fair_latest _ (with_candidates v (shelved_page page v.candidates)) (sender_in h) l (head_ranges h range).1 fits (fair_candidates _ v _ (fit_page page v.candidates fits fair.slips) fair))
      (highest_round (called_for (w.stations i).settings u) u.latest) refl)
