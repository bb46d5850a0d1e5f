-- Offer, begin and tick.
use Rattle.std.proofs.Common.{◌≡◌, ℕ, ◌+◌, cond, ◌&&◌, ltb, leb, List, [], Some, None, Ok, Option, sym, refl, ap, subst, inl, inr, arith}
use Rattle.std.proofs.ByRecursion.{All-get_or}
use Rattle.std.proofs.lemmas.Bool.{cond_both, ltb-true}
use Rattle.agree.specs.Pool.{Replica}
use Rattle.agree.specs.Moves.{Move.repeats}
use Rattle.base.specs.Pools.{members, last_round}
use Rattle.base.specs.Slips.{SlipFits}
use Rattle.base.specs.declared.slips.Mark.{Mark}
use Rattle.base.specs.declared.slips.Slip.{Slip}
use Rattle.base.specs.declared.stages.Stage.{Stage}
use Rattle.base.specs.declared.stages.Stage.TheVariants.{Resting, Changing, Locking, Committing, Releasing}
use Rattle.base.specs.declared.statements.Word.TheVariants.{Cand}
use Rattle.protocol.specs.Calls.{judge_offer, judge_begin, judge_tick, timed_out, time_of, resending, again}
use Rattle.protocol.specs.Judging.{on_chain, latest_of}
use Rattle.protocol.specs.Messages.{Answer, taken}
use Rattle.protocol.specs.Plans.{Plan, quiet, goes}
use Rattle.protocol.specs.Rounds.{is_resting, has_place, shelved, locks_of, change_draft, moved, with_candidates, with_ticks, plainly}
use Rattle.protocol.specs.Runs.{Assembly, World, box_of}
use Rattle.protocol.specs.State.{Latest, View}
use Rattle.protocol.proofs.Keeping.{said, seen, look_at, LatestFits, Fair}
use Rattle.protocol.proofs.Settling.{Passing, passes, passing, Late, late_two, Here, fair_is, moves, stays, LandsBy, Lands, plain_lands}
use Rattle.protocol.proofs.Shelf.{locks_shelved, fit_shelved}
use Rattle.protocol.proofs.Slips.{chain_not_zero}
use Rattle.protocol.proofs.Stating.{says_fits, fair_candidates, fair_ticks, fair_busy, states_lands, releases_lands}

module _ (a : Assembly) (start : ℕ → Replica Slip Mark) (w : World) (i : ℕ) (here : Here a start w i) (V : Type 0) (seals : List (List ℕ)) where
  abbrev Landing : Plan Answer → Type 0
  Landing = Lands a start w i here V [] seals

  -- an offered slip brings no lock
  pub offer_lands : (s : Slip) → SlipFits s → Passing Landing (judge_offer (box_of a i (w.stations i)) s)
  offer_lands s fits =
      let v : View = (w.stations i).view in
      let fair : Fair (members a.pool) v = fair_is a start w i here in
      passing Landing (ltb i (members (w.stations i).settings.pool)) _ _ (λ member.
      passing Landing (on_chain v.last s) _ _ (λ chain.
      passing Landing ((a.rules i).admits v.height s) _ _ (λ admitted.
      passing Landing (has_place s v.candidates) _ _ (λ place.
      passes (plain_lands a start w i here V seals taken (with_candidates v (shelved s v.candidates))
      (λ t. seen v.height v.round (is_resting v.stage) (said (latest_of v i)) (locks_shelved s v.candidates t) v.last)
      (fair_candidates _ v _ (fit_shelved s v.candidates (fits, chain_not_zero v.last s chain) fair.slips) fair))))))

  -- begin states round 0 from rest
  pub begin_lands : Passing Landing (judge_begin (box_of a i (w.stations i)))
  begin_lands =
      let v : View = (w.stations i).view in
      let fair : Fair (members a.pool) v = fair_is a start w i here in
      passing Landing (ltb i (members (w.stations i).settings.pool)) _ _ (λ member.
      passing Landing (is_resting v.stage) _ _ (λ rests.
      passes (states_lands a start w i here V seals taken v 0 refl fair (inl (rests, omega (arith, fair.rest rests))) (omega arith))))

  -- the latest statement is sealed once more
  resends : (o : Option Latest) → latest_of (w.stations i).view i ≡ o → Late (again (box_of a i (w.stations i)) o) × (V → LandsBy a start w i here [] seals (resending (box_of a i (w.stations i))) (again (box_of a i (w.stations i)) o))
  resends None is =
      (tt, λ v. stays a start w i here (quiet (box_of a i (w.stations i)) (resending (box_of a i (w.stations i)))) [] refl (fair_ticks _ (w.stations i).view 0 (fair_is a start w i here)) tt refl)
  resends (Some l) is =
      let v : View = (w.stations i).view in
      let fair : Fair (members a.pool) v = fair_is a start w i here in
      let fits : LatestFits (Some l) = subst LatestFits is (All-get_or LatestFits v.latest i None (omega (arith, fair.long, here.low)) fair.statements) in (
        late_two _ _ tt,
        λ x.
            moves a start w i here (goes (box_of a i (w.stations i)) (resending (box_of a i (w.stations i))) (change_draft i v.height l.round l.page) seals) [] (repeats l.round l.page) (look_at i v) refl
            (refl, ap said is) refl (fair_ticks _ v 0 fair)
            (tt, ((says_fits Cand v.height l.round l.page fair.high fits.0 fits.1, inl refl), tt)) refl,
      )

  -- a stage's time has come
  timed : (g : Stage) → (w.stations i).view.stage ≡ g → Passing Landing (timed_out (box_of a i (w.stations i)) g)
  timed Resting is = passes (plain_lands a start w i here V seals taken (w.stations i).view refl (fair_is a start w i here))
  timed Changing is = passes (resends (latest_of (w.stations i).view i) refl)
  timed Locking is =
      let v : View = (w.stations i).view in
      let fair : Fair (members a.pool) v = fair_is a start w i here in
      passes (plain_lands a start w i here V seals taken (moved v v.round Committing)
      (λ t. seen v.height v.round (sym (ap is_resting is) t) (said (latest_of v i)) (locks_of v.candidates) v.last)
      (fair_busy _ v v.round Committing refl fair.late fair))
  timed Committing is =
      let v : View = (w.stations i).view in
      passes (releases_lands a start w i here V seals taken v v.round (is_resting v.stage) refl (omega arith) (fair_busy _ v v.round Releasing refl (fair_is a start w i here).late (fair_is a start w i here)))
  timed Releasing is =
      let v : View = (w.stations i).view in
      passing Landing (ltb v.round last_round) _ _ (λ more.
      passes (states_lands a start w i here V seals taken v (v.round + 1) refl (fair_is a start w i here) (inr (omega arith)) (omega (arith, ltb-true v.round last_round more))))

  pub tick_lands : (k : ℕ) → Passing Landing (judge_tick (box_of a i (w.stations i)) k)
  tick_lands k =
      let v : View = (w.stations i).view in
      let fair : Fair (members a.pool) v = fair_is a start w i here in
      passing Landing (ltb i (members (w.stations i).settings.pool)) _ _ (λ member.
      passing Landing (leb 1 k && leb k 60000) _ _ (λ lawful.
      cond_both (is_resting v.stage) (Ok (plainly taken v))
      (cond (leb (time_of (w.stations i).settings v.stage v.round) (v.ticks + k)) (timed_out (box_of a i (w.stations i)) v.stage) (Ok (plainly taken (with_ticks v (v.ticks + k)))))
      (Passing Landing)
      (λ rests. passes (plain_lands a start w i here V seals taken v refl fair))
      (λ busy.
      cond_both (leb (time_of (w.stations i).settings v.stage v.round) (v.ticks + k)) (timed_out (box_of a i (w.stations i)) v.stage) (Ok (plainly taken (with_ticks v (v.ticks + k))))
      (Passing Landing)
      (λ due. timed v.stage refl)
      (λ early. passes (plain_lands a start w i here V seals taken (with_ticks v (v.ticks + k)) refl (fair_ticks _ v (v.ticks + k) fair))))))
