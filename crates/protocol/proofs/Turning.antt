-- The leader's turn: it changes nothing that agreement sees, and seals neither candidates nor commits.
use Rattle.std.proofs.Common.{◌≡◌, ℕ, not, ◌&&◌, eqb, ltb, leb, List, [], take, Some, None, Option, Result, refl}
use Rattle.agree.specs.Pool.{Replica}
use Rattle.base.specs.Pools.{members, quorum}
use Rattle.base.specs.declared.refusals.Refusal.{Refusal}
use Rattle.base.specs.declared.slips.Mark.{Mark}
use Rattle.base.specs.declared.slips.Slip.{Slip}
use Rattle.base.specs.declared.stages.Kind.{Kind}
use Rattle.base.specs.declared.stages.Kind.TheVariants.{Lock, Select, Decide}
use Rattle.base.specs.declared.statements.Word.{Word}
use Rattle.base.specs.declared.statements.Word.TheVariants.{Slct, Dcid}
use Rattle.base.specs.declared.statements.Word.TheVariants as words
use Rattle.message.specs.Contents.{Signed, commit, Sent}
use Rattle.message.specs.RoundTrip.{fields}
use Rattle.message.specs.declared.shapes.Head.{Head}
use Rattle.protocol.specs.Judging.{height_in, round_in, sender_in, familiar, checks_of, bad_seal, on_chain}
use Rattle.protocol.specs.Messages.{taken, unless_bad}
use Rattle.protocol.specs.Plans.{Plan, goes}
use Rattle.protocol.specs.Rounds.{is_locking, top_of, of_round, with_turned}
use Rattle.protocol.specs.Runs.{Assembly, World, box_of}
use Rattle.protocol.specs.State.{View, Box, one_page, tally}
use Rattle.protocol.specs.Turns.{Gathering, Counting, Committed, Records, leads, judge_opening, still_in, enough, commits_to, names_in, cand_of, rchg_of, commit_of, lowest, cert_draft, agreed_of, forward_lock, forward_select, select_due, forward_top, forward_by, judge_forward, commit_in, noted, judged_commit, judged_turn, judge_commit, judge_closing}
use Rattle.protocol.proofs.Keeping.{Fair}
use Rattle.protocol.proofs.Seals.{Silent}
use Rattle.protocol.proofs.Settling.{Passing, passes, refuses, passing, late_one, Here, fair_is, stays, Lands, plain_lands}

abbrev pub gathered : View → Gathering
gathered v = record { height = v.height; round = v.round }

-- past the seals
pub passing_seals : {P : Type 0} (Q : P → Type 0) (bad : Option Refusal) (rest : Result P Refusal) → (bad ≡ None → Passing Q rest) → Passing Q (unless_bad bad rest)
passing_seals Q None rest f = f refl
passing_seals Q (Some why) rest f = refuses

module _ (a : Assembly) (start : ℕ → Replica Slip Mark) (w : World) (i : ℕ) (here : Here a start w i) (V : Type 0) (seals : List (List ℕ)) where
  abbrev Landing : {X : Type 0} → Plan X → Type 0
  Landing p = Lands a start w i here V [] seals p

  -- a message of the leader is written, and the replica is left as it is
  led : {X : Type 0} (x : X) (kind : Kind) (sort : ℕ) (word : Word) (s : Slip) (votes : List (Signed (List ℕ))) → Silent word
      → Landing (record { answer = x; next = λ seals. (w.stations i).view; draft = Some (cert_draft (box_of a i (w.stations i)) kind sort word s votes) })
  led x kind sort word s votes silent = (
    late_one _,
    λ v.
        stays a start w i here
        (goes (box_of a i (w.stations i)) (record { answer = x; next = λ seals. (w.stations i).view; draft = Some (cert_draft (box_of a i (w.stations i)) kind sort word s votes) }) (cert_draft (box_of a i (w.stations i)) kind sort word s votes) seals)
        [] refl (fair_is a start w i here) (silent, tt) refl,
  )

  pub opening_lands : Passing Landing (judge_opening (box_of a i (w.stations i)))
  opening_lands =
      let v : View = (w.stations i).view in
      let f : Fair (members a.pool) v = fair_is a start w i here in
      passing Landing (ltb i (members (w.stations i).settings.pool)) _ _ (λ member.
      passing Landing (leads (box_of a i (w.stations i)) && (is_locking v.stage && not v.turned)) _ _ (λ led.
      passes (plain_lands a start w i here V seals (gathered v) (with_turned v) refl
      (record { long = f.long; slips = f.slips; statements = f.statements; rest = f.rest; high = f.high; late = f.late }))))

  forward_top_lem : (records : Records) (o : Option Slip) → Passing Landing (forward_top (box_of a i (w.stations i)) records o)
  forward_top_lem records None = refuses
  forward_top_lem records (Some s) =
      let v : View = (w.stations i).view in
      let b : Box = box_of a i (w.stations i) in
      passing Landing (select_due (box_of a i (w.stations i))) _ _ (λ due.
      passes (led (forward_select b records s).answer Select 2 Slct s (lowest b (of_round v.round) rchg_of v.latest) tt))

  forward_by_lem : (records : Records) (o : Option Slip) → Passing Landing (forward_by (box_of a i (w.stations i)) records o)
  forward_by_lem records (Some s) =
      let v : View = (w.stations i).view in
      let b : Box = box_of a i (w.stations i) in
      passes (led (forward_lock b records s).answer Lock 3 words.Lock s (lowest b (names_in v.round s) cand_of v.latest) tt)
  forward_by_lem records None = forward_top_lem records (top_of (a.rules i).above (w.stations i).view.candidates)

  pub forward_lands : (turn : Gathering) (records : Records) → Passing Landing (judge_forward (box_of a i (w.stations i)) turn records)
  forward_lands turn records =
      let v : View = (w.stations i).view in
      passing Landing (ltb i (members (w.stations i).settings.pool)) _ _ (λ member.
      passing Landing (enough (box_of a i (w.stations i)) records) _ _ (λ many.
      passing Landing (still_in (box_of a i (w.stations i)) turn.height turn.round && is_locking v.stage) _ _ (λ still.
      passing Landing (leads (box_of a i (w.stations i))) _ _ (λ leading.
      forward_by_lem records (agreed_of (quorum (w.stations i).settings.pool) v.round v.latest v.latest)))))

  commit_by_lem : (turn : Counting) (records : Records) (h : Head) (o : Option Committed) → Passing Landing (judged_commit (box_of a i (w.stations i)) turn records h o)
  commit_by_lem turn records h None = refuses
  commit_by_lem turn records h (Some c) =
      let v : View = (w.stations i).view in
      passing_seals Landing (bad_seal (a.knows i) (checks_of h (commit c.page c.seal))) _
      (λ good. passing Landing (on_chain v.last c.page) _ _ (λ chain.
      passing Landing ((a.rules i).admits v.height c.page) _ _ (λ admitted.
      passing Landing (one_page c.page turn.page) _ _ (λ same.
      passes (plain_lands a start w i here V seals (noted turn.page (sender_in h) c records) v refl (fair_is a start w i here))))))

  turn_by : (turn : Counting) (records : Records) (o : Option (Sent (List ℕ))) → Passing Landing (judged_turn (box_of a i (w.stations i)) turn records o)
  turn_by turn records None = refuses
  turn_by turn records (Some s) =
      let v : View = (w.stations i).view in
      passing Landing (leb v.height (height_in s.head)) _ _ (λ past.
      passing Landing (leb (height_in s.head) v.height) _ _ (λ later.
      passing Landing (familiar (w.stations i).settings.pool s) _ _ (λ known.
      passing Landing (still_in (box_of a i (w.stations i)) turn.height turn.round) _ _ (λ still.
      passing Landing (eqb (round_in s.head) turn.round) _ _ (λ round.
      commit_by_lem turn records s.head (commit_in s.content))))))

  pub commit_lands : (turn : Counting) (records : Records) (m : List ℕ) → Passing Landing (judge_commit (box_of a i (w.stations i)) turn records m)
  commit_lands turn records m =
      passing Landing (ltb i (members (w.stations i).settings.pool)) _ _ (λ member.
      passing Landing (enough (box_of a i (w.stations i)) records) _ _ (λ many.
      turn_by turn records (fields (w.stations i).settings.pool (a.long i) m)))

  pub closing_lands : (turn : Counting) (records : Records) → Passing Landing (judge_closing (box_of a i (w.stations i)) turn records)
  closing_lands turn records =
      passing Landing (ltb i (members (w.stations i).settings.pool)) _ _ (λ member.
      passing Landing (enough (box_of a i (w.stations i)) records) _ _ (λ many.
      passing Landing (still_in (box_of a i (w.stations i)) turn.height turn.round) _ _ (λ still.
      passing Landing (leads (box_of a i (w.stations i))) _ _ (λ leading.
      passing Landing (leb (quorum (w.stations i).settings.pool) (tally (commits_to turn.page) (take (members (w.stations i).settings.pool) records))) _ _ (λ quorate.
      passes (led taken Decide 4 Dcid turn.page (lowest (box_of a i (w.stations i)) (commits_to turn.page) commit_of (take (members (w.stations i).settings.pool) records)) tt))))))
