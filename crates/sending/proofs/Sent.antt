-- What became of a draft, from its test of the room, its sealings and its layout.
use Rattle.std.proofs.Common.{◌≡◌, ℕ, suc, ◌+◌, ◌-◌, ◌*◌, ◌≤◌, Bool, true, false, leb, List, [], ◌∷◌, map, length, take, replicate, Ok, Err, Option, Result, sym, refl, ap, ◌∙◌, subst, inl, inr, arith}
use Rattle.std.proofs.lemmas.List.{length-replicate}
use Rattle.std.proofs.lemmas.Bool.Decides.{nat_tests}
use Rattle.std.specs.Borrow.{Bor, MutBor}
use Rattle.std.specs.Fn.{Once}
use Rattle.base.specs.Seals.{seal_bytes}
use Rattle.base.specs.Slips.{slip_bytes}
use Rattle.base.specs.Statements.{statement_bytes}
use Rattle.base.specs.Writing.{wrote}
use Rattle.base.specs.Kinds.{kind_number}
use Rattle.base.specs.declared.refusals.Refusal.{Refusal}
use Rattle.base.specs.declared.refusals.Refusal.TheVariants.{OutboxShort}
use Rattle.base.specs.declared.seals.Seal.{Seal}
use Rattle.base.specs.declared.seals.Vote.{Vote}
use Rattle.base.specs.declared.slips.Slip.{Slip}
use Rattle.base.specs.declared.stages.Kind.{Kind}
use Rattle.base.specs.declared.statements.Statement.{Statement}
use Rattle.base.specs.declared.statements.Word.{Word}
use Rattle.message.specs.declared.shapes.Head.{Head}
use Rattle.outbox.specs.Appending.{fits, Adds}
use Rattle.outbox.specs.declared.drafts.Fill.{Fill}
use Rattle.outbox.specs.Written.{signed_by, slip_length, seals_length}
use Rattle.outbox.proofs.Lengths.{change_long, commit_long, release_long, cert_bytes_long}
use Rattle.protocol.specs.Messages.{commit_draft}
use Rattle.protocol.specs.Plans.{Draft, draft_bytes, draft_size}
use Rattle.protocol.specs.Rounds.{change_draft, head_for}
use Rattle.seal.specs.Meaning.{Meaning, spent, Stated, Unstated, Stating}
use Rattle.sending.specs.Drafts.{release_for, cert_for}
use Rattle.sending.specs.Laying.{LaysAt, Lays}
use Rattle.sending.specs.Sending.{spent_by, Good, has_room, Sending, StatingBoth, one_seal, two_of, two_seals}
use Rattle.sending.specs.declared.sends.ChangeSeals.{ChangeSeals}

-- spending seals, none or one by one
pub spent_none : (m : Meaning) → m.left ≡ 0 → m ≡ spent_by m.left m
spent_none m none = let e : m.left ≡ m.left - m.left = omega arith in λ i. record { number = m.number; left = e i; knows = m.knows; long = m.long }

pub spent_two : (m : Meaning) → spent_by 1 (spent_by 1 m) ≡ spent_by 2 m
spent_two m = let e : m.left - 1 - 1 ≡ m.left - 2 = omega arith in λ i. record { number = m.number; left = e i; knows = m.knows; long = m.long }

module _ (m : Meaning) (d : Draft) (f need : ℕ) (out : List ℕ) (long : need ≡ draft_size d m.long) where
  room_told : (b : Bool) → b ≡ fits f need (length out) → has_room m d f out ≡ b
  room_told b e = sym (e ∙ ap (λ n. leb (f + n) (length out)) long)

  -- it does not fit
  pub is_short : (m' : Meaning) (f' : ℕ) (out' : List ℕ) → m' ≡ m → f' ≡ f → out' ≡ out → false ≡ fits f need (length out) → Sending m m' d f f' out out' (Err OutboxShort)
  is_short m' f' out' same-m same-f same-o no_room = inl (record { full = room_told false no_room; short = refl; unspent = same-m; same_outbox = same-o; same_fill = same-f })

  module _ (room : true ≡ fits f need (length out)) where
    -- worn before the first seal
    pub worn_first : (m' : Meaning) (f' : ℕ) (out' : List ℕ) (why : Refusal) (s : Statement) (ss : List Statement) → d.wants ≡ s ∷ ss → f' ≡ f → out' ≡ out → Unstated m why m' → Sending m m' d f f' out out' (Err why)
    worn_first m' f' out' why s ss wants same-f same-o u =
        let none : m.left ≡ 0 = u.none
        in let some : length d.wants ≡ suc (length ss) = ap length wants
        in inr (record {
          fits = room_told true room;
          few = grind (arith, nat_tests);
          worn = u.because;
          made = [];
          made_good = subst (λ k. Good m (take k d.wants) []) (sym none) tt;
          all_spent = u.unworn ∙ spent_none m none;
          outbox_same = same-o;
          fill_same = same-f;
        })

    -- worn before the second of two seals
    pub worn_second : (m1 m' : Meaning) (f' : ℕ) (out' : List ℕ) (why : Refusal) (s1 s2 : Statement) (seal : List ℕ) → d.wants ≡ s1 ∷ (s2 ∷ []) → f' ≡ f → out' ≡ out → Stated m (statement_bytes s1) m1 seal → Unstated m1 why m' → Sending m m' d f f' out out' (Err why)
    worn_second m1 m' f' out' why s1 s2 seal wants same-f same-o st u =
        let one : m.left ≡ 1 = let n : m1.left ≡ 0 = u.none in let l : m1.left ≡ m.left - 1 = ap (λ (x : Meaning). x.left) st.worn in let a = st.any in omega arith
        in let some : length d.wants ≡ 2 = ap length wants
        in inr (record {
          fits = room_told true room;
          few = grind (arith, nat_tests);
          worn = u.because;
          made = seal ∷ [];
          made_good = subst (λ k. Good m (take k d.wants) (seal ∷ [])) (sym one) (subst (λ ws. Good m (take 1 ws) (seal ∷ [])) (sym wants) ((st.sound, st.whole), tt));
          all_spent = u.unworn ∙ st.worn ∙ ap (λ k. spent_by k m) (sym one);
          outbox_same = same-o;
          fill_same = same-f;
        })

    -- one seal, and the message stands
    module _ (seals : List (List ℕ)) (f0 g f' : ℕ) (out' : List ℕ) (began : f0 ≡ f) (ended : f' ≡ g) (fills : length (draft_bytes d seals) ≡ need) (laid : Adds f0 g (draft_bytes d seals) out out') where
      stands : (out' ≡ wrote f (draft_bytes d seals) out) × (f' ≡ f + length (draft_bytes d seals))
      stands =
          let fit : f0 + length (draft_bytes d seals) ≤ length out = grind (arith, nat_tests)
          in (laid.stands fit ∙ (λ i. wrote (began i) (draft_bytes d seals) out), ended ∙ laid.moved fit ∙ ap (λ k. k + length (draft_bytes d seals)) began)

      pub goes_with : (m' : Meaning) → length d.wants ≤ m.left → Good m d.wants seals → m' ≡ spent_by (length d.wants) m → Sending m m' d f f' out out' (Ok seals)
      goes_with m' enough good spent =
          record { room = room_told true room; enough = grind (arith, nat_tests); good = good; spent = spent; outbox = stands.0; filled = stands.1 }

      -- with one seal, and with two
      pub goes_one : (m' : Meaning) (t : Statement) (x : List ℕ) → d.wants ≡ t ∷ [] → seals ≡ x ∷ [] → Stated m (statement_bytes t) m' x → Sending m m' d f f' out out' (Ok seals)
      goes_one m' t x wants are st =
          let one : length d.wants ≡ 1 = ap length wants
          in goes_with m' (let a = st.any in omega arith)
          (subst (Good m d.wants) (sym are) (subst (λ ws. Good m ws (x ∷ [])) (sym wants) ((st.sound, st.whole), tt)))
          (st.worn ∙ ap (λ k. spent_by k m) (sym one))

      pub goes_two : (m1 m' : Meaning) (t u : Statement) (x y : List ℕ) → d.wants ≡ t ∷ (u ∷ []) → seals ≡ x ∷ (y ∷ []) → Stated m (statement_bytes t) m1 x → Stated m1 (statement_bytes u) m' y → Sending m m' d f f' out out' (Ok seals)
      goes_two m1 m' t u x y wants are one two =
          let count : length d.wants ≡ 2 = ap length wants
          in let next : Stated (spent_by 1 m) (statement_bytes u) m' y = subst (λ z. Stated z (statement_bytes u) m' y) one.worn two
          in goes_with m' (let a = one.any in let b = next.any in omega arith)
          (subst (Good m d.wants) (sym are) (subst (λ ws. Good m ws (x ∷ (y ∷ []))) (sym wants) ((one.sound, one.whole), ((next.sound, next.whole), tt))))
          (next.worn ∙ spent_two m ∙ ap (λ k. spent_by k m) (sym count))

  -- what a call of `send` promises, by the room
  by_room : {T : Type 0} (told : Result T Refusal → Result (List (List ℕ)) Refusal) (m' : Meaning) (f' : ℕ) (out' : List ℕ) (r : Result T Refusal) → told (Err OutboxShort) ≡ Err OutboxShort
      → (fits f need (length out) ≡ false → (r ≡ Err OutboxShort) × ((m' ≡ m) × ((out' ≡ out) × (f' ≡ f))))
      → (true ≡ fits f need (length out) → Sending m m' d f f' out out' (told r)) → Sending m m' d f f' out out' (told r)
  by_room told m' f' out' r is short roomy = on (fits f need (length out)) refl
    where
      on : (b : Bool) → b ≡ fits f need (length out) → Sending m m' d f f' out out' (told r)
      on true e = roomy e
      on false e = let k = short (sym e) in subst (λ x. Sending m m' d f f' out out' x) (sym (ap told k.0 ∙ is)) (is_short m' f' out' k.1.0 k.1.1.1 k.1.1.0 e)

  -- for a draft of one seal
  module _ {F : Type 0} (g : Once F (MutBor Fill × (MutBor (List ℕ) × (Bor Seal × Unit {0}))) (Unit {0} × (MutBor Fill × (MutBor (List ℕ) × Unit {0})))) (lay : F) where
    pub sent_one : (m' : Meaning) (f' : ℕ) (out' : List ℕ) (r : Result Seal Refusal) (t : Statement) → d.wants ≡ t ∷ []
        → ((x : List ℕ) → length x ≡ m.long → length (draft_bytes d (x ∷ [])) ≡ need)
        → (fits f need (length out) ≡ false → (r ≡ Err OutboxShort) × ((m' ≡ m) × ((out' ≡ out) × (f' ≡ f))))
        → (fits f need (length out) ≡ true → Stating m (statement_bytes t) r m')
        → (fits f need (length out) ≡ true → Lays g lay r f f' out out')
        → ((seal : Seal) → LaysAt g lay seal f f' out out' → Adds f f' (draft_bytes d (seal_bytes seal ∷ [])) out out')
        → Sending m m' d f f' out out' (one_seal r)
    sent_one m' f' out' r t wants fills short made laid each = by_room one_seal m' f' out' r refl short (λ room. by_answer room r (made (sym room)) (laid (sym room)))
      where
        by_answer : true ≡ fits f need (length out) → (x : Result Seal Refusal) → Stating m (statement_bytes t) x m' → Lays g lay x f f' out out' → Sending m m' d f f' out out' (one_seal x)
        by_answer room (Ok seal) st l = goes_one room (seal_bytes seal ∷ []) f f' f' out' refl refl (fills (seal_bytes seal) st.whole) (each seal l) m' t (seal_bytes seal) wants refl st
        by_answer room (Err why) u l = worn_first room m' f' out' why t [] wants l.1 l.0 u

  -- and of two
  module _ {F : Type 0} (g : Once F (MutBor Fill × (MutBor (List ℕ) × (Bor ChangeSeals × Unit {0}))) (Unit {0} × (MutBor Fill × (MutBor (List ℕ) × Unit {0})))) (lay : F) where
    pub sent_two : (m' : Meaning) (f' : ℕ) (out' : List ℕ) (r : Result ChangeSeals Refusal) (t u : Statement) → d.wants ≡ t ∷ (u ∷ [])
        → ((x y : List ℕ) → length x ≡ m.long → length y ≡ m.long → length (draft_bytes d (x ∷ (y ∷ []))) ≡ need)
        → (fits f need (length out) ≡ false → (r ≡ Err OutboxShort) × ((m' ≡ m) × ((out' ≡ out) × (f' ≡ f))))
        → (fits f need (length out) ≡ true → StatingBoth m (statement_bytes t) (statement_bytes u) r m')
        → (fits f need (length out) ≡ true → Lays g lay r f f' out out')
        → ((seals : ChangeSeals) → LaysAt g lay seals f f' out out' → Adds f f' (draft_bytes d (two_of seals)) out out')
        → Sending m m' d f f' out out' (two_seals r)
    sent_two m' f' out' r t u wants fills short made laid each = by_room two_seals m' f' out' r refl short (λ room. by_answer room r (made (sym room)) (laid (sym room)))
      where
        by_answer : true ≡ fits f need (length out) → (x : Result ChangeSeals Refusal) → StatingBoth m (statement_bytes t) (statement_bytes u) x m' → Lays g lay x f f' out out' → Sending m m' d f f' out out' (two_seals x)
        by_answer room (Ok seals) st l =
            let long : st.between.long ≡ m.long = ap (λ (z : Meaning). z.long) st.one.worn
            in goes_two room (two_of seals) f f' f' out' refl refl (fills (seal_bytes seals.rchg) (seal_bytes seals.cand) st.one.whole (st.two.whole ∙ long)) (each seals l) st.between m' t u (seal_bytes seals.rchg) (seal_bytes seals.cand) wants refl st.one st.two
        by_answer room (Err why) (inl w) l = worn_first room m' f' out' why t (u ∷ []) wants l.1 l.0 w
        by_answer room (Err why) (inr w) l = worn_second room w.between m' f' out' why t u w.seal wants l.1 l.0 w.one w.none

-- how long the drafts are
zeros : (n : ℕ) → length {A = ℕ} (replicate n 0) ≡ n
zeros n = length-replicate n 0

-- with any seals of that length
module _ (own height round : ℕ) where
  pub change_fills : (page : Option Slip) (n : ℕ) (x y : List ℕ) → length x ≡ n → length y ≡ n → length (draft_bytes (change_draft own height round page) (x ∷ (y ∷ []))) ≡ 20 + slip_length page + 2 * n
  change_fills page n x y ex ey = let l = change_long (head_for own height round) page x y in omega arith

  pub change_size : (page : Option Slip) (n : ℕ) → draft_size (change_draft own height round page) n ≡ 20 + slip_length page + 2 * n
  change_size page n = change_fills page n (replicate n 0) (replicate n 0) (zeros n) (zeros n)

  pub commit_fills : (s : Slip) (n : ℕ) (x : List ℕ) → length x ≡ n → length (draft_bytes (commit_draft own height round s) (x ∷ [])) ≡ 20 + length (slip_bytes s) + n
  commit_fills s n x ex = let l = commit_long (head_for own height round) s x in omega arith

  pub commit_size : (s : Slip) (n : ℕ) → draft_size (commit_draft own height round s) n ≡ 20 + length (slip_bytes s) + n
  commit_size s n = commit_fills s n (replicate n 0) (zeros n)

module _ (h : Head) where
  pub release_fills : (s : Slip) (l : List ℕ) (n : ℕ) (x : List ℕ) → length x ≡ n → length (draft_bytes (release_for h s l) (x ∷ [])) ≡ 20 + length l + n
  release_fills s l n x ex = let w = release_long h l (record { head = h; cert = record { slip = s; own = x; votes = [] } }) x in omega arith

  pub release_size : (s : Slip) (l : List ℕ) (n : ℕ) → draft_size (release_for h s l) n ≡ 20 + length l + n
  release_size s l n = release_fills s l n (replicate n 0) (zeros n)

  pub cert_fills : (kind : Kind) (sort : ℕ) (word : Word) (s : Slip) (vs : List Vote) (n : ℕ) (x : List ℕ) → length x ≡ n → length (draft_bytes (cert_for h kind sort word s (map signed_by vs)) (x ∷ [])) ≡ 20 + length (slip_bytes s) + n + (4 * length vs + seals_length vs)
  cert_fills kind sort word s vs n x ex = let l = cert_bytes_long (kind_number kind) sort h s x vs in omega arith

  pub cert_size_lem : (kind : Kind) (sort : ℕ) (word : Word) (s : Slip) (vs : List Vote) (n : ℕ) → draft_size (cert_for h kind sort word s (map signed_by vs)) n ≡ 20 + length (slip_bytes s) + n + (4 * length vs + seals_length vs)
  cert_size_lem kind sort word s vs n = cert_fills kind sort word s vs n (replicate n 0) (zeros n)
