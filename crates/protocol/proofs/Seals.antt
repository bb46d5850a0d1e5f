-- Sealed statements and what they are of: a candidate is a statement in the log, a commit a commitment.
use Rattle.std.proofs.Common.{◌≡◌, ℕ, List, [], ◌∷◌, ◌++◌, map, Some, sym, refl, ap, ◌∙◌, subst, inl, inr}
use Rattle.std.specs.List.{AllByRecursion as All}
use Rattle.agree.specs.Lists.{In}
use Rattle.agree.specs.Pool.{Event, Event.stated, Event.committed}
use Rattle.agree.proofs.Log.{in_old, some_same}
use Rattle.base.specs.Statements.{statement_bytes, word_bytes, named, StatementFits}
use Rattle.base.specs.declared.slips.Mark.{Mark}
use Rattle.base.specs.declared.slips.Slip.{Slip}
use Rattle.base.specs.declared.statements.Statement.{Statement}
use Rattle.base.specs.declared.statements.Word.{Word}
use Rattle.base.specs.declared.statements.Word.TheVariants.{Rchg, Cand, Cmit, Lock, Slct, Dcid, Rlse}
use Rattle.base.proofs.Distinct.{split, word_one, word_long, statement_one}
use Rattle.protocol.specs.Runs.{stated_in, stated_by}
use Rattle.protocol.proofs.Shelf.{in_either}

-- the log has what a statement says, if it is a candidate or a commit
abbrev pub Logged : ℕ → List (Event Slip Mark) → Word → Statement → Type 0
Logged i log Rchg s = Unit {0}
Logged i log Cand s = In (stated i s.height.0 s.round.0 s.page) log
Logged i log Cmit s = (p : Slip) → s.page ≡ Some p → In (committed i s.height.0 s.round.0 p) log
Logged i log Lock s = Unit {0}
Logged i log Slct s = Unit {0}
Logged i log Dcid s = Unit {0}
Logged i log Rlse s = Unit {0}

-- and it is a statement of the program
abbrev pub Borne : ℕ → List (Event Slip Mark) → Word → Statement → Type 0
Borne i log Rchg s = Unit {0}
Borne i log Cand s = StatementFits s × Logged i log Cand s
Borne i log Cmit s = StatementFits s × Logged i log Cmit s
Borne i log Lock s = Unit {0}
Borne i log Slct s = Unit {0}
Borne i log Dcid s = Unit {0}
Borne i log Rlse s = Unit {0}

-- a statement of another word than these two
abbrev pub Silent : Word → Type 0
Silent Rchg = Unit {0}
Silent Cand = ⊥
Silent Cmit = ⊥
Silent Lock = Unit {0}
Silent Slct = Unit {0}
Silent Dcid = Unit {0}
Silent Rlse = Unit {0}

abbrev pub SilentAll : List Statement → Type 0
SilentAll ss = All (λ (s : Statement). Silent s.word) ss

silent_borne : (i : ℕ) (log : List (Event Slip Mark)) (u : Word) (s : Statement) → Silent u → Borne i log u s
silent_borne i log Rchg s h = tt
silent_borne i log Cand s h = absurd h
silent_borne i log Cmit s h = absurd h
silent_borne i log Lock s h = tt
silent_borne i log Slct s h = tt
silent_borne i log Dcid s h = tt
silent_borne i log Rlse s h = tt

pub silent_all : (i : ℕ) (log : List (Event Slip Mark)) (ss : List Statement) → SilentAll ss → All (λ (s : Statement). Borne i log s.word s) ss
silent_all i log [] h = tt
silent_all i log (s ∷ ss) h = (silent_borne i log s.word s h.0, silent_all i log ss h.1)

silent_by : (i : ℕ) (u : Word) (s : Statement) → Silent u → stated_by i u s ≡ []
silent_by i Rchg s h = refl
silent_by i Cand s h = absurd h
silent_by i Cmit s h = refl
silent_by i Lock s h = refl
silent_by i Slct s h = refl
silent_by i Dcid s h = refl
silent_by i Rlse s h = refl

-- and none of them is logged
pub silent_log : (i : ℕ) (ss : List Statement) → SilentAll ss → stated_in i ss ≡ []
silent_log i [] h = refl
silent_log i (s ∷ ss) h = ap (λ l. l ++ stated_by i s.word s) (silent_log i ss h.1) ∙ silent_by i s.word s h.0

-- what is logged stays logged
pub logged_more : (i : ℕ) (new old : List (Event Slip Mark)) (u : Word) (s : Statement) → Logged i old u s → Logged i (new ++ old) u s
logged_more i new old Rchg s h = tt
logged_more i new old Cand s h = in_old new old _ h
logged_more i new old Cmit s h = λ p e. in_old new old _ (h p e)
logged_more i new old Lock s h = tt
logged_more i new old Slct s h = tt
logged_more i new old Dcid s h = tt
logged_more i new old Rlse s h = tt

-- bytes decide the word, whatever else is said
pub one_word : (s u : Statement) → statement_bytes s ≡ statement_bytes u → s.word ≡ u.word
one_word s u e = word_one s.word u.word (split (word_bytes s.word) (word_bytes u.word) _ _ (word_long s.word ∙ sym (word_long u.word)) e).0

-- a statement with the bytes of one that was borne out is logged
alike : (i : ℕ) (log : List (Event Slip Mark)) (u : Word) (s n : Statement) → s.word ≡ u → n.word ≡ u → StatementFits s → statement_bytes s ≡ statement_bytes n → Borne i log u n → Logged i log u s
alike i log Rchg s n ws wn fits e b = tt
alike i log Cand s n ws wn fits e b =
    let same = statement_one s n fits b.0 e in
    let page : s.page ≡ n.page = some_same (ap (λ w. named w s.page) (sym ws) ∙ same.page_same ∙ ap (λ w. named w n.page) wn) in
    subst (λ x. In x log) (λ t. stated i (sym same.height_same t).0 (sym same.round_same t).0 (sym page t)) b.1
alike i log Cmit s n ws wn fits e b =
    let same = statement_one s n fits b.0 e in
    let page : s.page ≡ n.page = some_same (ap (λ w. named w s.page) (sym ws) ∙ same.page_same ∙ ap (λ w. named w n.page) wn) in
    λ p is. subst (λ x. In x log) (λ t. committed i (sym same.height_same t).0 (sym same.round_same t).0 p) (b.1 p (sym page ∙ is))
alike i log Lock s n ws wn fits e b = tt
alike i log Slct s n ws wn fits e b = tt
alike i log Dcid s n ws wn fits e b = tt
alike i log Rlse s n ws wn fits e b = tt

-- every sealed statement of the program is logged
abbrev pub Told : List (ℕ × List ℕ) → List (Event Slip Mark) → Type 0
Told sealed log = (i : ℕ) (s : Statement) → StatementFits s → In (i, statement_bytes s) sealed → Logged i log s.word s

abbrev pub marked : ℕ → List Statement → List (ℕ × List ℕ)
marked i ss = map (λ (s : Statement). (i, statement_bytes s)) ss

new_told : (i : ℕ) (ss : List Statement) (log : List (Event Slip Mark)) → All (λ (s : Statement). Borne i log s.word s) ss → (j : ℕ) (s : Statement) → StatementFits s → In (j, statement_bytes s) (marked i ss) → Logged j log s.word s
new_told i [] log all j s fits h = absurd h
new_told i (n ∷ ss) log all j s fits h =
    elim h [
      | inl e ↦
          (let who : i ≡ j = sym (ap (λ (x : ℕ × List ℕ). x.0) e) in
          let bytes : statement_bytes s ≡ statement_bytes n = ap (λ (x : ℕ × List ℕ). x.1) e in
          let word : n.word ≡ s.word = sym (one_word s n bytes) in
          subst (λ k. Logged k log s.word s) who
          (alike i log s.word s n refl word fits bytes (subst (λ w. Borne i log w n) word all.0)))
      | inr k ↦ new_told i ss log all.1 j s fits k
    ]

pub told_more : (i : ℕ) (ss : List Statement) (sealed : List (ℕ × List ℕ)) (new old : List (Event Slip Mark)) → All (λ (s : Statement). Borne i (new ++ old) s.word s) ss → Told sealed old → Told (marked i ss ++ sealed) (new ++ old)
told_more i ss sealed new old all told j s fits h =
    elim (in_either (marked i ss) sealed (j, statement_bytes s) h) [
      | inl n ↦ new_told i ss (new ++ old) all j s fits n
      | inr o ↦ logged_more j new old s.word s (told j s fits o)
    ]
