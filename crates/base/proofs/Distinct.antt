-- Bytes that agree come from one number, one slip, one page, one statement.
use Rattle.std.proofs.Common.{◌≡◌, ℕ, ◌/◌, ◌%◌, ◌^◌, ◌<◌, true, false, cond, eqb, List, ◌++◌, length, get_or, take, drop, replicate, Some, None, Option, sym, refl, ap, ◌∙◌, arith}
use Rattle.std.proofs.lemmas.List.{take_at, drop_at, length-append}
use Rattle.base.specs.Numbers.{be4, all_zero}
use Rattle.base.specs.Slips.{slip_bytes, page_bytes, SlipFits}
use Rattle.base.specs.Statements.{word_bytes, named, named_bytes, PageFits, BytesDecideStatement}
use Rattle.base.specs.declared.slips.Slip.{Slip}
use Rattle.base.specs.declared.statements.Word.{Word}
use Rattle.base.specs.declared.statements.Word.TheVariants.{Rchg, Cand, Cmit, Lock, Slct, Dcid, Rlse}

-- fronts of one length are one, and so are the rests
pub split : {X : Type 0} (a b x y : List X) → length a ≡ length b → a ++ x ≡ b ++ y → (a ≡ b) × (x ≡ y)
split a b x y long same = (
  sym (take_at a x (length b) long) ∙ ap (take (length b)) same ∙ take_at b y (length b) refl,
  sym (drop_at a x (length b) long) ∙ ap (drop (length b)) same ∙ drop_at b y (length b) refl,
)

-- four bytes are of one number
pub be4_one : (m n : ℕ) → m < 2 ^ 32 → n < 2 ^ 32 → be4 m ≡ be4 n → m ≡ n
be4_one m n hm hn same =
    let a : m / 16777216 % 256 ≡ n / 16777216 % 256 = ap (λ (l : List ℕ). get_or l 0 0) same
    in let b : m / 65536 % 256 ≡ n / 65536 % 256 = ap (λ (l : List ℕ). get_or l 1 0) same
    in let c : m / 256 % 256 ≡ n / 256 % 256 = ap (λ (l : List ℕ). get_or l 2 0) same
    in let d : m % 256 ≡ n % 256 = ap (λ (l : List ℕ). get_or l 3 0) same
    in omega arith

pub slip_one : (a b : Slip) → SlipFits a → SlipFits b → slip_bytes a ≡ slip_bytes b → a ≡ b
slip_one a b fa fb same =
    let p = split a.parent.0 b.parent.0 _ _ (fa.parent_fits ∙ sym fb.parent_fits) same
    in let o = split a.own.0 b.own.0 _ _ (fa.own_fits ∙ sym fb.own_fits) p.1
    in let n = split (be4 a.lots) (be4 b.lots) _ _ refl o.1
    in let l : a.lots ≡ b.lots = be4_one _ _ fa.lots_fits fb.lots_fits n.0
    in let m : a.maker ≡ b.maker = be4_one _ _ fa.maker_fits fb.maker_fits n.1
    in λ i. record { parent = record { 0 = p.0 i }; own = record { 0 = o.0 i }; lots = l i; maker = m i }

-- none is written as zeros, and no slip that fits is
none_apart : (s : Slip) → all_zero (slip_bytes s) ≡ false → slip_bytes s ≡ replicate 72 0 → ⊥
none_apart s not-zero same =
    let z : true ≡ false = sym (ap all_zero same) ∙ not-zero
    in let n : ◌≡◌ {A = ℕ} 0 1 = cc in omega arith

pub page_one : (a b : Option Slip) → PageFits a → PageFits b → page_bytes a ≡ page_bytes b → a ≡ b
page_one None None fa fb same = refl
page_one None (Some s) fa fb same = absurd (none_apart s fb.1 (sym same))
page_one (Some s) None fa fb same = absurd (none_apart s fa.1 same)
page_one (Some s) (Some u) fa fb same = ap Some (slip_one s u fa.0 fb.0 same)

-- the word that letters spell
spelt : List ℕ → Word
spelt l =
    cond (eqb (get_or l 1 0) 65) Cand
    (cond (eqb (get_or l 1 0) 77) Cmit
    (cond (eqb (get_or l 1 0) 79) Lock
    (cond (eqb (get_or l 0 0) 83) Slct
    (cond (eqb (get_or l 0 0) 68) Dcid
    (cond (eqb (get_or l 1 0) 67) Rchg Rlse)))))

spelt_word : (w : Word) → spelt (word_bytes w) ≡ w
unfolding spelt
spelt_word Rchg = refl
spelt_word Cand = refl
spelt_word Cmit = refl
spelt_word Lock = refl
spelt_word Slct = refl
spelt_word Dcid = refl
spelt_word Rlse = refl

pub word_long : (w : Word) → length (word_bytes w) ≡ 4
word_long Rchg = refl
word_long Cand = refl
word_long Cmit = refl
word_long Lock = refl
word_long Slct = refl
word_long Dcid = refl
word_long Rlse = refl

pub word_one : (a b : Word) → word_bytes a ≡ word_bytes b → a ≡ b
word_one a b same = sym (spelt_word a) ∙ ap spelt same ∙ spelt_word b

named_one : (w : Word) (a b : Option Slip) → PageFits a → PageFits b → named_bytes (named w a) ≡ named_bytes (named w b) → named w a ≡ named w b
named_one Rchg a b fa fb same = refl
named_one Cand a b fa fb same = ap Some (page_one a b fa fb same)
named_one Cmit a b fa fb same = ap Some (page_one a b fa fb same)
named_one Lock a b fa fb same = ap Some (page_one a b fa fb same)
named_one Slct a b fa fb same = ap Some (page_one a b fa fb same)
named_one Dcid a b fa fb same = ap Some (page_one a b fa fb same)
named_one Rlse a b fa fb same = ap Some (page_one a b fa fb same)

pub statement_one : BytesDecideStatement
statement_one a b fa fb same =
    let w = split (word_bytes a.word) (word_bytes b.word) _ _ (word_long a.word ∙ sym (word_long b.word)) same
    in let words : a.word ≡ b.word = word_one _ _ w.0
    in let h = split (be4 a.height.0) (be4 b.height.0) _ _ refl w.1
    in let r = split (be4 a.round.0) (be4 b.round.0) _ _ refl h.1
    in let heights : a.height.0 ≡ b.height.0 = be4_one _ _ fa.height_fits fb.height_fits h.0
    in let rounds : a.round.0 ≡ b.round.0 = be4_one _ _ fa.round_fits fb.round_fits r.0
    in let pages : named_bytes (named a.word a.page) ≡ named_bytes (named a.word b.page)
    = r.1 ∙ ap (λ w. named_bytes (named w b.page)) (sym words)
    in record {
      word_same = words;
      height_same = ap (λ (x : ℕ). record { 0 = x }) heights;
      round_same = ap (λ (x : ℕ). record { 0 = x }) rounds;
      page_same = named_one a.word a.page b.page fa.page_fits fb.page_fits pages ∙ ap (λ w. named w b.page) words;
    }

-- every word but RCHG is followed by the page
pub named_page : (w : Word) (page : Option Slip) → (w ≡ Rchg → ⊥) → named w page ≡ Some page
named_page Rchg page other = absurd (other refl)
named_page Cand page other = refl
named_page Cmit page other = refl
named_page Lock page other = refl
named_page Slct page other = refl
named_page Dcid page other = refl
named_page Rlse page other = refl

-- a slip with marks of 32 bytes has 72
pub slip_length_lem : (s : Slip) → length s.parent.0 ≡ 32 → length s.own.0 ≡ 32 → length (slip_bytes s) ≡ 72
slip_length_lem s p o = simp length-append (omega (arith, p, o))

pub slip_long : (s : Slip) → SlipFits s → length (slip_bytes s) ≡ 72
slip_long s f = slip_length_lem s f.parent_fits f.own_fits
