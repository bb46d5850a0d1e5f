-- Reading the quorum's seals: what is left decides.
use Rattle.std.proofs.Common.{◌≡◌, ℕ, ◌+◌, Bool, true, false, ◌&&◌, eqb, leb, List, [], ◌∷◌, length, sym, refl, ap, ◌∙◌}
use Rattle.message.specs.Layout.{Entry, Place, opens, left, ending, whole}
use Rattle.message.specs.Shapes.{rising, ended}

-- the message is whole, and what is left are seals of the sort from a member on
abbrev pub verdict : ℕ → ℕ → ℕ → Place → Bool
verdict sort n low p = whole p && rising sort n low (left p)

abbrev pub voting : ℕ → ℕ → ℕ → Entry → Bool
voting sort n low e = eqb e.sort sort && (leb low e.signer && eqb (length e.piece.bytes) n)

and_false : (b : Bool) → (b && false) ≡ false
and_false true = refl
and_false false = refl

pub whole_same : (p p' : Place) → ending p' ≡ ending p → p'.text ≡ p.text → whole p ≡ whole p'
whole_same p p' e t = sym (λ i. opens (t i) && eqb (e i) (length (t i)))

module _ (sort n low : ℕ) (p p' : Place) (e : Entry) (next : left p ≡ e ∷ left p') (end : ending p' ≡ ending p) (text : p'.text ≡ p.text) where
  seen : verdict sort n low p ≡ (whole p' && (voting sort n low e && rising sort n (e.signer + 1) (left p')))
  seen = (λ i. whole_same p p' end text i && rising sort n low (next i))

  pub verdict_more : voting sort n low e ≡ true → verdict sort n low p ≡ verdict sort n (e.signer + 1) p'
  verdict_more v = seen ∙ ap (λ b. whole p' && (b && rising sort n (e.signer + 1) (left p'))) v

  pub verdict_bad : voting sort n low e ≡ false → verdict sort n low p ≡ false
  verdict_bad v = seen ∙ ap (λ b. whole p' && (b && rising sort n (e.signer + 1) (left p'))) v ∙ and_false (whole p')

-- where no further body comes
end_by : (sort n low : ℕ) (es : List Entry) (w : Bool) → (w ≡ true → es ≡ []) → (ended es && w) ≡ (w && rising sort n low es)
end_by sort n low es false none = and_false (ended es)
end_by sort n low es true none = ap (λ x. ended x && true) (none refl) ∙ sym (ap (λ x. true && rising sort n low x) (none refl))

pub verdict_end : (sort n low : ℕ) (p : Place) → (whole p ≡ true → left p ≡ []) → (ended (left p) && whole p) ≡ verdict sort n low p
verdict_end sort n low p none = end_by sort n low (left p) (whole p) none
