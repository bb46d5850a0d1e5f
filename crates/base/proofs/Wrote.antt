-- Laws of writing over a part of a buffer.
use Rattle.std.proofs.Common.{◌≡◌, ℕ, ◌+◌, ◌≤◌, List, ◌++◌, length, take, drop, sym, refl, ap, ◌∙◌, add_assoc, arith}
use borrow.Rule.Slice.PartMut.{put_mid}
use Rattle.std.proofs.lemmas.List.{length-append, length-take-le, length-drop, append_assoc, take_at, drop_at, drop-drop}
use Rattle.base.specs.Writing.{wrote}

module _ (at : ℕ) (bytes out : List ℕ) (fits : at + length bytes ≤ length out) where
  pub length_wrote : length (wrote at bytes out) ≡ length out
  length_wrote =
      let front : length (take at out) ≡ at = length-take-le at out (omega arith)
      in simp (length-append, length-drop) (omega (arith, front))

  -- what stands before the place is as it was
  pub take_wrote : take at (wrote at bytes out) ≡ take at out
  take_wrote = take_at (take at out) _ at (length-take-le at out (omega arith))

  -- what stands past the bytes is as it was
  pub drop_wrote : drop (at + length bytes) (wrote at bytes out) ≡ drop (at + length bytes) out
  drop_wrote =
      let front : length (take at out) ≡ at = length-take-le at out (omega arith)
      in sym (drop-drop (length bytes) at (wrote at bytes out)) ∙ ap (drop (length bytes)) (drop_at (take at out) _ at front)
      ∙ drop_at bytes _ (length bytes) refl

  -- the bytes stand at the place
  pub read_wrote : take (length bytes) (drop at (wrote at bytes out)) ≡ bytes
  read_wrote =
      let front : length (take at out) ≡ at = length-take-le at out (omega arith)
      in ap (take (length bytes)) (drop_at (take at out) _ at front) ∙ take_at bytes _ (length bytes) refl

-- one piece after another is both pieces
pub wrote_wrote : (at next : ℕ) (a b out : List ℕ) → next ≡ at + length a → next + length b ≤ length out → wrote next b (wrote at a out) ≡ wrote at (a ++ b) out
wrote_wrote at next a b out is fits =
    let front : length (take at out) ≡ at = length-take-le at out (omega arith)
    in let fit : at + length a ≤ length out = omega arith
    in let both : length (take at out ++ a) ≡ next = simp length-append (omega (arith, front))
    in let head : take next (wrote at a out) ≡ take at out ++ a
    = ap (take next) (sym (append_assoc (take at out) a _)) ∙ take_at (take at out ++ a) _ next both
    in let tail : drop (next + length b) (wrote at a out) ≡ drop (at + length (a ++ b)) out
    = sym (drop-drop (length b) next (wrote at a out)) ∙ ap (drop (length b)) (ap (λ k. drop k (wrote at a out)) is ∙ drop_wrote at a out fit)
    ∙ drop-drop (length b) (at + length a) out ∙ ap (λ k. drop k out) (add_assoc at (length a) (length b) ∙ ap (λ k. at + k) (sym (length-append a b)))
    in simp (head, tail, append_assoc) refl

-- what a copy into a part of the buffer leaves
pub put_mid_wrote : (at k : ℕ) (out ys bytes : List ℕ) → ys ≡ bytes → k ≡ length bytes → put_mid at k out ys ≡ wrote at bytes out
put_mid_wrote at k out ys bytes same long =
    ap (λ z. take at out ++ (z ++ drop k (drop at out))) same
    ∙ ap (λ z. take at out ++ (bytes ++ z)) (drop-drop k at out ∙ ap (λ j. drop (at + j) out) long)

-- the next piece, which is b, put right after what is written so far
pub put_next : (at next : ℕ) (a b piece out o o' : List ℕ) → o ≡ wrote at a out → piece ≡ b → next ≡ at + length a → next + length b ≤ length out → (next + length piece ≤ length o → o' ≡ wrote next piece o) → o' ≡ wrote at (a ++ b) out
put_next at next a b piece out o o' was same is fits put =
    let fit : at + length a ≤ length out = omega arith
    in let kept : length o ≡ length out = ap length was ∙ length_wrote at a out fit
    in let long : length piece ≡ length b = ap length same
    in put (omega arith) ∙ ap (λ x. wrote next x o) same ∙ ap (wrote next b) was ∙ wrote_wrote at next a b out is fits
