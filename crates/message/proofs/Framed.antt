-- A message that was read whole is what is written of its header and its bodies.
use Rattle.std.proofs.Common.{◌≡◌, ℕ, zero, suc, ◌+◌, ◌-◌, ◌*◌, ◌<◌, ◌≤◌, true, ◌&&◌, eqb, leb, List, [], ◌∷◌, ◌++◌, map, length, get_or, take, drop, sym, refl, ap, ◌∙◌, arith}
use Rattle.std.specs.List.{AllByRecursion as All}
use Rattle.std.proofs.ByRecursion.{All-take, All-drop}
use Rattle.std.proofs.lemmas.List.{append_assoc, append-nil, length-drop, length-map, length-take-le, drop_all, drop-drop, take-append-drop}
use Rattle.std.proofs.lemmas.Bool.{and_parts, leb-true, eqb-true}
use Rattle.base.specs.Numbers.{be2, be4, four, Bytes}
use Rattle.base.proofs.Back.{byte, more_four, be2_back, be4_four}
use Rattle.message.specs.Encoding.{Block, block, table, bodies, framed}
use Rattle.message.specs.Layout.{Entry, count, length_at, sort_at, signer_at, entries_from, end_from, opens, opening, left, ending, whole}
use Rattle.message.specs.Shapes.{head_of}
use Rattle.message.proofs.Reading.{length_entries, from_end}

-- a body without its place
abbrev pub strip : Entry → Block
strip e = block e.sort e.signer e.piece.bytes

-- a body of bytes in a byte's name
abbrev pub Plain : Entry → Type 0
Plain e = Bytes e.piece.bytes × (e.signer < 256)

module _ (m : List ℕ) (bytes : Bytes m) where
  pub entries_plain : (k i at : ℕ) → All Plain (entries_from m k i at)
  entries_plain zero i at = tt
  entries_plain (suc k) i at = (
    (All-take (λ b. b < 256) (length_at m i) (drop at m) (All-drop (λ b. b < 256) at m bytes), byte m (13 + 4 * i) bytes),
    entries_plain k (i + 1) (at + length_at m i),
  )

  -- the bytes of a body that is there are as many as the table says
  long_body : (k i at : ℕ) → end_from m (suc k) i at ≤ length m → length (take (length_at m i) (drop at m)) ≡ length_at m i
  long_body k i at end =
      let h = from_end m k (i + 1) (at + length_at m i)
      in length-take-le (length_at m i) (drop at m) (simp length-drop (omega arith))

  table_back : (k i at : ℕ) → 12 + 4 * (i + k) ≤ length m → end_from m k i at ≤ length m → drop (12 + 4 * i) m ≡ table (map strip (entries_from m k i at)) ++ drop (12 + 4 * (i + k)) m
  table_back zero i at room end =
      let same : 12 + 4 * i ≡ 12 + 4 * (i + 0) = omega arith
      in ap (λ z. drop z m) same
  table_back (suc k) i at room end =
      let p = 12 + 4 * i
      in let rest : List ℕ = table (map strip (entries_from m k (i + 1) (at + length_at m i))) ++ drop (12 + 4 * (i + suc k)) m
      in let e1 : p + 1 ≡ 13 + 4 * i = omega arith
      in let e2 : p + 2 ≡ 14 + 4 * i = omega arith
      in let e3 : p + 3 ≡ 14 + 4 * i + 1 = omega arith
      in let e4 : p + 4 ≡ 12 + 4 * (i + 1) = omega arith
      in let e5 : 12 + 4 * ((i + 1) + k) ≡ 12 + 4 * (i + suc k) = omega arith
      in let says : be2 (length (take (length_at m i) (drop at m))) ≡ get_or m (14 + 4 * i) 0 ∷ get_or m (14 + 4 * i + 1) 0 ∷ []
      = ap be2 (long_body k i at end) ∙ be2_back (get_or m (14 + 4 * i) 0) (get_or m (14 + 4 * i + 1) 0) (byte m (14 + 4 * i) bytes) (byte m (14 + 4 * i + 1) bytes)
      in let next : drop (12 + 4 * (i + 1)) m ≡ rest
      = table_back k (i + 1) (at + length_at m i) (omega arith) end ∙ ap (λ z. table (map strip (entries_from m k (i + 1) (at + length_at m i))) ++ drop z m) e5
      in more_four m p (omega arith)
      ∙ (λ t. get_or m p 0 ∷ get_or m (e1 t) 0 ∷ get_or m (e2 t) 0 ∷ get_or m (e3 t) 0 ∷ drop (e4 t) m)
      ∙ (λ t. sort_at m i ∷ signer_at m i ∷ (sym says t ++ next t))

  bodies_back : (k i at : ℕ) → end_from m k i at ≤ length m → drop at m ≡ bodies (map strip (entries_from m k i at)) ++ drop (end_from m k i at) m
  bodies_back zero i at end = refl
  bodies_back (suc k) i at end =
      sym (take-append-drop (length_at m i) (drop at m))
      ∙ ap (λ z. take (length_at m i) (drop at m) ++ z) (drop-drop (length_at m i) at m ∙ bodies_back k (i + 1) (at + length_at m i) end)
      ∙ sym (append_assoc (take (length_at m i) (drop at m)) _ _)

  header_back : 12 ≤ length m → m ≡ get_or m 0 0 ∷ get_or m 1 0 ∷ get_or m 2 0 ∷ get_or m 3 0 ∷ ((be4 (four m 4) ++ be4 (four m 8)) ++ drop 12 m)
  header_back h =
      more_four m 0 (omega arith)
      ∙ ap (λ z. get_or m 0 0 ∷ get_or m 1 0 ∷ get_or m 2 0 ∷ get_or m 3 0 ∷ z) (more_four m 4 (omega arith))
      ∙ ap (λ z. get_or m 0 0 ∷ get_or m 1 0 ∷ get_or m 2 0 ∷ get_or m 3 0 ∷ get_or m 4 0 ∷ get_or m 5 0 ∷ get_or m 6 0 ∷ get_or m 7 0 ∷ z) (more_four m 8 (omega arith))
      ∙ (λ t. get_or m 0 0 ∷ get_or m 1 0 ∷ get_or m 2 0 ∷ get_or m 3 0 ∷ ((sym (be4_four m 4 bytes) t ++ sym (be4_four m 8 bytes) t) ++ drop 12 m))

  pub frame_back : whole (opening m) ≡ true → m ≡ framed (get_or m 0 0) (head_of m) (map strip (left (opening m)))
  frame_back is =
      let w = and_parts (opens m) (eqb (ending (opening m)) (length m)) is
      in let o = and_parts (leb 12 (length m)) (eqb (get_or m 3 0) 0 && leb (12 + 4 * count m) (length m)) w.0
      in let z = and_parts (eqb (get_or m 3 0) 0) (leb (12 + 4 * count m) (length m)) o.1
      in let header-there : 12 ≤ length m = leb-true _ _ o.0
      in let none : get_or m 3 0 ≡ 0 = eqb-true _ _ z.0
      in let room : 12 + 4 * count m ≤ length m = leb-true _ _ z.1
      in let end : ending (opening m) ≡ length m = eqb-true _ _ w.1
      in let n : ℕ = count m - 0
      in let at : ℕ = 12 + 4 * count m
      in let bs : List Block = map strip (left (opening m))
      in let far : 12 + 4 * (0 + n) ≡ at = omega arith
      in let tables : drop 12 m ≡ table bs ++ drop at m = table_back n 0 at (omega arith) (omega arith) ∙ ap (λ k. table bs ++ drop k m) far
      in let rest : drop at m ≡ bodies bs
      = bodies_back n 0 at (omega arith) ∙ ap (λ k. bodies bs ++ k) (drop_all (ending (opening m)) m (omega arith)) ∙ append-nil (bodies bs)
      in let counted : get_or m 2 0 ≡ length bs
      = (let e : get_or m 2 0 ≡ n = omega arith in e) ∙ sym (length-map (left (opening m)) strip ∙ length_entries m n 0 at)
      in header_back header-there
      ∙ (λ t. get_or m 0 0 ∷ get_or m 1 0 ∷ counted t ∷ none t ∷ ((be4 (four m 4) ++ be4 (four m 8)) ++ (tables ∙ ap (λ k. table bs ++ k) rest) t))
