-- A written message, read: its header, and its bodies at the places where they were put.
use Rattle.std.proofs.Common.{◌≡◌, ℕ, suc, ◌+◌, ◌-◌, ◌*◌, ◌/◌, ◌%◌, ◌^◌, ◌<◌, true, List, [], ◌∷◌, ◌++◌, length, get_or, take, drop, sym, refl, ap, ◌∙◌, add_assoc, arith}
use Rattle.std.specs.List.{AllByRecursion as All}
use Rattle.std.proofs.lemmas.List.{append_assoc, append-nil, length-append, take_at, drop_at, drop-drop}
use Rattle.std.proofs.lemmas.Bool.{and_from, le-leb, eq-eqb}
use Rattle.base.specs.Numbers.{be4}
use Rattle.base.proofs.Back.{read, two_back, four_back}
use Rattle.message.specs.Encoding.{Block, table, bodies, framed}
use Rattle.message.specs.Layout.{Entry, sort_at, signer_at, length_at, entries_from, end_from, opens, opening, left, ending, whole}
use Rattle.message.specs.Shapes.{head_of}
use Rattle.message.specs.declared.shapes.Head.{Head}
use Rattle.message.proofs.Sizing.{length_table}

-- a block as a body that begins at a place
abbrev pub entry : Block → ℕ → Entry
entry b at = record { sort = b.sort; signer = b.signer; piece = record { from = at; bytes = b.bytes } }

-- blocks as bodies, one right after the other
abbrev pub placed : ℕ → List Block → List Entry
placed at [] = []
placed at (b ∷ bs) = entry b at ∷ placed (at + length b.bytes) bs

-- two bytes can say how long each body is
abbrev pub Short : List Block → Type 0
Short bs = All (λ b. length b.bytes < 65536) bs

pub length_placed : (at : ℕ) (bs : List Block) → length (placed at bs) ≡ length bs
length_placed at [] = refl
length_placed at (b ∷ bs) = ap suc (length_placed (at + length b.bytes) bs)

-- what stands in the message for its next body, where table and bodies go on as they were written
module _ (m : List ℕ) (b : Block) (bs : List Block) (i at : ℕ) (x y : List ℕ) (short : length b.bytes < 65536) (tab : drop (12 + 4 * i) m ≡ table (b ∷ bs) ++ x) (bod : drop at m ≡ bodies (b ∷ bs) ++ y) where
  sort_here : sort_at m i ≡ b.sort
  sort_here = read m (12 + 4 * i) 0 (12 + 4 * i) (table (b ∷ bs) ++ x) tab (omega arith)

  signer_here : signer_at m i ≡ b.signer
  signer_here = read m (12 + 4 * i) 1 (13 + 4 * i) (table (b ∷ bs) ++ x) tab (omega arith)

  length_here : length_at m i ≡ length b.bytes
  length_here =
      let p : get_or m (14 + 4 * i) 0 ≡ length b.bytes / 256 % 256 = read m (12 + 4 * i) 2 (14 + 4 * i) (table (b ∷ bs) ++ x) tab (omega arith)
      in let q : get_or m (14 + 4 * i + 1) 0 ≡ length b.bytes % 256 = read m (12 + 4 * i) 3 (14 + 4 * i + 1) (table (b ∷ bs) ++ x) tab (omega arith)
      in (λ t. p t * 256 + q t) ∙ two_back (length b.bytes) short

  split_here : drop at m ≡ b.bytes ++ (bodies bs ++ y)
  split_here = bod ∙ append_assoc b.bytes (bodies bs) y

  bytes_here : take (length_at m i) (drop at m) ≡ b.bytes
  bytes_here = (λ t. take (length_here t) (split_here t)) ∙ take_at b.bytes (bodies bs ++ y) (length b.bytes) refl

  table_next : drop (12 + 4 * (i + 1)) m ≡ table bs ++ x
  table_next =
      let next : 12 + 4 * (i + 1) ≡ 12 + 4 * i + 4 = omega arith
      in ap (λ k. drop k m) next ∙ sym (drop-drop 4 (12 + 4 * i) m) ∙ ap (drop 4) tab

  bodies_next : drop (at + length b.bytes) m ≡ bodies bs ++ y
  bodies_next = sym (drop-drop (length b.bytes) at m) ∙ ap (drop (length b.bytes)) split_here ∙ drop_at b.bytes (bodies bs ++ y) (length b.bytes) refl

pub entries_placed : (m : List ℕ) (bs : List Block) (i at : ℕ) (x y : List ℕ) → Short bs → drop (12 + 4 * i) m ≡ table bs ++ x → drop at m ≡ bodies bs ++ y → entries_from m (length bs) i at ≡ placed at bs
entries_placed m [] i at x y short tab bod = refl
entries_placed m (b ∷ bs) i at x y short tab bod =
    let s = sort_here m b bs i at x y short.0 tab bod
    in let g = signer_here m b bs i at x y short.0 tab bod
    in let l = length_here m b bs i at x y short.0 tab bod
    in let u = bytes_here m b bs i at x y short.0 tab bod
    in (λ t. record { sort = s t; signer = g t; piece = record { from = at; bytes = u t } } ∷ entries_from m (length bs) (i + 1) (at + l t))
    ∙ ap (λ z. entry b at ∷ z) (entries_placed m bs (i + 1) (at + length b.bytes) x y short.1 (table_next m b bs i at x y short.0 tab bod) (bodies_next m b bs i at x y short.0 tab bod))

pub end_placed : (m : List ℕ) (bs : List Block) (i at : ℕ) (x y : List ℕ) → Short bs → drop (12 + 4 * i) m ≡ table bs ++ x → drop at m ≡ bodies bs ++ y → end_from m (length bs) i at ≡ at + length (bodies bs)
end_placed m [] i at x y short tab bod = omega arith
end_placed m (b ∷ bs) i at x y short tab bod =
    let l = length_here m b bs i at x y short.0 tab bod
    in ap (λ k. end_from m (length bs) (i + 1) (at + k)) l
    ∙ end_placed m bs (i + 1) (at + length b.bytes) x y short.1 (table_next m b bs i at x y short.0 tab bod) (bodies_next m b bs i at x y short.0 tab bod)
    ∙ add_assoc at (length b.bytes) (length (bodies bs))
    ∙ ap (λ k. at + k) (sym (length-append b.bytes (bodies bs)))

-- a whole message as it is written
module _ (kind : ℕ) (h : Head) (bs : List Block) where
  pub length_framed : length (framed kind h bs) ≡ 12 + 4 * length bs + length (bodies bs)
  length_framed =
      let l = length-append (table bs) (bodies bs)
      in let t = length_table bs
      in omega arith

  opens_framed : opens (framed kind h bs) ≡ true
  opens_framed =
      let l = length_framed
      in and_from _ _ (le-leb 12 (length (framed kind h bs)) (omega arith)) (le-leb (12 + 4 * length bs) (length (framed kind h bs)) (omega arith))

  bodies_framed : drop (12 + 4 * length bs) (framed kind h bs) ≡ bodies bs ++ []
  bodies_framed =
      sym (drop-drop (4 * length bs) 12 (framed kind h bs)) ∙ drop_at (table bs) (bodies bs) (4 * length bs) (length_table bs) ∙ sym (append-nil (bodies bs))

  pub left_framed : Short bs → left (opening (framed kind h bs)) ≡ placed (12 + 4 * length bs) bs
  left_framed short =
      let all : length bs - 0 ≡ length bs = omega arith
      in ap (λ k. entries_from (framed kind h bs) k 0 (12 + 4 * length bs)) all
      ∙ entries_placed (framed kind h bs) bs 0 (12 + 4 * length bs) (bodies bs) [] short refl bodies_framed

  pub whole_framed : Short bs → whole (opening (framed kind h bs)) ≡ true
  whole_framed short =
      let all : length bs - 0 ≡ length bs = omega arith
      in let end : ending (opening (framed kind h bs)) ≡ 12 + 4 * length bs + length (bodies bs)
      = ap (λ k. end_from (framed kind h bs) k 0 (12 + 4 * length bs)) all
      ∙ end_placed (framed kind h bs) bs 0 (12 + 4 * length bs) (bodies bs) [] short refl bodies_framed
      in and_from _ _ opens_framed (eq-eqb _ _ (end ∙ sym length_framed))

  pub head_framed : h.height.0 < 2 ^ 32 → h.round.0 < 2 ^ 32 → head_of (framed kind h bs) ≡ h
  head_framed small-height small-round =
      let rest : List ℕ = table bs ++ bodies bs
      in let p = four_back (framed kind h bs) 4 h.height.0 (be4 h.round.0 ++ rest) refl small-height
      in let q = four_back (framed kind h bs) 8 h.round.0 rest refl small-round
      in λ t. record { sender = record { 0 = h.sender.0 }; height = record { 0 = p t }; round = record { 0 = q t } }
