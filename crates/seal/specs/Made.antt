-- What each of the two kinds makes is as long as its seals are, and is recognised by its maker and by who shares the
-- key. No contract cites these lemmas: they stand here since the impls of the kinds show their laws by them, and an
-- impl may name only what stands in specs/.
use Rattle.std.specs.Prelude.{◌≡◌, ℕ, zero, suc, ◌*◌, ◌<◌, ◌≤◌, true, ◌&&◌, List, length, take, drop, refl}
use Rattle.std.proofs.Common.{sym, ap, ◌∙◌, ⊎_elim, eq-eqb, arith}
use Rattle.std.specs.Cmp.Lexicographic.{bytes_decides}
use Rattle.std.proofs.lemmas.List.{length-append, length-drop, take_all, take-append-le, drop_at, drop-append-le}
use Rattle.std.proofs.lemmas.Bool.{cases_eq, lt-ltb}
use Rattle.seal.specs.Tags.{eight_bytes, tag_of, key_of, tags_below, tag_at, row_seal, row_knows, same, RowsPass, SinglesPass, single_seal}

pub same_itself : (xs : List ℕ) → same xs xs ≡ true
same_itself xs = (bytes_decides xs xs).1 refl

pub length_eight_bytes : (n : ℕ) → length (eight_bytes n) ≡ 8
unfolding eight_bytes
length_eight_bytes n = refl

-- single keys
pub single_whole : (keys : List (List ℕ)) (own : ℕ) (statement : List ℕ) → length (single_seal keys own statement) ≡ 8
single_whole keys own statement = length_eight_bytes _

pub singles_pass : SinglesPass
singles_pass keys a statement h = λ i. lt-ltb a 10 h i && same_itself (single_seal keys a statement) i

-- rows of keys
module _ (keys : List (List ℕ)) (own : ℕ) (statement : List ℕ) where
  pub length_tags : (k : ℕ) → length (tags_below k keys own statement) ≡ 8 * k
  length_tags zero = refl
  length_tags (suc k) = simp length-append (omega (arith, length_tags k, length_eight_bytes))

  -- the last tag of k + 1
  last : (k i : ℕ) → i ≡ k → tag_at i (tags_below (suc k) keys own statement) ≡ tag_of (key_of keys i) own statement
  last k i is =
      let t = tag_of (key_of keys k) own statement
      in ap (λ j. tag_at j (tags_below (suc k) keys own statement)) is
      ∙ ap (take 8) (drop_at (tags_below k keys own statement) t (8 * k) (length_tags k))
      ∙ take_all 8 t (omega (arith, length_eight_bytes))
      ∙ ap (λ j. tag_of (key_of keys j) own statement) (sym is)

  -- the tag at each place
  pub tag_at_lem : (k i : ℕ) → i < k → tag_at i (tags_below k keys own statement) ≡ tag_of (key_of keys i) own statement
  tag_at_lem zero i h = absurd (omega arith)
  tag_at_lem (suc k) i h =
      let T = tags_below k keys own statement
      in let t = tag_of (key_of keys k) own statement
      in let long = length_tags k
      in ⊎_elim (last k i)
      (λ (ne : i ≡ k → ⊥).
      let less : i < k = omega arith
      in let room : 8 ≤ length (drop (8 * i) T) = simp length-drop (omega arith)
      in ap (take 8) (drop-append-le (8 * i) T t (omega arith)) ∙ take-append-le 8 (drop (8 * i) T) t room ∙ tag_at_lem k i less)
      (cases_eq i k)

pub row_whole : (keys : List (List ℕ)) (own : ℕ) (statement : List ℕ) → length (row_seal keys own statement) ≡ 80
unfolding row_seal
row_whole keys own statement = length_tags keys own statement 10

-- who shares the key finds the tag
pub row_at : (keys : List (List ℕ)) (own i : ℕ) (statement : List ℕ) → i < 10 → tag_at i (row_seal keys own statement) ≡ tag_of (key_of keys i) own statement
unfolding row_seal
row_at keys own i statement h = tag_at_lem keys own statement 10 i h

pub rows_pass : RowsPass
rows_pass mine theirs a b statement ha hb shared =
    let seal = row_seal mine a statement
    in let tag = tag_of (key_of theirs a) a statement
    in let e : tag_at b seal ≡ tag = row_at mine a b statement hb ∙ ap (λ k. tag_of k a statement) shared
    in let s : same (tag_at b seal) tag ≡ true = ap (λ z. same z tag) e ∙ same_itself tag
    in let long = eq-eqb (length seal) 80 (row_whole mine a statement)
    in λ i. lt-ltb a 10 ha i && (long i && s i)

-- its maker too, which shares its own key with itself
pub row_sound : (keys : List (List ℕ)) (own : ℕ) (statement : List ℕ) → own < 10 → row_knows keys own own statement (row_seal keys own statement) ≡ true
row_sound keys own statement h = rows_pass keys keys own own statement h h refl
