-- Tags, and the two kinds of seals that are made of them.
use Rattle.std.specs.Prelude.{◌≡◌, ℕ, zero, suc, ◌*◌, ◌/◌, ◌%◌, ◌<◌, Bool, true, false, ◌&&◌, List, [], ◌∷◌, ◌++◌, length, take, drop, Ok, Err, Result, ◌==◌, nat_eq, nat_le, nat_lt, slice_index_or}
use Rattle.base.specs.declared.refusals.Refusal.{Refusal}
use Rattle.base.specs.declared.refusals.Refusal.TheVariants.{Unlawful}
use Rattle.std.specs.Cmp.Lexicographic.{pointwise}
use Rattle.seal.specs.Sip.{sip}

-- the eight bytes of a word, the least significant first
unfoldable pub eight_bytes : ℕ → List ℕ
eight_bytes n = (n % 256) ∷ (n / 256 % 256) ∷ (n / 65536 % 256) ∷ (n / 16777216 % 256) ∷ (n / 4294967296 % 256) ∷ (n / 1099511627776 % 256) ∷ (n / 281474976710656 % 256) ∷ (n / 72057594037927936 % 256) ∷ []

-- a member's tag on a statement under a key: the hash of one byte with the member's number and then the statement
abbrev pub tag_of : List ℕ → ℕ → List ℕ → List ℕ
tag_of key member statement = eight_bytes (sip key (member ∷ statement))

-- two strings of bytes are the same
abbrev pub same : List ℕ → List ℕ → Bool
same = pointwise nat_eq

-- ten keys, of which each has its number
abbrev pub key_of : List (List ℕ) → ℕ → List ℕ
key_of keys i = slice_index_or keys i []

-- single: key i is member i's, and every member has all ten. A seal is one tag, under the sealing member's key
abbrev pub single_seal : List (List ℕ) → ℕ → List ℕ → List ℕ
single_seal keys member statement = tag_of (key_of keys member) member statement

abbrev pub single_knows : List (List ℕ) → ℕ → List ℕ → List ℕ → Bool
single_knows keys member statement seal = nat_lt member 10 && same seal (single_seal keys member statement)

-- row: key i is the one that the holder shares with member i. A seal is ten tags, the one at place i under
-- the key shared with member i
abbrev pub tags_below : ℕ → List (List ℕ) → ℕ → List ℕ → List ℕ
tags_below zero keys own statement = []
tags_below (suc i) keys own statement = tags_below i keys own statement ++ tag_of (key_of keys i) own statement

unfoldable pub row_seal : List (List ℕ) → ℕ → List ℕ → List ℕ
row_seal keys own statement = tags_below 10 keys own statement

-- the tag at a place of a row
abbrev pub tag_at : ℕ → List ℕ → List ℕ
tag_at i seal = take 8 (drop (8 * i) seal)

-- a holder looks at the tag at its own place, under the key that it shares with the sealing member
abbrev pub row_knows : List (List ℕ) → ℕ → ℕ → List ℕ → List ℕ → Bool
row_knows keys own member statement seal = nat_lt member 10 && (length seal == 80 && same (tag_at own seal) (tag_of (key_of keys member) member statement))

-- there are ten members, and a sealer makes at most 4,000,000,000 seals
abbrev pub lawful : ℕ → ℕ → Bool
lawful own left = nat_lt own 10 && nat_le left 4000000000

-- what is made is so, or it is refused as unlawful
abbrev pub Lawful : {X : Type 0} → ℕ → ℕ → (X → Type 0) → Result X Refusal → Type 0
Lawful own left So (Ok s) = (lawful own left ≡ true) × So s
Lawful own left So (Err why) = (lawful own left ≡ false) × (why ≡ Unlawful)

-- what a member sealed is recognised, in its name, by each member: single, by all that have the keys; row, by
-- each that holds under the sealing member's number the key that this one holds under its own
abbrev pub SinglesPass : Type 0
SinglesPass = (keys : List (List ℕ)) (a : ℕ) (statement : List ℕ) → a < 10 → single_knows keys a statement (single_seal keys a statement) ≡ true

abbrev pub RowsPass : Type 0
RowsPass = (mine theirs : List (List ℕ)) (a b : ℕ) (statement : List ℕ) → a < 10 → b < 10 → key_of mine b ≡ key_of theirs a → row_knows theirs b a statement (row_seal mine a statement) ≡ true
