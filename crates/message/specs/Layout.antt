-- A message as bytes: 12 of header, four for each body in the table of contents, then the bodies.
-- header: kind, sender, number of bodies, zero, height (4), round (4)
-- entry of the table: sort, member, length (2)
use Rattle.std.specs.Prelude.{ℕ, zero, suc, ◌+◌, ◌-◌, ◌*◌, Bool, cond, ◌&&◌, List, [], ◌∷◌, length, take, drop, Some, None, Option, ◌==◌, nat_le, nat_lt, slice_index}
use Rattle.base.specs.Numbers.{two}

-- a part of a message, with the place where it begins
pub record Piece : Type 0 where
  pub from : ℕ
  pub bytes : List ℕ

-- a body, with what its entry in the table of contents says of it
pub record Entry : Type 0 where
  pub sort : ℕ
  pub signer : ℕ
  pub piece : Piece

-- a message that is being read: the next entry of the table, and where the next body begins
pub record Place : Type 0 where
  pub text : List ℕ
  pub next : ℕ
  pub from : ℕ

-- how many bodies there are
abbrev pub count : List ℕ → ℕ
count m = slice_index m 2

-- what the table says of body i
abbrev pub sort_at : List ℕ → ℕ → ℕ
sort_at m i = slice_index m (12 + 4 * i)

abbrev pub signer_at : List ℕ → ℕ → ℕ
signer_at m i = slice_index m (13 + 4 * i)

abbrev pub length_at : List ℕ → ℕ → ℕ
length_at m i = two m (14 + 4 * i)

-- body i, which begins at a place
abbrev pub entry_at : List ℕ → ℕ → ℕ → Entry
entry_at m i at = record { sort = sort_at m i; signer = signer_at m i; piece = record { from = at; bytes = take (length_at m i) (drop at m) } }

-- reading begins: header and table are there, and the fourth byte is zero
abbrev pub opens : List ℕ → Bool
opens m = nat_le 12 (length m) && (slice_index m 3 == 0 && nat_le (12 + 4 * count m) (length m))

abbrev pub opening : List ℕ → Place
opening m = record { text = m; next = 0; from = 12 + 4 * count m }

-- the next body is there, whole
abbrev pub ready : Place → Bool
ready p = nat_lt p.next (count p.text) && (nat_le (16 + 4 * p.next) (length p.text) && nat_le (p.from + length_at p.text p.next) (length p.text))

abbrev pub next_of : Place → Option Entry
next_of p = cond (ready p) (Some (entry_at p.text p.next p.from)) None

abbrev pub after_next : Place → Place
after_next p = cond (ready p) (record { text = p.text; next = p.next + 1; from = p.from + length_at p.text p.next }) p

-- k bodies from body i on, one right after the other
abbrev pub entries_from : List ℕ → ℕ → ℕ → ℕ → List Entry
entries_from m zero i at = []
entries_from m (suc k) i at = entry_at m i at ∷ entries_from m k (i + 1) (at + length_at m i)

-- where they end
abbrev pub end_from : List ℕ → ℕ → ℕ → ℕ → ℕ
end_from m zero i at = at
end_from m (suc k) i at = end_from m k (i + 1) (at + length_at m i)

-- the bodies still to come, and where the last of them ends
abbrev pub left : Place → List Entry
left p = entries_from p.text (count p.text - p.next) p.next p.from

abbrev pub ending : Place → ℕ
ending p = end_from p.text (count p.text - p.next) p.next p.from

-- header and table are there, no byte is left over, and none is missing
abbrev pub whole : Place → Bool
whole p = opens p.text && ending p == length p.text
