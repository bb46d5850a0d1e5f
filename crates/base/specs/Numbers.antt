-- Numbers as bytes: unsigned, the most significant byte first.
use Rattle.std.specs.Prelude.{ℕ, ◌+◌, ◌*◌, ◌/◌, ◌%◌, ◌<◌, Bool, List, [], ◌∷◌, ◌==◌, slice_index}
use Rattle.std.specs.List.{AllByRecursion, list_all}

-- the two bytes of n
abbrev pub be2 : ℕ → List ℕ
be2 n = (n / 256 % 256) ∷ (n % 256) ∷ []

-- the four bytes of n
abbrev pub be4 : ℕ → List ℕ
be4 n = (n / 16777216 % 256) ∷ (n / 65536 % 256) ∷ (n / 256 % 256) ∷ (n % 256) ∷ []

-- the number that two bytes at a place say
abbrev pub two : List ℕ → ℕ → ℕ
two m i = slice_index m i * 256 + slice_index m (i + 1)

-- the number that four bytes at a place say
abbrev pub four : List ℕ → ℕ → ℕ
four m i = slice_index m i * 16777216 + slice_index m (i + 1) * 65536 + slice_index m (i + 2) * 256 + slice_index m (i + 3)

-- each byte is 0
abbrev pub all_zero : List ℕ → Bool
all_zero bs = list_all (λ b. b == 0) bs

-- every element is a byte
abbrev pub Bytes : List ℕ → Type 0
Bytes m = AllByRecursion (λ b. b < 256) m
