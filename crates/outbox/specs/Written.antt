-- What the writers write, by the fields they are given.
use Rattle.std.specs.Prelude.{ℕ, ◌+◌, Bool, List, map, sum_by, length, Some, None, Option, nat_lt}
use Rattle.base.specs.Seals.{seal_bytes}
use Rattle.base.specs.Slips.{slip_bytes}
use Rattle.base.specs.declared.certified.Certified.{Certified}
use Rattle.base.specs.declared.certified.Certified.TheVariants.{Lock, Select, Decide}
use Rattle.base.specs.declared.seals.Seal.{Seal}
use Rattle.base.specs.declared.seals.Vote.{Vote}
use Rattle.base.specs.declared.slips.Slip.{Slip}
use Rattle.message.specs.Contents.{Signed, Cert, Content, Sent, lock, select, decide}
use Rattle.message.specs.Encoding.{Block, vote_block}
use Rattle.message.specs.declared.shapes.Head.{Head}

abbrev pub signed_by : Vote → Signed (List ℕ)
signed_by v = record { signer = v.member.0; seal = seal_bytes v.seal }

abbrev pub cert_with : Slip → Seal → List Vote → Cert (List ℕ)
cert_with slip own votes = record { slip = slip; own = seal_bytes own; votes = map signed_by votes }

-- what a message of that certificate holds
abbrev pub certifying : Certified → Cert (List ℕ) → Content (List ℕ)
certifying Lock c = lock c
certifying Select c = select c
certifying Decide c = decide c

abbrev pub sent : Head → Content (List ℕ) → Sent (List ℕ)
sent h c = record { head = h; content = c }

-- the table of contents counts its bodies in one byte: slip, own seal and at most 253 votes
abbrev pub countable : List Vote → Bool
countable votes = nat_lt (length votes) 254

-- a length stands in two bytes
abbrev pub measurable : List ℕ → Bool
measurable bytes = nat_lt (length bytes) 65536

-- how many bytes the seals have together
abbrev pub seals_length : List Vote → ℕ
seals_length votes = sum_by (λ v. length (seal_bytes v.seal)) votes

-- the entries of the votes in the table of contents, and their bodies
abbrev pub vote_blocks : ℕ → List Vote → List Block
vote_blocks sort votes = map (vote_block sort) (map signed_by votes)

-- how many bytes the slip of a change takes, with its entry in the table of contents
abbrev pub slip_length : Option Slip → ℕ
slip_length None = 0
slip_length (Some s) = 4 + length (slip_bytes s)
