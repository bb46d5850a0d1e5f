-- How long messages are, by the lengths of their parts.
use Rattle.std.proofs.Common.{◌≡◌, ℕ, ◌+◌, ◌*◌, List, map, length, Some, None, Option, sym, arith}
use Rattle.base.specs.Certified.{kind_of, sort_of}
use Rattle.base.specs.Kinds.{kind_number}
use Rattle.base.specs.Seals.{seal_bytes}
use Rattle.base.specs.Slips.{slip_bytes}
use Rattle.base.specs.declared.certified.Certified.{Certified}
use Rattle.base.specs.declared.certified.Certified.TheVariants.{Lock, Select, Decide}
use Rattle.base.specs.declared.stages.Kind.{Kind}
use Rattle.base.specs.declared.seals.Seal.{Seal}
use Rattle.base.specs.declared.seals.Vote.{Vote}
use Rattle.base.specs.declared.slips.Slip.{Slip}
use Rattle.message.specs.Contents.{Cert, Locked, change, commit, release}
use Rattle.message.specs.Encoding.{blocks, cert_blocks, encoded, framed}
use Rattle.message.specs.declared.shapes.Head.{Head}
use Rattle.message.proofs.Sizing.{length_framed}
use Rattle.outbox.specs.Written.{sent, certifying, signed_by, cert_with, seals_length, slip_length}
use Rattle.outbox.proofs.Ballots.{weigh_votes, length_votes}

pub change_long : (h : Head) (page : Option Slip) (a b : List ℕ) → 20 + slip_length page + length a + length b ≡ length (encoded (sent h (change page a b)))
change_long h None a b = let l = length_framed 1 h (blocks h (change None a b)) in omega arith
change_long h (Some s) a b = let l = length_framed 1 h (blocks h (change (Some s) a b)) in omega arith

pub commit_long : (h : Head) (s : Slip) (b : List ℕ) → 20 + length (slip_bytes s) + length b ≡ length (encoded (sent h (commit s b)))
commit_long h s b = let l = length_framed 4 h (blocks h (commit s b)) in omega arith

pub release_long : (h : Head) (l : List ℕ) (inner : Locked (List ℕ)) (b : List ℕ) → 20 + length l + length b ≡ length (encoded (sent h (release l inner b)))
release_long h l inner b = let w = length_framed 6 h (blocks h (release l inner b)) in omega arith

pub cert_bytes_long : (kind sort : ℕ) (h : Head) (s : Slip) (own : List ℕ) (vs : List Vote) → 20 + 4 * length vs + length (slip_bytes s) + length own + seals_length vs ≡ length (framed kind h (cert_blocks sort h (record { slip = s; own = own; votes = map signed_by vs })))
cert_bytes_long kind sort h s own vs =
    let l = length_framed kind h (cert_blocks sort h (record { slip = s; own = own; votes = map signed_by vs }))
    in let v = weigh_votes sort vs
    in let k = length_votes sort vs
    in omega arith

pub cert_long : (kind sort : ℕ) (h : Head) (s : Slip) (own : Seal) (vs : List Vote) → 20 + 4 * length vs + length (slip_bytes s) + length (seal_bytes own) + seals_length vs ≡ length (framed kind h (cert_blocks sort h (cert_with s own vs)))
cert_long kind sort h s own vs = cert_bytes_long kind sort h s (seal_bytes own) vs

-- a lock, select or decide as it is laid out, by its kind and by the sort of its votes
pub certified_told : (what : Certified) (h : Head) (c : Cert (List ℕ)) (kind : Kind) (sort : ℕ) → kind ≡ kind_of what → sort ≡ sort_of what → encoded (sent h (certifying what c)) ≡ framed (kind_number kind) h (cert_blocks sort h c)
certified_told Lock h c kind sort is of = λ i. framed (kind_number (sym is i)) h (cert_blocks (sym of i) h c)
certified_told Select h c kind sort is of = λ i. framed (kind_number (sym is i)) h (cert_blocks (sym of i) h c)
certified_told Decide h c kind sort is of = λ i. framed (kind_number (sym is i)) h (cert_blocks (sym of i) h c)

pub certified_long : (what : Certified) (h : Head) (s : Slip) (own : Seal) (vs : List Vote) → 20 + 4 * length vs + length (slip_bytes s) + length (seal_bytes own) + seals_length vs ≡ length (encoded (sent h (certifying what (cert_with s own vs))))
certified_long Lock h s own vs = cert_long 2 3 h s own vs
certified_long Select h s own vs = cert_long 3 2 h s own vs
certified_long Decide h s own vs = cert_long 5 4 h s own vs
