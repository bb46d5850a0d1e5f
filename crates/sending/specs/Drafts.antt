-- The drafts of a release and of a lock, select or decide, by the head of the message.
use Rattle.std.specs.Prelude.{ℕ, List, [], ◌∷◌, Some}
use Rattle.base.specs.declared.slips.Slip.{Slip}
use Rattle.base.specs.declared.stages.Kind.{Kind}
use Rattle.base.specs.declared.stages.Kind.TheVariants.{Release}
use Rattle.base.specs.declared.statements.Word.{Word}
use Rattle.base.specs.declared.statements.Word.TheVariants.{Rlse}
use Rattle.message.specs.Contents.{Signed}
use Rattle.message.specs.Encoding.{block, cert_blocks}
use Rattle.message.specs.declared.shapes.Head.{Head}
use Rattle.protocol.specs.Plans.{Draft}
use Rattle.protocol.specs.Rounds.{says, seal_at}

-- a release of a lock message on a slip
abbrev pub release_for : Head → Slip → List ℕ → Draft
release_for h s bytes =
    record {
      kind = Release;
      head = h;
      wants = says Rlse h.height.0 h.round.0 (Some s) ∷ [];
      made = λ seals. block 6 0 bytes ∷ (block 5 h.sender.0 (seal_at seals 0) ∷ []);
    }

-- a lock, select or decide over some votes
abbrev pub cert_for : Head → Kind → ℕ → Word → Slip → List (Signed (List ℕ)) → Draft
cert_for h kind sort word s votes =
    record {
      kind = kind;
      head = h;
      wants = says word h.height.0 h.round.0 (Some s) ∷ [];
      made = λ seals. cert_blocks sort h (record { slip = s; own = seal_at seals 0; votes = votes });
    }
