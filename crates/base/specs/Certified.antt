-- Of which kind a certificate is, over seals of which sort, and what its sender states.
use Rattle.std.specs.Prelude.{ℕ}
use Rattle.base.specs.declared.stages.Kind.{Kind}
use Rattle.base.specs.declared.stages.Kind.TheVariants as kinds
use Rattle.base.specs.declared.statements.Word.{Word}
use Rattle.base.specs.declared.statements.Word.TheVariants as words
use Rattle.base.specs.declared.certified.Certified.{Certified}
use Rattle.base.specs.declared.certified.Certified.TheVariants.{Lock, Select, Decide}

abbrev pub kind_of : Certified → Kind
kind_of Lock = kinds.Lock
kind_of Select = kinds.Select
kind_of Decide = kinds.Decide

-- the sort by its byte in the table of contents
abbrev pub sort_of : Certified → ℕ
sort_of Lock = 3
sort_of Select = 2
sort_of Decide = 4

abbrev pub word_of : Certified → Word
word_of Lock = words.Lock
word_of Select = words.Slct
word_of Decide = words.Dcid
