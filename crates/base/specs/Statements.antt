-- The bytes that members seal.
use Rattle.std.specs.Prelude.{◌≡◌, ℕ, ◌^◌, ◌<◌, false, List, [], ◌++◌, Some, None, codes, Option}
use Rattle.base.specs.Bounded.{items}
use Rattle.base.specs.Numbers.{be4, all_zero}
use Rattle.base.specs.Slips.{SlipFits, slip_bytes, page_bytes}
use Rattle.base.specs.declared.slips.Slip.{Slip}
use Rattle.base.specs.declared.statements.Word.{Word}
use Rattle.base.specs.declared.statements.Word.TheVariants.{Rchg, Cand, Cmit, Lock, Slct, Dcid, Rlse}
use Rattle.base.specs.declared.statements.Statement.{Statement}
use Rattle.base.specs.declared.statements.StatementBytes.{StatementBytes}

-- the four letters that a statement begins with
abbrev pub word_bytes : Word → List ℕ
word_bytes Rchg = codes "RCHG"
word_bytes Cand = codes "CAND"
word_bytes Cmit = codes "CMIT"
word_bytes Lock = codes "LOCK"
word_bytes Slct = codes "SLCT"
word_bytes Dcid = codes "DCID"
word_bytes Rlse = codes "RLSE"

-- the page that a statement names, a slip or none; a round change names no page at all
abbrev pub named : Word → Option Slip → Option (Option Slip)
named Rchg page = None
named Cand page = Some page
named Cmit page = Some page
named Lock page = Some page
named Slct page = Some page
named Dcid page = Some page
named Rlse page = Some page

abbrev pub named_bytes : Option (Option Slip) → List ℕ
named_bytes None = []
named_bytes (Some page) = page_bytes page

-- word, height, round and, except after RCHG, the page
abbrev pub statement_bytes : Statement → List ℕ
statement_bytes s = word_bytes s.word ++ (be4 s.height.0 ++ (be4 s.round.0 ++ named_bytes (named s.word s.page)))

-- what a buffer for a statement holds
abbrev pub sealed : StatementBytes → List ℕ
sealed b = items b.bytes

-- a page of the program that is not the slip of 72 zeros, which is how none is written
abbrev pub PageFits : Option Slip → Type 0
PageFits None = Unit {0}
PageFits (Some s) = SlipFits s × (all_zero (slip_bytes s) ≡ false)

-- the values that a statement of the program has
pub record StatementFits (s : Statement) : Type 0 where
  pub height_fits : s.height.0 < 2 ^ 32
  pub round_fits : s.round.0 < 2 ^ 32
  pub page_fits : PageFits s.page

-- two statements that say the same
pub record Same (a b : Statement) : Type 0 where
  pub word_same : a.word ≡ b.word
  pub height_same : a.height ≡ b.height
  pub round_same : a.round ≡ b.round
  pub page_same : named a.word a.page ≡ named b.word b.page

-- the bytes of two statements agree only if word, height, round and page agree
abbrev pub BytesDecideStatement : Type 0
BytesDecideStatement = (a b : Statement) → StatementFits a → StatementFits b → statement_bytes a ≡ statement_bytes b → Same a b
