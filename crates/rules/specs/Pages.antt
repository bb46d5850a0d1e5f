-- The two rulebooks that are delivered: which pages they admit, and which they rank above which.
use Rattle.std.specs.Prelude.{◌≡◌, ℕ, ◌-◌, Bool, true, false, ◌&&◌, List, [], ◌∷◌, ◌++◌, replicate, ◌==◌, nat_le, nat_lt, slice_index_or}
use Rattle.base.specs.declared.slips.Slip.{Slip}
use Rattle.rules.specs.Order.{higher}
use Rattle.rules.specs.declared.ranking.Rank.{Rank}

-- what is compared, one after the other: a number, the own mark byte by byte, a number, the parent mark
abbrev pub rank_key : Rank → List ℕ
rank_key r = r.first ∷ (r.own.0 ++ (r.second ∷ r.parent.0))

-- receipts: 1 to 200 lots of a maker below 10
abbrev pub receipts_admits : Slip → Bool
receipts_admits s = nat_le 1 s.lots && (nat_le s.lots 200 && nat_lt s.maker 10)

-- by more lots, then the larger own mark, the larger maker, the larger parent mark
abbrev pub receipts_key : Slip → List ℕ
receipts_key s = s.lots ∷ (s.own.0 ++ (s.maker ∷ s.parent.0))

abbrev pub receipts_above : Slip → Slip → Bool
receipts_above a b = higher (receipts_key a) (receipts_key b)

-- roster: one lot of a maker below 10 that may propose
abbrev pub roster_admits : List Bool → Slip → Bool
roster_admits makers s = s.lots == 1 && (nat_lt s.maker 10 && slice_index_or makers s.maker false)

-- by the smaller maker, then the larger own mark, more lots, the larger parent mark
abbrev pub roster_key : Slip → List ℕ
roster_key s = (4294967295 - s.maker) ∷ (s.own.0 ++ (s.lots ∷ s.parent.0))

abbrev pub roster_above : Slip → Slip → Bool
roster_above a b = higher (roster_key a) (roster_key b)

-- examples: so many lots of a maker, under marks that are all one byte
abbrev pub page : ℕ → ℕ → ℕ → ℕ → Slip
page parent own lots maker = record { parent = record { 0 = replicate 32 parent }; own = record { 0 = replicate 32 own }; lots = lots; maker = maker }

pub record ReceiptsExamples : Type 0 where
  pub least : receipts_admits (page 0 1 1 0) ≡ true
  pub most : receipts_admits (page 0 1 200 9) ≡ true
  pub none : receipts_admits (page 0 1 0 9) ≡ false
  pub more : receipts_admits (page 0 1 201 9) ≡ false
  pub stranger : receipts_admits (page 0 1 200 10) ≡ false
  pub by_lots : receipts_above (page 0 1 8 1) (page 9 9 7 9) ≡ true
  pub by_own : receipts_above (page 0 2 7 1) (page 9 1 7 9) ≡ true
  pub by_maker : receipts_above (page 0 1 7 3) (page 9 1 7 2) ≡ true
  pub by_parent : receipts_above (page 5 1 7 3) (page 4 1 7 3) ≡ true
  pub itself : receipts_above (page 5 1 7 3) (page 5 1 7 3) ≡ false

-- a roster on which makers 2 and 9 stand
abbrev pub two_and_nine : List Bool
two_and_nine = false ∷ false ∷ true ∷ false ∷ false ∷ false ∷ false ∷ false ∷ false ∷ true ∷ []

pub record RosterExamples : Type 0 where
  pub on : roster_admits two_and_nine (page 0 1 1 9) ≡ true
  pub off : roster_admits two_and_nine (page 0 1 1 8) ≡ false
  pub stranger : roster_admits two_and_nine (page 0 1 1 10) ≡ false
  pub none : roster_admits two_and_nine (page 0 1 0 9) ≡ false
  pub more : roster_admits two_and_nine (page 0 1 2 9) ≡ false
  pub by_maker : roster_above (page 0 1 1 2) (page 9 9 9 9) ≡ true
  pub by_own : roster_above (page 0 2 1 2) (page 9 1 9 2) ≡ true
  pub by_lots : roster_above (page 0 1 2 2) (page 9 1 1 2) ≡ true
  pub by_parent : roster_above (page 5 1 1 2) (page 4 1 1 2) ≡ true
  pub itself : roster_above (page 5 1 1 2) (page 5 1 1 2) ≡ false
