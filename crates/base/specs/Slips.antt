-- Slips and their 72 bytes.
use Rattle.std.specs.Prelude.{◌≡◌, ℕ, ◌^◌, ◌<◌, Bool, true, false, cond, not, ◌&&◌, List, ◌++◌, length, take, drop, replicate, Some, None, Option, ◌==◌}
use Rattle.base.specs.Numbers.{be4, four, all_zero}
use Rattle.base.specs.declared.slips.Slip.{Slip}
use Rattle.std.specs.Str.{bytes_eq}

-- parent mark, own mark, lots, maker
abbrev pub slip_bytes : Slip → List ℕ
slip_bytes s = s.parent.0 ++ (s.own.0 ++ (be4 s.lots ++ be4 s.maker))

-- a page is a slip, or none, which stands as 72 zero bytes
abbrev pub page_bytes : Option Slip → List ℕ
page_bytes (Some s) = slip_bytes s
page_bytes None = replicate 72 0

-- the slip that 72 bytes say
abbrev pub slip_from : List ℕ → Slip
slip_from b = record { parent = record { 0 = take 32 (drop 0 b) }; own = record { 0 = take 32 (drop 32 b) }; lots = four b 64; maker = four b 68 }

-- a slip is read from 72 bytes that are not all zeros
abbrev pub slip_of : List ℕ → Option Slip
slip_of b = cond (length b == 72 && not (all_zero b)) (Some (slip_from b)) None

-- the values that a slip of the program can have: marks of 32 bytes, numbers of four
pub record SlipFits (s : Slip) : Type 0 where
  pub parent_fits : length s.parent.0 ≡ 32
  pub own_fits : length s.own.0 ≡ 32
  pub lots_fits : s.lots < 2 ^ 32
  pub maker_fits : s.maker < 2 ^ 32

-- two slips are one page exactly when their 72 bytes agree
abbrev pub BytesDecideSlip : Type 0
BytesDecideSlip = (a b : Slip) → SlipFits a → SlipFits b → slip_bytes a ≡ slip_bytes b → a ≡ b

-- two slips are one page
abbrev pub one_page : Slip → Slip → Bool
one_page a b =
    bytes_eq a.parent.0 b.parent.0
    && (bytes_eq a.own.0 b.own.0 && (a.lots == b.lots && a.maker == b.maker))

-- two pages, each a slip or none
abbrev pub same_page : Option Slip → Option Slip → Bool
same_page None None = true
same_page None (Some b) = false
same_page (Some a) None = false
same_page (Some a) (Some b) = one_page a b
