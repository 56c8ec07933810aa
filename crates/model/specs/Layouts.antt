-- Layout bytes: idVendor, product base and bcdDevice (2 bytes each), the number of interfaces n, n unit counts (1 byte each), then a
-- start and a length (4 bytes each) for each unit.
use Rattle.std.specs.Prelude.{ℕ, zero, suc, ◌+◌, ◌*◌, ◌%◌, Bool, true, cond, ◌&&◌, List, [], ◌∷◌, length, take, drop, ◌==◌}
use Rattle.model.specs.Bytes.{byte, le16, le32, between}
use Rattle.model.specs.Extents.{sound}
use Rattle.model.specs.declared.layout.Place.{Place}

-- what fitting fixes: the IDs, how many units each interface has, and the places of all units in order, interface 0 first
pub record Layout : Type 0 where
  pub vendor : ℕ
  pub base : ℕ
  pub release : ℕ
  pub counts : List ℕ
  pub places : List Place

abbrev pub layout : ℕ → ℕ → ℕ → List ℕ → List Place → Layout
layout v b r cs ps = record { vendor = v; base = b; release = r; counts = cs; places = ps }

abbrev pub place_start : Place → ℕ
place_start p = p.start

abbrev pub place_count : Place → ℕ
place_count p = p.count

abbrev pub sum : List ℕ → ℕ
sum [] = 0
sum (n ∷ ns) = n + sum ns

abbrev pub place : ℕ → ℕ → Place
place s c = record { start = s; count = c }

-- n pairs of a start and a length
abbrev pub pairs : ℕ → List ℕ → List Place
pairs zero bs = []
pairs (suc n) bs = place (le32 bs 0) (le32 bs 4) ∷ pairs n (drop 8 bs)

-- the layout that the bytes say
abbrev pub said_layout : List ℕ → Layout
said_layout bs =
    let counts = take (byte bs 6) (drop 7 bs) in
    layout (le16 bs 0) (le16 bs 2) (le16 bs 4) counts (pairs (sum counts) (drop (7 + byte bs 6) bs))

abbrev pub all_between : ℕ → ℕ → List ℕ → Bool
all_between low high [] = true
all_between low high (n ∷ ns) = between low high n && all_between low high ns

-- the rules that the bytes keep by themselves: 1 to 4 interfaces, 1 to 4 units each, a base that is a multiple of 16, no byte missing or
-- left over
abbrev pub own_rules : List ℕ → Bool
own_rules bs =
    let said = said_layout bs in
    between 1 4 (byte bs 6)
    && (all_between 1 4 said.counts
    && (said.base % 16 == 0
    && length bs == 7 + byte bs 6 + 8 * sum said.counts))

-- on a medium of so many blocks the places pass the check against its end too
abbrev pub layout_rules : List ℕ → ℕ → Bool
layout_rules bs blocks = own_rules bs && sound place_start place_count 0 blocks (said_layout bs).places

-- a stick fitted against the rules has no interface, and zeros
abbrev pub no_layout : Layout
no_layout = layout 0 0 0 [] []

abbrev pub fitted_layout : List ℕ → ℕ → Layout
fitted_layout bs blocks = cond (layout_rules bs blocks) (said_layout bs) no_layout
