-- The descriptors that a host reads, to the byte.
use Rattle.std.specs.Prelude.{ℕ, ◌+◌, ◌*◌, ◌^◌, List, [], ◌∷◌, ◌++◌, length}
use Rattle.model.specs.Bytes.{le16_of}
use Rattle.model.specs.Identities.{ids_values}
use Rattle.model.specs.Layouts.{Layout}
use Rattle.model.specs.declared.ids.Ids.{Ids}
use Rattle.model.specs.declared.ids.Ids.TheVariants.{Negotiable, ScsiBbb}
use Rattle.model.specs.declared.ids.Interface.{Interface}

-- a weight, counted for Negotiable IDs only
abbrev pub weighed : Ids → ℕ → ℕ
weighed Negotiable w = w
weighed ScsiBbb w = 0

-- 2 to the power i for each Negotiable interface i, summed up from interface i on
abbrev pub product_bits : ℕ → List Interface → ℕ
product_bits i [] = 0
product_bits i (x ∷ xs) = weighed x.ids (2 ^ i) + product_bits (i + 1) xs

-- bLength, type, bcdUSB 2.00, class, subclass and protocol given by the interfaces, 64 bytes to a control packet
abbrev pub device_head : List ℕ
device_head = 0x12 ∷ 0x01 ∷ 0x00 ∷ 0x02 ∷ 0x00 ∷ 0x00 ∷ 0x00 ∷ 0x40 ∷ []

-- no strings but the serial number's index, one configuration
abbrev pub device_tail : List ℕ
device_tail = 0x00 ∷ 0x00 ∷ 0x01 ∷ 0x01 ∷ []

abbrev pub device_descriptor : Layout → List Interface → List ℕ
device_descriptor lay is = device_head ++ (le16_of lay.vendor ++ (le16_of (lay.base + product_bits 0 is) ++ (le16_of lay.release ++ device_tail)))

-- the configuration descriptor: total length, number of interfaces, configuration 1, bus powered, 100 mA
abbrev pub configuration : ℕ → ℕ → List ℕ
configuration total n = (0x09 ∷ 0x02 ∷ []) ++ (le16_of total ++ (n ∷ 0x01 ∷ 0x00 ∷ 0x80 ∷ 0x32 ∷ []))

-- an interface with two endpoints, the lockable extension, and its bulk endpoints of 64 bytes, in and out
abbrev pub interface_piece : ℕ → Ids → List ℕ
interface_piece i ids =
    (0x09 ∷ 0x04 ∷ i ∷ 0x00 ∷ 0x02 ∷ []) ++ (ids_values ids ++ (0x00
    ∷ 0x03 ∷ 0x25 ∷ 0x00
    ∷ 0x07 ∷ 0x05 ∷ (0x81 + i) ∷ 0x02 ∷ 0x40 ∷ 0x00 ∷ 0x00
    ∷ 0x07 ∷ 0x05 ∷ (0x01 + i) ∷ 0x02 ∷ 0x40 ∷ 0x00 ∷ 0x00 ∷ []))

abbrev pub interface_pieces : ℕ → List Interface → List ℕ
interface_pieces i [] = []
interface_pieces i (x ∷ xs) = interface_piece i x.ids ++ interface_pieces (i + 1) xs

-- the bundle: the configuration with all its interfaces, 26 bytes each
abbrev pub bundle : List Interface → List ℕ
bundle is = configuration (9 + 26 * length is) (length is) ++ interface_pieces 0 is
