-- The parts of a Put's data. A part is bLength, 25h, its bytes, and a last byte: 00h of a passphrase or a candidate, any of a hint.
use Rattle.std.specs.Prelude.{ℕ, zero, suc, ◌+◌, ◌-◌, Bool, cond, ◌&&◌, List, [], ◌∷◌, length, take, drop, Some, None, Option, ◌==◌, slice_index_or}
use Rattle.model.specs.Bytes.{byte, le32, between}
use Rattle.model.specs.Extents.{sound}
use Rattle.model.specs.declared.ids.Ids.{Ids}
use Rattle.model.specs.declared.ids.Ids.TheVariants.{Negotiable, ScsiBbb}
use Rattle.model.specs.declared.part.Part.{Part}

abbrev pub part : ℕ → ℕ → Part
part s n = record { start = s; length = n }

abbrev pub part_start : Part → ℕ
part_start p = p.start

abbrev pub part_length : Part → ℕ
part_length p = p.length

-- n parts one behind the other from a byte on, each as long as its first byte says
abbrev pub cut_parts : ℕ → ℕ → List ℕ → List Part
cut_parts zero at ds = []
cut_parts (suc n) at ds = part at (byte ds at) ∷ cut_parts n (at + byte ds at) ds

-- where the last of them ends
abbrev pub parts_end : ℕ → List Part → ℕ
parts_end at [] = at
parts_end at (p ∷ ps) = parts_end (p.start + p.length) ps

-- they pass the check, and their lengths add up to the data's
abbrev pub parts_fill : ℕ → List ℕ → Bool
parts_fill n ds = sound part_start part_length 0 (length ds) (cut_parts n 0 ds) && parts_end 0 (cut_parts n 0 ds) == length ds

abbrev pub part_bytes : List ℕ → Part → List ℕ
part_bytes ds p = take p.length (drop p.start ds)

-- the bytes of part k of n
abbrev pub nth_part : ℕ → ℕ → List ℕ → List ℕ
nth_part n k ds = part_bytes ds (slice_index_or (cut_parts n 0 ds) k (part 0 0))

-- a passphrase or candidate part, whose length is 3 to 53, and a hint part, whose length is 3 to 103
abbrev pub phrase_in : List ℕ → Option (List ℕ)
phrase_in bs = cond (between 3 53 (length bs) && (byte bs 1 == 0x25 && byte bs (length bs - 1) == 0)) (Some (take (length bs - 3) (drop 2 bs))) None

abbrev pub hint_in : List ℕ → Option (List ℕ)
hint_in bs = cond (between 3 103 (length bs) && byte bs 1 == 0x25) (Some (take (length bs - 3) (drop 2 bs))) None

-- a new passphrase with its hint
pub record Secret : Type 0 where
  pub phrase : List ℕ
  pub hint : List ℕ

abbrev pub secret : List ℕ → List ℕ → Secret
secret p h = record { phrase = p; hint = h }

abbrev pub secret_of : Option (List ℕ) → Option (List ℕ) → Option Secret
secret_of None h = None
secret_of (Some p) None = None
secret_of (Some p) (Some h) = Some (secret p h)

abbrev pub change_of : Option (List ℕ) → Option Secret → Option (List ℕ × Secret)
change_of None q = None
change_of (Some c) None = None
change_of (Some c) (Some q) = Some (c, q)

-- what the data of a Put carry, or none where they are malformed: a candidate; a passphrase and a hint; a candidate, a passphrase and a hint
abbrev pub candidate_in : List ℕ → Option (List ℕ)
candidate_in ds = cond (parts_fill 1 ds) (phrase_in (nth_part 1 0 ds)) None

abbrev pub secret_in : List ℕ → Option Secret
secret_in ds = cond (parts_fill 2 ds) (secret_of (phrase_in (nth_part 2 0 ds)) (hint_in (nth_part 2 1 ds))) None

abbrev pub change_in : List ℕ → Option (List ℕ × Secret)
change_in ds = cond (parts_fill 3 ds) (change_of (phrase_in (nth_part 3 0 ds)) (secret_of (phrase_in (nth_part 3 1 ds)) (hint_in (nth_part 3 2 ds)))) None

-- Access data: 0Ch 25h, subclass 07h or 06h, 50h, then the times to idle and to be gone in ms (4 bytes each)
pub record Access : Type 0 where
  pub target : Ids
  pub idle : ℕ
  pub gone : ℕ

abbrev pub access : Ids → List ℕ → Access
access t ds = record { target = t; idle = le32 ds 4; gone = le32 ds 8 }

abbrev pub target_in : ℕ → Option Ids
target_in n = cond (n == 0x07) (Some Negotiable) (cond (n == 0x06) (Some ScsiBbb) None)

abbrev pub access_to : Option Ids → List ℕ → Option Access
access_to None ds = None
access_to (Some t) ds = Some (access t ds)

abbrev pub access_in : List ℕ → Option Access
access_in ds = cond (length ds == 12 && (byte ds 0 == 0x0C && (byte ds 1 == 0x25 && byte ds 3 == 0x50))) (access_to (target_in (byte ds 2)) ds) None
