-- What the setup bytes of a control transfer ask for: bmRequestType, bRequest (1 byte each), wValue, wIndex, wLength (2 each).
-- Nothing here sees the stick.
use Rattle.std.specs.Prelude.{ℕ, Bool, true, cond, ◌&&◌, List, length, Some, None, Option, ◌==◌, nat_le}
use Rattle.model.specs.Bytes.{byte, le16, between}
use Rattle.model.specs.declared.request.Put.{Put}
use Rattle.model.specs.declared.request.Put.TheVariants.{StorePassphrase, MatchPassphrase, ChangePassphrase, ErasePassphrase, EraseForgottenPassphrase, LockAgain, ChangeInterfaceAccess}
use Rattle.model.specs.declared.request.Request.{Request}
use Rattle.model.specs.declared.request.Request.TheVariants.{DeviceDescriptor, Bundle, LockData, HighestUnit, ClearJam, PutTo}
use Rattle.model.specs.declared.request.Asked.{Asked}
use Rattle.model.specs.declared.request.UnitAddress.{UnitAddress}
use Rattle.model.specs.Refusals.{refusal_number}
use Rattle.model.specs.declared.refusal.Refusal.TheVariants.{Unlisted, WrongLength}

-- the low byte of wValue tells a Put
abbrev pub put_number : Put → ℕ
put_number StorePassphrase = 0x01
put_number MatchPassphrase = 0x02
put_number ChangePassphrase = 0x03
put_number ErasePassphrase = 0x04
put_number EraseForgottenPassphrase = 0x05
put_number LockAgain = 0x06
put_number ChangeInterfaceAccess = 0x07

abbrev pub put_told : ℕ → Option Put
put_told n =
    cond (n == 0x01) (Some StorePassphrase)
    (cond (n == 0x02) (Some MatchPassphrase)
    (cond (n == 0x03) (Some ChangePassphrase)
    (cond (n == 0x04) (Some ErasePassphrase)
    (cond (n == 0x05) (Some EraseForgottenPassphrase)
    (cond (n == 0x06) (Some LockAgain)
    (cond (n == 0x07) (Some ChangeInterfaceAccess) None))))))

-- bmRequestType and bRequest
abbrev pub is_kind : ℕ → ℕ → List ℕ → Bool
is_kind t r bs = byte bs 0 == t && byte bs 1 == r

-- unit u of interface i
abbrev pub address : ℕ → ℕ → UnitAddress
address i u = record { interface = i; unit = u }

abbrev pub put_to : Option Put → ℕ → ℕ → Option Request
put_to None i u = None
put_to (Some p) i u = Some (PutTo p (address i u))

-- the device descriptor is asked for with wValue 0100h, the bundle with 0200h
abbrev pub descriptor_asked : ℕ → Option Request
descriptor_asked value = cond (value == 0x0100) (Some DeviceDescriptor) (cond (value == 0x0200) (Some Bundle) None)

-- what 8 setup bytes ask for, by all but their wLength. The interface is the low byte of wIndex, whose high byte is ignored but in 80 06; the
-- unit is the high byte of wValue
abbrev pub listed : List ℕ → Option Request
listed bs =
    cond (is_kind 0x80 0x06 bs && le16 bs 4 == 0) (descriptor_asked (le16 bs 2))
    (cond (is_kind 0xA1 0xFD bs && byte bs 2 == 0) (Some (LockData (address (byte bs 4) (byte bs 3))))
    (cond (is_kind 0xA1 0xFE bs && le16 bs 2 == 0) (Some (HighestUnit (byte bs 4)))
    (cond (is_kind 0x21 0xFF bs && le16 bs 2 == 0) (Some (ClearJam (byte bs 4)))
    (cond (is_kind 0x21 0xFC bs) (put_to (put_told (byte bs 2)) (byte bs 4) (byte bs 3)) None))))

abbrev pub with_length : Option Request → ℕ → Option Asked
with_length None n = None
with_length (Some r) n = Some (record { request = r; length = n })

abbrev pub requested : List ℕ → Option Asked
requested bs = cond (length bs == 8) (with_length (listed bs) (le16 bs 6)) None

-- the lengths that a Put may have
abbrev pub shortest : Put → ℕ
shortest StorePassphrase = 6
shortest MatchPassphrase = 3
shortest ChangePassphrase = 9
shortest ErasePassphrase = 3
shortest EraseForgottenPassphrase = 0
shortest LockAgain = 0
shortest ChangeInterfaceAccess = 12

abbrev pub longest : Put → ℕ
longest StorePassphrase = 156
longest MatchPassphrase = 53
longest ChangePassphrase = 209
longest ErasePassphrase = 53
longest EraseForgottenPassphrase = 0
longest LockAgain = 0
longest ChangeInterfaceAccess = 12

abbrev pub length_allowed : Request → ℕ → Bool
length_allowed DeviceDescriptor n = true
length_allowed Bundle n = true
length_allowed (LockData a) n = true
length_allowed (HighestUnit i) n = n == 1
length_allowed (ClearJam i) n = n == 0
length_allowed (PutTo p a) n = between (shortest p) (longest p) n

-- the judgement of a setup by its bytes alone: 7 unlisted, 9 a length that is not allowed, else 0
abbrev pub judged_request : Option Asked → ℕ
judged_request None = refusal_number Unlisted
judged_request (Some a) = cond (length_allowed a.request a.length) 0 (refusal_number WrongLength)

abbrev pub judged_setup : List ℕ → ℕ
judged_setup bs = judged_request (requested bs)

-- the buffer is to be filled: the setup has 8 bytes, and bit 7 of the first is set. In every other transfer it is arriving data
abbrev pub is_reading : List ℕ → Bool
is_reading bs = length bs == 8 && nat_le 0x80 (byte bs 0)
