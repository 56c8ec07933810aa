-- Recovery: a unit whose passphrase is forgotten comes back wiped, 16 blocks at a work step.
use Rattle.std.specs.Prelude.{ℕ, zero, suc, ◌+◌, ◌-◌, ◌*◌, min, Bool, true, false, cond, List, [], ◌∷◌, length, replicate, nat_le, nat_lt}
use Rattle.model.specs.Blocks.{Block, bad, good}
use Rattle.model.specs.Bulk.{place_at}
use Rattle.model.specs.Control.{alter, unit_at}
use Rattle.model.specs.Layouts.{Layout}
use Rattle.model.specs.Sticks.{Stick, stick}
use Rattle.model.specs.Units.{Standing, impersonal, locked, unlocked, recovering, UnitRecord, unit_record}

-- 512 zeros; shut, so that nothing computes with them
unfoldable pub zeros : List ℕ
zeros = replicate 512 0

-- a good block becomes zeros, a bad one is passed over
abbrev pub zeroed_block : Block → Block
zeroed_block bad = bad
zeroed_block (good bs) = good zeros

-- the good ones of `count` blocks from `start` on set to zeros
abbrev pub zeroed : ℕ → ℕ → List Block → List Block
zeroed start count [] = []
zeroed zero zero (b ∷ m) = b ∷ m
zeroed zero (suc n) (b ∷ m) = zeroed_block b ∷ zeroed zero n m
zeroed (suc s) n (b ∷ m) = b ∷ zeroed s n m

abbrev pub is_recovering : Standing → Bool
is_recovering impersonal = false
is_recovering (locked p) = false
is_recovering (unlocked p) = false
is_recovering (recovering p d) = true

abbrev pub steps_done_of : Standing → ℕ
steps_done_of impersonal = 0
steps_done_of (locked p) = 0
steps_done_of (unlocked p) = 0
steps_done_of (recovering p d) = d

-- the first recovering unit in layout order, or the number of units where none is
abbrev pub first_recovering : List UnitRecord → ℕ
first_recovering [] = 0
first_recovering (u ∷ us) = cond (is_recovering u.standing) 0 (suc (first_recovering us))

-- a work step counts one more; the last one erases passphrase, hint and misses, makes the unit Impersonal and sets its accepted flag
abbrev pub advanced : Bool → Standing → UnitRecord → UnitRecord
advanced last impersonal u = u
advanced last (locked p) u = u
advanced last (unlocked p) u = u
advanced last (recovering p d) u =
    cond last (unit_record impersonal [] 0 true u.sense) (unit_record (recovering p (d + 1)) u.hint u.misses u.accepted u.sense)

-- the work step after d steps on unit v: the next 16 blocks of its place, or as many as are left
abbrev pub work_on : Layout → ℕ → ℕ → Stick → Stick
work_on lay v d s =
    let p = place_at lay v in
    stick (alter v (λ u. advanced (nat_le p.count (16 * (d + 1))) u.standing u) s.units) s.interfaces s.phase
    (zeroed (p.start + 16 * d) (min 16 (p.count - 16 * d)) s.blocks)

-- a work step is for the first recovering unit; with none recovering it does nothing
abbrev pub worked : Layout → Stick → Stick
worked lay s =
    let v = first_recovering s.units in
    cond (nat_lt v (length s.units)) (work_on lay v (steps_done_of (unit_at v s).standing) s) s
