-- Laws of changes at a place, and of blocks zeroed, read and written.
use Rattle.std.proofs.Common.{◌≡◌, ℕ, zero, suc, ◌+◌, ◌<◌, ◌≤◌, true, false, cond, ◌&&◌, eqb, ltb, ◌⊎◌, List, [], ◌∷◌, ◌++◌, map, length, get_or, take, drop, set, replicate, sym, refl, ap, ◌∙◌, ap₂, inl, inr, suc-add, zero-add, arith}
use Rattle.model.specs.Blocks.{Block, bad, good, bytes_or, replaced, reaches, written}
use Rattle.model.specs.Commands.{one_more, good_run, bytes_from, stored}
use Rattle.model.specs.Control.{alter}
use Rattle.model.specs.Recovery.{zeroed_block, zeroed}
use Rattle.model.proofs.Zeroed.{zeroed_none}

module _ {A : Type 0} where
  pub alter_other : (xs : List A) (v u : ℕ) (f : A → A) (d : A) → (v ≡ u → ⊥) → get_or (alter v f xs) u d ≡ get_or xs u d
  alter_other [] v u f d ne = refl
  alter_other (x ∷ xs) zero zero f d ne = absurd (ne refl)
  alter_other (x ∷ xs) zero (suc u) f d ne = refl
  alter_other (x ∷ xs) (suc v) zero f d ne = refl
  alter_other (x ∷ xs) (suc v) (suc u) f d ne = alter_other xs v u f d (λ e. ne (ap suc e))

  pub alter_same : (xs : List A) (v : ℕ) (f : A → A) (d : A) → (get_or (alter v f xs) v d ≡ f (get_or xs v d)) ⊎ (get_or (alter v f xs) v d ≡ d)
  alter_same [] v f d = inr refl
  alter_same (x ∷ xs) zero f d = inl refl
  alter_same (x ∷ xs) (suc v) f d = alter_same xs v f d

  pub alter_at : (xs : List A) (v : ℕ) (f : A → A) (d : A) → (get_or (alter v f xs) v d ≡ f (get_or xs v d)) ⊎ (get_or xs v d ≡ d)
  alter_at [] v f d = inr refl
  alter_at (x ∷ xs) zero f d = inl refl
  alter_at (x ∷ xs) (suc v) f d = alter_at xs v f d

  pub alter_alter : (xs : List A) (v : ℕ) (f g : A → A) → alter v g (alter v f xs) ≡ alter v (λ x. g (f x)) xs
  alter_alter [] v f g = refl
  alter_alter (x ∷ xs) zero f g = refl
  alter_alter (x ∷ xs) (suc v) f g = ap (λ ys. x ∷ ys) (alter_alter xs v f g)

  pub alter_comm : (xs : List A) (v u : ℕ) (f g : A → A) → (v ≡ u → ⊥) → alter u g (alter v f xs) ≡ alter v f (alter u g xs)
  alter_comm [] v u f g ne = refl
  alter_comm (x ∷ xs) zero zero f g ne = absurd (ne refl)
  alter_comm (x ∷ xs) zero (suc u) f g ne = refl
  alter_comm (x ∷ xs) (suc v) zero f g ne = refl
  alter_comm (x ∷ xs) (suc v) (suc u) f g ne = ap (λ ys. x ∷ ys) (alter_comm xs v u f g (λ e. ne (ap suc e)))

  -- two functions that agree on the element do the same
  pub alter_like : (xs : List A) (v : ℕ) (f g : A → A) (d : A) → f (get_or xs v d) ≡ g (get_or xs v d) → alter v f xs ≡ alter v g xs
  alter_like [] v f g d e = refl
  alter_like (x ∷ xs) zero f g d e = ap (λ y. y ∷ xs) e
  alter_like (x ∷ xs) (suc v) f g d e = ap (λ ys. x ∷ ys) (alter_like xs v f g d e)

  pub alter_map : (xs : List A) (v : ℕ) (f g : A → A) → ((x : A) → g (f (g x)) ≡ g (f x)) → alter v g (map f (alter v g xs)) ≡ alter v g (map f xs)
  alter_map [] v f g e = refl
  alter_map (x ∷ xs) zero f g e = ap (λ y. y ∷ map f xs) (e x)
  alter_map (x ∷ xs) (suc v) f g e = ap (λ ys. f x ∷ ys) (alter_map xs v f g e)

  -- what holds between each element and itself, and itself changed, holds between the elements at a place before and after
  pub alter_rel : (R : A → A → Type 0) (xs : List A) (v u : ℕ) (f : A → A) (d : A) → ((x : A) → R x x) → ((x : A) → R x (f x)) → R (get_or xs u d) (get_or (alter v f xs) u d)
  alter_rel R [] v u f d r s = r d
  alter_rel R (x ∷ xs) zero zero f d r s = s x
  alter_rel R (x ∷ xs) zero (suc u) f d r s = r (get_or xs u d)
  alter_rel R (x ∷ xs) (suc v) zero f d r s = r x
  alter_rel R (x ∷ xs) (suc v) (suc u) f d r s = alter_rel R xs v u f d r s

  pub replicate_getD : (n u : ℕ) (d : A) → get_or (replicate n d) u d ≡ d
  replicate_getD zero u d = refl
  replicate_getD (suc n) zero d = refl
  replicate_getD (suc n) (suc u) d = replicate_getD n u d

  pub length_alter : (xs : List A) (v : ℕ) (f : A → A) → length (alter v f xs) ≡ length xs
  length_alter [] v f = refl
  length_alter (x ∷ xs) zero f = refl
  length_alter (x ∷ xs) (suc v) f = ap suc (length_alter xs v f)

zeroed_twice_block : (b : Block) → zeroed_block (zeroed_block b) ≡ zeroed_block b
zeroed_twice_block bad = refl
zeroed_twice_block (good bs) = refl

-- the order in which two ranges are zeroed does not matter, wherever they lie
pub zeroed_comm : (m : List Block) (s n t k : ℕ) → zeroed s n (zeroed t k m) ≡ zeroed t k (zeroed s n m)
zeroed_comm [] s n t k = refl
zeroed_comm (b ∷ m) zero zero zero zero = refl
zeroed_comm (b ∷ m) zero zero zero (suc k) = refl
zeroed_comm (b ∷ m) zero zero (suc t) k = refl
zeroed_comm (b ∷ m) zero (suc n) zero zero = refl
zeroed_comm (b ∷ m) zero (suc n) zero (suc k) = ap (λ x. zeroed_block (zeroed_block b) ∷ x) (zeroed_comm m zero n zero k)
zeroed_comm (b ∷ m) zero (suc n) (suc t) k = ap (λ x. zeroed_block b ∷ x) (zeroed_comm m zero n t k)
zeroed_comm (b ∷ m) (suc s) n zero zero = refl
zeroed_comm (b ∷ m) (suc s) n zero (suc k) = ap (λ x. zeroed_block b ∷ x) (zeroed_comm m s n zero k)
zeroed_comm (b ∷ m) (suc s) n (suc t) k = ap (λ x. b ∷ x) (zeroed_comm m s n t k)

pub zeroed_twice : (m : List Block) (s n : ℕ) → zeroed s n (zeroed s n m) ≡ zeroed s n m
zeroed_twice [] s n = refl
zeroed_twice (b ∷ m) zero zero = refl
zeroed_twice (b ∷ m) zero (suc n) = ap₂ (λ x y. x ∷ y) (zeroed_twice_block b) (zeroed_twice m zero n)
zeroed_twice (b ∷ m) (suc s) n = ap (λ x. b ∷ x) (zeroed_twice m s n)

-- what a range held does not show once it is zeroed, whatever else was zeroed
pub zeroed_absorb : (m : List Block) (s n t k : ℕ) → zeroed s n (zeroed t k m) ≡ zeroed s n (zeroed t k (zeroed s n m))
zeroed_absorb m s n t k = sym (ap (zeroed s n) (zeroed_comm m t k s n) ∙ zeroed_twice (zeroed t k m) s n)

-- one run of blocks after another
pub zeroed_more : (m : List Block) (s n k : ℕ) → zeroed s (n + k) m ≡ zeroed (s + n) k (zeroed s n m)
zeroed_more [] s n k = refl
zeroed_more (b ∷ m) zero zero k = rw (zero-add k)
zeroed_more (b ∷ m) zero (suc n) k = rw (suc-add n k, zero-add (suc n)) (ap (λ x. zeroed_block b ∷ x) (zeroed_more m zero n k ∙ ap (λ t. zeroed t k (zeroed zero n m)) (zero-add n)))
zeroed_more (b ∷ m) (suc s) n k = rw (suc-add s n) (ap (λ x. b ∷ x) (zeroed_more m s n k))

out_down : (s n i : ℕ) → (suc i < suc s) ⊎ (suc s + n ≤ suc i) → (i < s) ⊎ (s + n ≤ i)
out_down s n i (inl h) = inl (omega arith)
out_down s n i (inr h) = inr (omega arith)

-- reading and writing outside the range
pub zeroed_getD : (m : List Block) (s n i : ℕ) (d : Block) → (i < s) ⊎ (s + n ≤ i) → get_or (zeroed s n m) i d ≡ get_or m i d
zeroed_getD [] s n i d out = refl
zeroed_getD (b ∷ m) zero zero i d out = refl
zeroed_getD (b ∷ m) zero (suc n) zero d out = absurd (omega arith)
zeroed_getD (b ∷ m) zero (suc n) (suc i) d out = zeroed_getD m zero n i d (inr (omega arith))
zeroed_getD (b ∷ m) (suc s) n zero d out = refl
zeroed_getD (b ∷ m) (suc s) n (suc i) d out = zeroed_getD m s n i d (out_down s n i out)

pub zeroed_set : (m : List Block) (s n i : ℕ) (x : Block) → (i < s) ⊎ (s + n ≤ i) → zeroed s n (set m i x) ≡ set (zeroed s n m) i x
zeroed_set [] s n i x out = refl
zeroed_set (b ∷ m) zero zero i x out = zeroed_none 0 (set (b ∷ m) i x)
zeroed_set (b ∷ m) zero (suc n) zero x out = absurd (omega arith)
zeroed_set (b ∷ m) zero (suc n) (suc i) x out = ap (λ y. zeroed_block b ∷ y) (zeroed_set m zero n i x (inr (omega arith)))
zeroed_set (b ∷ m) (suc s) n zero x out = refl
zeroed_set (b ∷ m) (suc s) n (suc i) x out = ap (λ y. b ∷ y) (zeroed_set m s n i x (out_down s n i out))

first_out : (n at s k : ℕ) → (at + suc n ≤ s) ⊎ (s + k ≤ at) → (at < s) ⊎ (s + k ≤ at)
first_out n at s k (inl h) = inl (omega arith)
first_out n at s k (inr h) = inr h

rest_out : (n at s k : ℕ) → (at + suc n ≤ s) ⊎ (s + k ≤ at) → (suc at + n ≤ s) ⊎ (s + k ≤ suc at)
rest_out n at s k (inl h) = inl (omega arith)
rest_out n at s k (inr h) = inr (omega arith)

pub length_zeroed : (m : List Block) (s n : ℕ) → length (zeroed s n m) ≡ length m
length_zeroed [] s n = refl
length_zeroed (b ∷ m) zero zero = refl
length_zeroed (b ∷ m) zero (suc n) = ap suc (length_zeroed m zero n)
length_zeroed (b ∷ m) (suc s) n = ap suc (length_zeroed m s n)

-- no more blocks move than were asked for
one_more_most : (b : Block) (k n : ℕ) → k ≤ n → one_more b k ≤ suc n
one_more_most bad k n h = omega arith
one_more_most (good bs) k n h = omega arith

pub run_most : (n at : ℕ) (m : List Block) → good_run n at m ≤ n
run_most zero at m = omega arith
run_most (suc n) at m = one_more_most (get_or m at bad) (good_run n (suc at) m) n (run_most n (suc at) m)

-- blocks outside a range: how many are good, their bytes, and writes to them
pub run_outside : (n at : ℕ) (m : List Block) (s k : ℕ) → (at + n ≤ s) ⊎ (s + k ≤ at) → good_run n at (zeroed s k m) ≡ good_run n at m
run_outside zero at m s k out = refl
run_outside (suc n) at m s k out =
    ap₂ one_more (zeroed_getD m s k at bad (first_out n at s k out)) (run_outside n (suc at) m s k (rest_out n at s k out))

pub bytes_outside : (n at : ℕ) (m : List Block) (s k : ℕ) → (at + n ≤ s) ⊎ (s + k ≤ at) → bytes_from n at (zeroed s k m) ≡ bytes_from n at m
bytes_outside zero at m s k out = refl
bytes_outside (suc n) at m s k out =
    ap₂ (λ b bs. bytes_or b [] ++ bs) (zeroed_getD m s k at bad (first_out n at s k out)) (bytes_outside n (suc at) m s k (rest_out n at s k out))

pub written_outside : (m : List Block) (at : ℕ) (bs : List ℕ) (s k : ℕ) → (at < s) ⊎ (s + k ≤ at) → written (zeroed s k m) at bs ≡ zeroed s k (written m at bs)
written_outside m at bs s k out =
    ap₂ (λ (n : ℕ) (b : Block). cond (ltb at n && eqb (length bs) 512) (set (zeroed s k m) at (replaced b bs)) (zeroed s k m)) (length_zeroed m s k) (zeroed_getD m s k at bad out)
    ∙ (elim (reaches m at (length bs)) as (λ c. cond c (set (zeroed s k m) at (replaced (get_or m at bad) bs)) (zeroed s k m) ≡ zeroed s k (cond c (set m at (replaced (get_or m at bad) bs)) m)) [
      | true ↦ sym (zeroed_set m s k at (replaced (get_or m at bad) bs) out)
      | false ↦ refl
    ])

pub stored_outside : (n at : ℕ) (ds : List ℕ) (m : List Block) (s k : ℕ) → (at + n ≤ s) ⊎ (s + k ≤ at) → stored n at ds (zeroed s k m) ≡ zeroed s k (stored n at ds m)
stored_outside zero at ds m s k out = refl
stored_outside (suc n) at ds m s k out =
    ap (stored n (suc at) (drop 512 ds)) (written_outside m at (take 512 ds) s k (first_out n at s k out))
    ∙ stored_outside n (suc at) (drop 512 ds) (written m at (take 512 ds)) s k (rest_out n at s k out)
