-- Lines served so far, and the bytes that are left to be read.
use Rattle.std.proofs.Common.{◌≡◌, ℕ, ◌<◌, List, [], ◌∷◌, length, Some, None, Ok, Err, Option, Result, Bool, true, false, is_some, inl, inr, Bor, IfSome, IfNone, sym, refl, ap, subst, ◌∙◌}
use Rattle.std.specs.Bool.{⊤}
use Rattle.std.specs.List.{AllByRecursion}
use Rattle.std.specs.Str.Lines.{lines}
use Rattle.std.specs.Io.BufRead.{drop_through, first_line, DropsThrough}
use Rattle.std.specs.Io.KnownBytes.{IsAtEnd}
use Rattle.console.specs.Turns.{next_number, Serves, EachServed, Stops, OneRefused}
use Rattle.console.proofs.Firsts.{lines_first}

-- a line that was read is the first of those that were left
abbrev pub Took : Option (List ℕ) → Option (List ℕ) → List ℕ → Type 0
Took left more line = IfSome left (λ ys. (0 < length ys) × (line ≡ first_line ys)) × DropsThrough left more 10

same_bytes : (xs ys : List ℕ) → ◌≡◌ {A = Option (List ℕ)} (Some xs) (Some ys) → xs ≡ ys
same_bytes xs ys e = cc

module _ {S E : Type 0} (post : S → ℕ → Bor (List ℕ) → Result S E → Type 0) (start : S) where
  -- what the lines that are left make of the state now, all lines make of the start
  abbrev pub Leads : Option (List ℕ) → ℕ → S → Option (List ℕ) → Type 0
  Leads None n s left = ⊤
  Leads (Some xs) n s left =
      (ys : List ℕ) × (left ≡ Some ys) × ((t : S) → Serves post n s (lines ys) t → Serves post 0 start (lines xs) t)
      × (Stops post n s (lines ys) → Stops post 0 start (lines xs))

  pub led_more : (known left more : Option (List ℕ)) (n k : ℕ) (s u : S) (line : List ℕ) (shown : Bor (List ℕ)) → Leads known n s left → Took left more line
      → k ≡ next_number n → shown.now ≡ line → post s k shown (Ok u) → Leads known k u more
  led_more None left more n k s u line shown l y e same said = tt
  led_more (Some xs) None more n k s u line shown l y e same said = let f = l.1 in cc
  led_more (Some xs) (Some zs) more n k s u line shown l y e same said =
      let due = sym (lines_first zs y.0.0) ∙ ap lines (same_bytes zs l.0 l.1) in (
        drop_through 10 zs,
        y.1,
        (λ t h. l.2 t
            (subst (λ ls. Serves post n s ls t) due (
              u,
              shown,
              same ∙ y.0.1,
              subst (λ j. post s j shown (Ok u)) e said,
              subst (λ j. Serves post j u (lines (drop_through 10 zs)) t) e h,
            ))),
        (λ h. l.3
            (subst (λ ls. Stops post n s ls) due
            (inr (
              u,
              shown,
              same ∙ y.0.1,
              subst (λ j. post s j shown (Ok u)) e said,
              subst (λ j. Stops post j u (lines (drop_through 10 zs))) e h,
            )))),
      )

  pub led_stop : (known left more : Option (List ℕ)) (n k : ℕ) (s : S) (error : E) (line : List ℕ) (shown : Bor (List ℕ)) → Leads known n s left
      → Took left more line → k ≡ next_number n → shown.now ≡ line → post s k shown (Err error) → IfSome known (λ xs. OneRefused post start (lines xs))
  led_stop None left more n k s error line shown l y e same said = tt
  led_stop (Some xs) None more n k s error line shown l y e same said = let f = l.1 in cc
  led_stop (Some xs) (Some zs) more n k s error line shown l y e same said =
      let due = sym (lines_first zs y.0.0) ∙ ap lines (same_bytes zs l.0 l.1) in
      record {
        turns = l.3
            (subst (λ ls. Stops post n s ls) due (inl (error, shown, same ∙ y.0.1, subst (λ j. post s j shown (Err error)) e said)));
      }

  pub led_end : (known left : Option (List ℕ)) (n : ℕ) (s : S) → Leads known n s left → IsAtEnd left → IfSome known (λ xs. EachServed post start (lines xs) s)
  led_end None left n s l e = tt
  led_end (Some xs) None n s l e = let f = l.1 in cc
  led_end (Some xs) (Some zs) n s l e =
      record { turns = l.2 s (subst (λ v. Serves post n s (lines v) s) (sym e ∙ same_bytes zs l.0 l.1) refl) }

module _ {S E : Type 0} (post : S → ℕ → Bor (List ℕ) → Result S E → Type 0) where
  pub each_holds : (P : List ℕ → Type 0) (n : ℕ) (s t : S) (ls : List (List ℕ))
      → ((v : S) (k : ℕ) (shown : Bor (List ℕ)) (u : S) → post v k shown (Ok u) → P shown.now) → Serves post n s ls t → AllByRecursion P ls
  each_holds P n s t [] f h = tt
  each_holds P n s t (line ∷ more) f h =
      (subst P h.2 (f s (next_number n) h.1 h.0 h.3), each_holds P (next_number n) h.0 t more f h.4)

pub all_served : {S E : Type 0} (post : S → ℕ → Bor (List ℕ) → Result S E → Type 0) (P : List ℕ → Type 0) (known : Option (List ℕ)) (start : S)
    (served : Option S) → is_some served ≡ true → IfSome served (λ t. IfSome known (λ xs. EachServed post start (lines xs) t))
    → ((v : S) (k : ℕ) (shown : Bor (List ℕ)) (u : S) → post v k shown (Ok u) → P shown.now) → IfSome known (λ xs. AllByRecursion P (lines xs))
all_served post P known start None e h f = absurd (let z : ◌≡◌ {A = Bool} false true = e in cc)
all_served post P None start (Some t) e h f = tt
all_served post P (Some xs) start (Some t) e h f = each_holds post P 0 start t (lines xs) f h.turns

not_ok : {S E : Type 0} (e : E) (v : S) → ◌≡◌ {A = Result S E} (Err e) (Ok v) → ⊥
not_ok e v h = cc

none_stops : {S E : Type 0} (post : S → ℕ → Bor (List ℕ) → Result S E → Type 0) (P : List ℕ → Type 0) (n : ℕ) (s : S) (ls : List (List ℕ))
    → ((v : S) (k : ℕ) (shown : Bor (List ℕ)) (e : E) → post v k shown (Err e) → P shown.now → ◌≡◌ {A = Result S E} (Err e) (Ok v))
    → Stops post n s ls → AllByRecursion P ls → ⊥
none_stops post P n s [] f h all = absurd h
none_stops post P n s (line ∷ more) f (inl h) all = not_ok h.0 s (f s (next_number n) h.1 h.0 h.3 (subst P (sym h.2) all.0))
none_stops post P n s (line ∷ more) f (inr h) all = none_stops post P (next_number n) h.0 more f h.4 all.1

-- where serving cannot fail at lines with P, not all lines had it
pub some_stops : {S E : Type 0} (post : S → ℕ → Bor (List ℕ) → Result S E → Type 0) (P : List ℕ → Type 0) (known : Option (List ℕ)) (start : S)
    (served : Option S) → is_some served ≡ false → IfNone served (IfSome known (λ xs. OneRefused post start (lines xs)))
    → ((v : S) (k : ℕ) (shown : Bor (List ℕ)) (e : E) → post v k shown (Err e) → P shown.now → ◌≡◌ {A = Result S E} (Err e) (Ok v))
    → IfSome known (λ xs. AllByRecursion P (lines xs) → ⊥)
some_stops post P known start (Some t) e h f = absurd (let z : ◌≡◌ {A = Bool} true false = e in cc)
some_stops post P None start None e h f = tt
some_stops post P (Some xs) start None e h f = none_stops post P 0 start (lines xs) f h.turns
