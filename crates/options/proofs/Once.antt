-- An option that is set once: what was read is what is due, and an option that was given before is a mistake.
use Rattle.std.proofs.Common.{◌≡◌, true, Some, None, Ok, Err, Option, Result, refl, ap, ◌∙◌, IfOk, IfErr, is_some}
use Rattle.std.specs.Option.{option_map}
use Rattle.fields.specs.Readings.{Reads}
use Rattle.values.specs.declared.error.Mistake.{Mistake}
use Rattle.values.specs.declared.error.Mistake.TheVariants.{RepeatedOption}
use Rattle.values.specs.Mistakes.{is_memory}
use Rattle.options.specs.Choices.{Choice, and_then, once, known}
use Rattle.options.specs.declared.choice.Name.{Name}

pub set_reads : {T Y : Type 0} {Bad : Mistake → Type 0} {Good : T → Type 0} (view : T → Y) (due : Result Y Mistake) (put : Option Y → Choice)
    (old new : Option T) (r : Result (Unit {0}) Mistake)
    → ((m : Mistake) → Bad m → Reads is_memory view (Err m) due) → ((v : T) → Good v → Reads is_memory view (Ok v) due)
    → (is_some old ≡ true → r ≡ Err RepeatedOption) → (old ≡ None → IfErr r Bad)
    → IfOk r (λ u. (v : T) × Good v × (old ≡ None) × (new ≡ Some v))
    → Reads is_memory (λ u. put (option_map view new)) r (once (option_map view old) (and_then due (λ y. Ok (put (Some y)))))
set_reads view due put (Some x) new (Ok u) bad good again unread set = absurd (let e = again refl in cc)
set_reads view due put (Some x) new (Err m) bad good again unread set = λ h. let e = again refl in cc
set_reads view due put None new (Ok u) bad good again unread set =
    ap (λ n. Ok (put (option_map view n))) set.3 ∙ ap (λ d. and_then d (λ y. Ok (put (Some y)))) (good set.0 set.1)
set_reads view due put None new (Err m) bad good again unread set = λ h. ap (λ d. and_then d (λ y. Ok (put (Some y)))) (bad m (unread refl) h)

pub known_name : (o : Option Name) (n : Name) → Ok n ≡ known o → o ≡ Some n
known_name None n e = cc
known_name (Some m) n e = cc
