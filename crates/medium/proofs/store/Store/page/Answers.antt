use Rattle.std.proofs.Common.{◌≡◌, ℕ, ◌-◌, ◌*◌, ◌<◌, List, [], length, take, drop, Some, None, Option, sym, refl, ap, ◌∙◌, ⊎_elim, arith, Bor}
use Rattle.std.proofs.lemmas.List.{take_min, take_all, drop_all, length-drop}
use Rattle.std.specs.Option.{unwrap_or}
use Rattle.std.specs.Slice.{IsGetRangeResult}
use Rattle.medium.proofs.store.Store.page.Goals as goal

-- the list from a place on, or nothing
from_place : (xs : List ℕ) (a : ℕ) (o : Option (Bor (List ℕ))) (other : Bor (List ℕ)) → other.now ≡ [] → IsGetRangeResult xs a (length xs) o → (unwrap_or o other).now ≡ drop a xs
from_place xs a None other e got = e ∙ sym (drop_all a xs (⊎_elim (λ (past : length xs < a). omega arith) (λ (never : length xs < length xs). absurd (omega arith)) got.0))
from_place xs a (Some x) other e got = got.0.2 ∙ take_all (length xs - a) (drop a xs) (omega (arith, length-drop a xs))

pub returns-clause-bytes : goal.returns-clause-bytes
returns-clause-bytes g c =
    let rest : c.unwrap_or-rest.result.now ≡ drop (512 * c.args.page) c.args.self.now.memory.items =
    ap (λ (r : Bor (List ℕ)). r.now) c.unwrap_or-rest.ensures ∙ from_place c.deref.result.now (512 * c.args.page) c.get.result _ refl c.get.ensures.lookup ∙ ap (drop (512 * c.args.page)) c.deref.ensures.value in
    ap (λ n. take n c.unwrap_or-rest.result.now) c.min.ensures ∙ take_min 512 c.unwrap_or-rest.result.now ∙ ap (take 512) rest
