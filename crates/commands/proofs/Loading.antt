-- Blocks read one after another into a buffer, up to the first bad one.
use Rattle.std.proofs.Common.{◌≡◌, ℕ, suc, ◌+◌, ◌-◌, ◌*◌, ◌<◌, ◌≤◌, true, List, [], ◌++◌, length, get_or, take, drop, Ok, Result, is_err, sym, ap, ◌∙◌, arith}
use borrow.Rule.Slice.PartMut.{put_mid}
use Rattle.std.proofs.lemmas.List.{append_assoc, drop-drop, take-append-drop, length-append, length-take, length-drop}
use Rattle.std.proofs.lemmas.Slice.{take-put_mid, drop-put_mid}
use Rattle.model.specs.Blocks.{Block, bad, good, bytes_or, answer, filled}
use Rattle.model.specs.Commands.{good_run, bytes_from}
use Rattle.model.specs.declared.refusal.Fault.{Fault}
use Rattle.medium.proofs.Calls.{way, good_from, read_good, refused_read}
use Rattle.commands.specs.Transfers.{loaded}
use Rattle.commands.proofs.Going.{err_of, bad_seen, run_good, run_bad}

-- i blocks on, all of them good
pub record Along (m : List Block) (b n : ℕ) (buf0 buf : List ℕ) (i : ℕ) : Type 0 where
  pub len : length buf ≡ length buf0
  pub moved : i + good_run (n - i) (b + i) m ≡ good_run n b m
  pub buffer : take (512 * i) buf ++ loaded (n - i) (b + i) m (drop (512 * i) buf) ≡ loaded n b m buf0

module _ (m : List Block) (b n : ℕ) (buf0 : List ℕ) where
  pub along_more : (buf bs : List ℕ) (i : ℕ) → i < n → 512 * n ≤ length buf0 → length bs ≡ 512 → get_or m (b + i) bad ≡ good bs
      → Along m b n buf0 buf i → Along m b n buf0 (put_mid (512 * i) 512 buf bs) (i + 1)
  along_more buf bs i lt room l e a =
      let k = n - (i + 1) in
      let run = good_run k (suc (b + i)) m in
      let more = bytes_from run (suc (b + i)) m in
      let front = take (512 * i) buf in
      let back = drop (512 * i) buf in
      let one : good_run (n - i) (b + i) m ≡ suc run = run_good m b n i lt bs e in
      let next : b + (i + 1) ≡ suc (b + i) = omega arith in
      let at : 512 * i ≤ length buf = omega (arith, a.len) in
      let to : 512 * (i + 1) ≡ 512 * i + length bs = omega (arith, l) in
      let far : 512 * suc run ≡ 512 + 512 * run = omega arith in
      let put : take (512 * (i + 1)) (put_mid (512 * i) 512 buf bs) ≡ front ++ bs = take-put_mid (512 * i) 512 buf bs (512 * (i + 1)) to at in
      let rest : drop (512 * (i + 1)) (put_mid (512 * i) 512 buf bs) ≡ drop 512 back =
      drop-put_mid (512 * i) 512 buf bs (512 * (i + 1)) (omega arith) at l ∙ ap (λ x. drop x buf) (omega arith) ∙ sym (drop-drop 512 (512 * i) buf) in
      let was : loaded (n - i) (b + i) m back ≡ bs ++ loaded k (suc (b + i)) m (drop 512 back) =
      ap (λ x. bytes_from x (b + i) m ++ drop (512 * x) back) one
      ∙ ap (λ x. (bytes_or x [] ++ more) ++ drop (512 * suc run) back) e
      ∙ append_assoc bs more (drop (512 * suc run) back)
      ∙ ap (λ d. bs ++ (more ++ d)) (ap (λ x. drop x back) far ∙ sym (drop-drop (512 * run) 512 back)) in
      record {
        len = simp (length-append, length-take, length-drop) (omega (arith, a.len, l));
        moved = omega (arith, a.moved, one, ap (λ x. good_run k x m) next);
        buffer =
            ap (λ x. take (512 * (i + 1)) (put_mid (512 * i) 512 buf bs) ++ loaded k (b + (i + 1)) m x) rest
            ∙ ap (λ x. x ++ loaded k (b + (i + 1)) m (drop 512 back)) put
            ∙ ap (λ x. (front ++ bs) ++ loaded k x m (drop 512 back)) next
            ∙ append_assoc front bs (loaded k (suc (b + i)) m (drop 512 back))
            ∙ sym (ap (λ x. front ++ x) was)
            ∙ a.buffer;
      }

  -- where no good block comes next, all that was to be loaded has been
  pub along_end : (buf : List ℕ) (i : ℕ) → good_run (n - i) (b + i) m ≡ 0 → Along m b n buf0 buf i → (i ≡ good_run n b m) × (buf ≡ loaded n b m buf0)
  along_end buf i none a =
      let back = drop (512 * i) buf in (
        omega (arith, a.moved, none),
        sym (take-append-drop (512 * i) buf) ∙ sym (ap (λ x. take (512 * i) buf ++ (bytes_from x (b + i) m ++ drop (512 * x) back)) none) ∙ a.buffer,
      )

-- a part that is put back as it was
pub putMid_back : (a w : ℕ) (xs ys : List ℕ) → ys ≡ take w (drop a xs) → put_mid a w xs ys ≡ xs
putMid_back a w xs ys e =
    ap (λ y. take a xs ++ (y ++ drop w (drop a xs))) e ∙ ap (λ y. take a xs ++ y) (take-append-drop w (drop a xs)) ∙ take-append-drop a xs

-- the next call, which reads into the buffer's next 512 bytes and leaves `out` there: refused, the transfer ends there; accepted, it goes on
module _ (m : List Block) (b n : ℕ) (buf0 buf : List ℕ) (i at w : ℕ) (out : List ℕ) (r : Result (Unit {0}) Fault)
    (lt : i < n) (room : 512 * n ≤ length buf0) (from : at ≡ 512 * i) (size : w ≡ 512) (is : r ≡ answer m (b + i) (length (take w (drop at buf))))
    (full : out ≡ filled m (b + i) (take w (drop at buf))) (a : Along m b n buf0 buf i) where
  abbrev part : List ℕ
  part = take w (drop at buf)

  long : length part ≡ 512
  long = omega (arith, a.len, length-take w (drop at buf), length-drop at buf)

  pub read_stops : is_err r ≡ true → (i ≡ good_run n b m) × (put_mid at w buf out ≡ loaded n b m buf0)
  read_stops err =
      let f = err_of r err in
      let e = along_end m b n buf0 buf i (run_bad m b n i lt (bad_seen m (b + i) (length part) f.0 long (sym is ∙ f.1))) a in
      (e.0, putMid_back at w buf out (full ∙ refused_read m (b + i) part f.0 (sym is ∙ f.1)) ∙ e.1)

  pub read_goes_on : r ≡ Ok tt → length out ≡ 512 → Along m b n buf0 (put_mid at w buf out) (i + 1)
  read_goes_on ok lo =
      let g = good_from m (b + i) (length part) (way m (b + i) (length part)) (sym is ∙ ok) in
      let there = g.1.1.1 ∙ ap good (sym (read_good m (b + i) g.1.0 part g.1.1 g.0).1 ∙ sym full) in
      rw (from, size) (along_more m b n buf0 buf out i lt room lo there a)
