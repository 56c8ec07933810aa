-- A run, some turns on.
use Rattle.std.proofs.Common.{◌≡◌, ℕ, zero, suc, ◌+◌, ◌<◌, ◌≤◌, List, [], ◌∷◌, ◌++◌, map, length, get_or, take, drop, set, sym, refl, ap, ◌∙◌, arith}
use Rattle.std.proofs.lemmas.List.{append_assoc, append-nil, map-append, length-set, drop-set-lt, take_more_set, drop_more, drop_all, take_all}
use Rattle.events.specs.Happenings.{unhanded}
use Rattle.model.specs.Events.{Step, replies, run, step, stepped}
use Rattle.model.specs.Layouts.{Layout}
use Rattle.model.specs.Sticks.{Stick}
use Rattle.trial.specs.Turns.{event_in, reply_in}
use Rattle.trial.specs.declared.turn.Turn.{Turn}

-- a turn set to one with the same event but for its buffer
kept_set : (ts : List Turn) (i : ℕ) (d t' : Turn) → i < length ts → unhanded (event_in t') ≡ unhanded (event_in (get_or ts i d))
    → map unhanded (map event_in (set ts i t')) ≡ map unhanded (map event_in ts)
kept_set [] i d t' h e = refl
kept_set (t ∷ ts) zero d t' h e = ap (λ x. x ∷ map unhanded (map event_in ts)) e
kept_set (t ∷ ts) (suc i) d t' h e = ap (λ xs. unhanded (event_in t) ∷ xs) (kept_set ts i d t' (omega arith) e)

-- a run from s0 over ts0, i turns on: s is the stick, and ts the turns as they stand
pub record Far (lay : Layout) (s0 : Stick) (ts0 : List Turn) (s : Stick) (ts : List Turn) (i : ℕ) : Type 0 where
  pub len : length ts ≡ length ts0
  pub end : run lay s (map event_in (drop i ts)) ≡ run lay s0 (map event_in ts0)
  pub kept : map unhanded (map event_in ts) ≡ map unhanded (map event_in ts0)
  pub said : map reply_in (take i ts) ++ replies lay s (map event_in (drop i ts)) ≡ replies lay s0 (map event_in ts0)

module _ (lay : Layout) (s0 : Stick) (ts0 : List Turn) where
  pub far_more : (s : Stick) (ts : List Turn) (i : ℕ) (d t' : Turn) (s' : Stick) → i < length ts → unhanded (event_in t') ≡ unhanded (event_in (get_or ts i d)) → stepped (reply_in t') s' ≡ step lay s (event_in (get_or ts i d))
      → Far lay s0 ts0 s ts i → Far lay s0 ts0 s' (set ts i t') (i + 1)
  far_more s ts i d t' s' h same did f =
      let e = event_in (get_or ts i d) in
      let rest = drop (i + 1) ts in
      let here : drop i ts ≡ get_or ts i d ∷ rest = drop_more ts i d h in
      let left : drop (i + 1) (set ts i t') ≡ rest = drop-set-lt (i + 1) ts i t' (omega arith) in
      let front : take (i + 1) (set ts i t') ≡ take i ts ++ t' ∷ [] = take_more_set ts i t' h in
      let after : s' ≡ (step lay s e).next = ap (λ (x : Step). x.next) did in
      let reply : reply_in t' ≡ (step lay s e).reply = ap (λ (x : Step). x.reply) did in
      record {
        len = length-set ts i t' ∙ f.len;
        end = ap (λ xs. run lay s' (map event_in xs)) left ∙ ap (λ k. run lay k (map event_in rest)) after ∙ sym (ap (λ xs. run lay s (map event_in xs)) here) ∙ f.end;
        kept = kept_set ts i d t' h same ∙ f.kept;
        said =
            ap (λ xs. map reply_in (take (i + 1) (set ts i t')) ++ replies lay s' (map event_in xs)) left
            ∙ ap (λ xs. map reply_in xs ++ replies lay s' (map event_in rest)) front
            ∙ ap (λ xs. xs ++ replies lay s' (map event_in rest)) (map-append reply_in (take i ts) (t' ∷ []))
            ∙ append_assoc (map reply_in (take i ts)) (reply_in t' ∷ []) (replies lay s' (map event_in rest))
            ∙ ap (λ x. map reply_in (take i ts) ++ x ∷ replies lay s' (map event_in rest)) reply
            ∙ ap (λ k. map reply_in (take i ts) ++ (step lay s e).reply ∷ replies lay k (map event_in rest)) after
            ∙ sym (ap (λ xs. map reply_in (take i ts) ++ replies lay s (map event_in xs)) here)
            ∙ f.said;
      }

  pub far_all : (s : Stick) (ts : List Turn) (i : ℕ) → length ts ≤ i → Far lay s0 ts0 s ts i
      → (s ≡ run lay s0 (map event_in ts0)) × (map reply_in ts ≡ replies lay s0 (map event_in ts0)) × (map unhanded (map event_in ts) ≡ map unhanded (map event_in ts0))
  far_all s ts i h f =
      let none = drop_all i ts h in
      let all = take_all i ts h in (
        sym (ap (λ xs. run lay s (map event_in xs)) none) ∙ f.end,
        sym (append-nil (map reply_in ts)) ∙ sym (ap (λ xs. map reply_in ts ++ replies lay s (map event_in xs)) none) ∙ sym (ap (λ xs. map reply_in xs ++ replies lay s (map event_in (drop i ts))) all) ∙ f.said,
        f.kept,
      )
