-- Two sticks that were fitted and run: each as the model has it, and the two by what is claimed of all runs.
use Rattle.std.proofs.Common.{◌≡◌, ℕ, true, ◌↔◌, List, [], ◌∷◌, length, sym, refl, ap, ◌∙◌, subst}
use Rattle.model.specs.Blocks.{Block}
use Rattle.model.specs.Control.{unit_at}
use Rattle.model.specs.Events.{Event, Reply, after, replies, run}
use Rattle.model.specs.Layouts.{Layout}
use Rattle.model.specs.Sticks.{Stick, first}
use Rattle.model.specs.Units.{holds_phrase}
use Rattle.privacy.specs.Claims.{Agree, AlikeBut, OpenedSince, is_unlocked}
use Rattle.privacy.proofs.Opened.{open_when_opened}
use Rattle.privacy.proofs.Places.{fits_always}
use Rattle.privacy.proofs.Secret.{keeps_secret}
use Rattle.trial.specs.Lives.{Life, Secret, fitted, lived, onto}

run_onto : (lay : Layout) (m : List Block) (es past : List Event) → run lay (after lay m past) es ≡ after lay m (onto es past)
run_onto lay m [] past = refl
run_onto lay m (e ∷ es) past = run_onto lay m es (e ∷ past)

-- from the contracts of fitting and of both runs
pub life : (bytes : List ℕ) (m : List Block) (h es : List Event) (rs qs : List Reply) (l₀ l₁ : Layout) (s₀ s₁ s : Stick)
    → s₀ ≡ first (fitted bytes m) m → l₀ ≡ fitted bytes m → s₁ ≡ run l₀ s₀ h → rs ≡ replies l₀ s₀ h → l₁ ≡ l₀ → s ≡ run l₁ s₁ es → qs ≡ replies l₁ s₁ es
    → Life bytes m h es rs qs s
life bytes m h es rs qs l₀ l₁ s₀ s₁ s e₀ is₀ e₁ r₁ is₁ e₂ r₂ =
    let l = fitted bytes m in
    let before : s₁ ≡ lived bytes m h = e₁ ∙ ap (λ x. run x s₀ h) is₀ ∙ ap (λ x. run l x h) e₀ ∙ run_onto l m h [] in
    let end : s ≡ after l m (onto es (onto h [])) = e₂ ∙ ap (λ x. run x s₁ es) (is₁ ∙ is₀) ∙ ap (λ x. run l x es) before ∙ run_onto l m es (onto h []) in
    record {
      history = r₁ ∙ ap (λ x. replies x s₀ h) is₀ ∙ ap (λ x. replies l x h) e₀;
      further = r₂ ∙ ap (λ x. replies x s₁ es) (is₁ ∙ is₀) ∙ ap (λ x. replies l x es) before;
      end = end;
      opened = subst (λ (x : Stick). (u : ℕ) → holds_phrase (unit_at u x).standing ≡ true → (is_unlocked (unit_at u x).standing ≡ true) ↔ OpenedSince l m u (onto es (onto h []))) (sym end)
          (λ u. open_when_opened l m (onto es (onto h [])) u);
    }

pub secret : (bytes : List ℕ) (m : List Block) (h es : List Event) (rs : List Reply) (bytes' : List ℕ) (n : List Block) (k fs : List Event) (qs : List Reply)
    → rs ≡ replies (fitted bytes m) (lived bytes m h) es → qs ≡ replies (fitted bytes' n) (lived bytes' n k) fs → Secret bytes m h es rs bytes' n k fs qs
secret bytes m h es rs bytes' n k fs qs first_said second-said u one-layout one_list closed alike =
    let l = fitted bytes m in
    let l' = fitted bytes' n in
    let s = lived bytes m h in
    let t = after l n (onto k []) in
    let t' = lived bytes' n k in
    let same : t ≡ t' = ap (λ (x : Layout). after x n (onto k [])) one-layout in
    let alike₁ : AlikeBut l u s t = subst (λ (x : Stick). AlikeBut l u s x) (sym same) alike in
    let said : replies l t es ≡ qs =
    ap (λ (x : Layout). replies x t es) one-layout ∙ ap (λ (x : Stick). replies l' x es) same ∙ ap (replies l' t') one_list ∙ sym second-said in
    let a : Agree l u s t es (replies l s es) (replies l t es) = keeps_secret l m n (onto h []) (onto k []) u (fits_always bytes (length m)) closed alike₁ es in
    let b : Agree l u s t es rs (replies l t es) = subst (λ (x : List Reply). Agree l u s t es x (replies l t es)) (sym first_said) a in
    let d : Agree l u s t es rs qs = subst (λ (x : List Reply). Agree l u s t es rs x) said b in
    subst (λ (x : Stick). Agree l u s x es rs qs) same d
