-- The tag of a CBW in the CSW that answers it.
use Rattle.std.proofs.Common.{◌≡◌, ℕ, ◌+◌, ◌*◌, ◌/◌, ◌%◌, ◌<◌, ◌≤◌, List, [], ◌∷◌, length, take, drop, sym, refl, ap, ◌∙◌, arith}
use Rattle.std.specs.List.{AllByRecursion}
use Rattle.std.proofs.ByRecursion.{All-get_or}
use Rattle.std.proofs.lemmas.List.{drop_more}
use Rattle.model.specs.Bytes.{byte, le32_of}
use Rattle.model.specs.declared.command.Cbw.{Cbw}
use Rattle.laws.specs.BulkLaws.{Echo, TagEchoed}
use Rattle.laws.proofs.Bulks.{any_way, Fields, fields}

-- a number of four bytes goes back into them
bytes_back : (a b c d : ℕ) → a < 256 → b < 256 → c < 256 → d < 256 → le32_of (a + 256 * b + 65536 * c + 16777216 * d) ≡ a ∷ b ∷ c ∷ d ∷ []
bytes_back a b c d p q r t =
    let n = a + 256 * b + 65536 * c + 16777216 * d in
    let w : n % 256 ≡ a = omega arith in
    let x : n / 256 ≡ b + 256 * (c + 256 * d) = omega arith in
    let y : n / 65536 ≡ c + 256 * d = omega arith in
    let z : n / 16777216 ≡ d = omega arith in
    let x' : (b + 256 * (c + 256 * d)) % 256 ≡ b = omega arith in
    let y' : (c + 256 * d) % 256 ≡ c = omega arith in
    cc

four : (cbw : List ℕ) → 8 ≤ length cbw → take 4 (drop 4 cbw) ≡ byte cbw 4 ∷ byte cbw 5 ∷ byte cbw 6 ∷ byte cbw 7 ∷ []
four cbw h =
    ap (take 4) (drop_more cbw 4 0 (omega arith))
    ∙ ap (λ (l : List ℕ). byte cbw 4 ∷ take 3 l) (drop_more cbw 5 0 (omega arith))
    ∙ ap (λ (l : List ℕ). byte cbw 4 ∷ byte cbw 5 ∷ take 2 l) (drop_more cbw 6 0 (omega arith))
    ∙ ap (λ (l : List ℕ). byte cbw 4 ∷ byte cbw 5 ∷ byte cbw 6 ∷ take 1 l) (drop_more cbw 7 0 (omega arith))

tag_of : (cbw : List ℕ) (c : Cbw) → AllByRecursion (λ b. b < 256) cbw → Fields cbw c → le32_of c.tag ≡ take 4 (drop 4 cbw)
tag_of cbw c small f =
    let at : (k : ℕ) → k < 31 → byte cbw k < 256 = λ k h. All-get_or (λ b. b < 256) cbw k 0 (omega arith) small in
    ap le32_of f.tag
    ∙ bytes_back (byte cbw 4) (byte cbw 5) (byte cbw 6) (byte cbw 7) (at 4 (omega arith)) (at 5 (omega arith)) (at 6 (omega arith)) (at 7 (omega arith))
    ∙ sym (four cbw (omega arith))

pub tag_echoed : TagEchoed
tag_echoed lay s i cbw ds small =
    any_way (λ o. o.code ≡ 0 → Echo cbw o.csw) lay i cbw ds s
    (λ n h e. absurd (omega arith))
    (λ e. absurd (omega arith))
    (λ c v t e. record { size = refl; tag = tag_of cbw c small (fields cbw c t.is) })
