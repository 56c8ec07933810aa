use Rattle.std.proofs.Common.{◌≡◌, ℕ, Bool, true, false, List, replicate, vec_items, refl, ap, rules}
use Rattle.model.specs.Events.{control}
use Rattle.model.specs.Requests.{is_reading}
use Rattle.record.specs.Buffers.{answer_room, buffered}
use Rattle.record.proofs.buffer.handed.Goals as goal

chosen : (answered : Bool) (arriving : List ℕ) (buffer : List ℕ) → (answered ≡ true → buffer ≡ replicate 1024 0) → (answered ≡ false → buffer ≡ arriving)
    → buffer ≡ buffered answered arriving
unfolding answer_room
chosen true arriving buffer zeros kept = zeros refl
chosen false arriving buffer zeros kept = kept refl

pub returns-in_ok-data-in-Control : goal.returns-in_ok-data-in-Control
returns-in_ok-data-in-Control c =
    let setup = vec_items c.in-Control.setup in
    let buffer = vec_items c.in_ok-data-in-Control.data in
    let e = chosen (is_reading setup) (vec_items c.in-Control.data) buffer (search rules) (search rules) in
    rw c.in-Control.is (ap (control setup) e)
