use Rattle.std.proofs.Common.{◌≡◌, ℕ, ◌≤◌, List, length, vec_items, sym, ap, ◌∙◌, subst, rules}
use Rattle.std.proofs.lemmas.List.{with_items_is}
use Rattle.events.specs.Happenings.{event_of, unhanded}
use Rattle.events.specs.declared.Event.{Event}
use Rattle.model.specs.Bulk.{Bulked, bulked}
use Rattle.model.specs.Control.{Transferred, controlled}
use Rattle.model.specs.Events.{after_bulk, after_control, step, stepped}
use Rattle.stick.specs.Meaning.{stick_of}
use Rattle.trial.specs.Turns.{count_of, reply_of}
use Rattle.trial.proofs.run.perform_on.Goals as goal

pub returns-in-Control : goal.returns-in-Control
returns-in-Control g c =
    let of = stick_of g.M.Medium.meaning in
    let lay = c.args.stick.now.layout in
    let s = of c.control-result.new.self in
    let buf = c.control-result.new.buffer in
    let setup = c.as_slice.result.now in
    let handed = c.as_mut_slice.result.now in
    let setup_is : setup ≡ vec_items c.in-Control.setup = search rules in
    let handed_is : handed ≡ vec_items c.in-Control.data = search rules in
    let e = with_items_is c.in-Control.data buf (search rules) in
    record {
      bound = subst (λ (b : List ℕ). count_of c.control_reply.result ≤ length b) (sym e) (c.control_reply.ensures.bound (length buf) c.control-result.ensures.bound);
      kept = ap (λ (x : Event). unhanded (event_of x)) (sym c.in-Control.is);
      step = ap (λ b. stepped (reply_of c.control_reply.result b) s) e
          ∙ c.control_reply.ensures.step buf s
          ∙ ap (λ (t : Transferred). after_control t) c.control-result.ensures.transfer
          ∙ ap (λ x. after_control (controlled lay x handed (of c.args.stick.now))) setup_is
          ∙ ap (λ x. after_control (controlled lay (vec_items c.in-Control.setup) x (of c.args.stick.now))) handed_is
          ∙ ap (λ (x : Event). step lay (of c.args.stick.now) (event_of x)) (sym c.in-Control.is);
      layout = c.control-result.ensures.layout;
    }

pub returns-in-Bulk : goal.returns-in-Bulk
returns-in-Bulk g c =
    let of = stick_of g.M.Medium.meaning in
    let lay = c.args.stick.now.layout in
    let s = of c.bulk-result.new.self in
    let i = c.in-Bulk.interface in
    let buf = c.bulk-result.new.buffer in
    let wrapper = c.as_slice-in-Bulk.result.now in
    let handed = c.as_mut_slice-in-Bulk.result.now in
    let wrapper_is : wrapper ≡ vec_items c.in-Bulk.cbw = search rules in
    let handed_is : handed ≡ vec_items c.in-Bulk.data = search rules in
    let e = with_items_is c.in-Bulk.data buf (search rules) in
    record {
      bound = subst (λ (b : List ℕ). count_of c.bulk_reply.result ≤ length b) (sym e) (c.bulk_reply.ensures.bound (length buf) c.bulk-result.ensures.bound);
      kept = ap (λ (x : Event). unhanded (event_of x)) (sym c.in-Bulk.is);
      step = ap (λ b. stepped (reply_of c.bulk_reply.result b) s) e
          ∙ c.bulk_reply.ensures.step buf s
          ∙ ap (λ (t : Bulked). after_bulk t) c.bulk-result.ensures.bulk
          ∙ ap (λ x. after_bulk (bulked lay i x handed (of c.args.stick.now))) wrapper_is
          ∙ ap (λ x. after_bulk (bulked lay i (vec_items c.in-Bulk.cbw) x (of c.args.stick.now))) handed_is
          ∙ ap (λ (x : Event). step lay (of c.args.stick.now) (event_of x)) (sym c.in-Bulk.is);
      layout = c.bulk-result.ensures.layout;
    }
