use Rattle.std.proofs.Common.{refl, true, false, ◌≡◌, sym, ◌∙◌}
use Rattle.pq_metadata.specs.Ids.{is_number}
use Rattle.pq_container.proofs.Lookups.{get-next}
use Rattle.pq_container.proofs.fields.last_with.Goals as goal
use Rattle.pq_container.proofs.fields.last_with.Goals.{then-is_id, else-is_id}

pub loop-number-preserved : goal.loop-number-preserved
loop-number-preserved c =
    let f = c.loop-number-item.result in
    let next = get-next c.args.id c.args.fields.now c.loop-number.number-index f c.loop-number-test.true c.loop-number-item.is in
    elim c.if-is_id.branch [
      | then-is_id w ↦ let is : is_number f.0 c.args.id ≡ true = sym c.is_id.ensures ∙ w.if-is_id.true in rw (next, is, w.found-is) refl
      | else-is_id w ↦ let is : is_number f.0 c.args.id ≡ false = sym c.is_id.ensures ∙ w.if-is_id.false in rw (next, is, w.found-is) c.loop-number.invariant
    ]
