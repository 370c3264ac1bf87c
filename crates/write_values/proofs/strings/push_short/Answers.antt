use Rattle.std.proofs.Common.{◌≡◌, ◌+◌, ◌-◌, ◌++◌, ◌∙◌, ℕ, List, length, vec_len, take, drop, replicate, map, refl, ap, sym, subst, arith}
use Rattle.std.proofs.lemmas.List.{length-take, length-drop, take_all, take_at}
use Rattle.columns_slots.specs.Bytes.{pieces_values}
use Rattle.pq_tree.specs.Physical.{byte_array}
use Rattle.pq_files.specs.Plain.{InARow}
use Rattle.write_places.specs.Places.{picked}
use Rattle.write_values.specs.Numbers.{at_place}
use Rattle.write_values.specs.Rows.{AppendsRow}
use Rattle.write_values.proofs.StringRows.{placed_behind}
use Rattle.write_values.proofs.strings.push_short.Goals as goal

pub returns-clause-ok : goal.returns-clause-ok
returns-clause-ok g c =
    let old = c.args.out.now.items in
    let before = c.len-before.result in
    let size = c.put_picked-size.result in
    let places = c.put_picked-size.new.places in
    let vs = map (at_place (pieces_values c.args.offsets.now c.args.all.now)) (picked c.args.bits c.args.from c.args.count) in
    let n : length old ≡ before = omega (arith, c.len-before.ensures, c.args.out.now.ok.0) in
    let more = replicate (before + c.args.room - vec_len c.args.out.now) 0 in
    let grown : c.resize.new.self.items ≡ old ++ more = c.in_ok-resize.ensures.items ∙ ap (λ (xs : List ℕ). xs ++ more) (take_all (before + c.args.room) old (omega (arith, n))) in
    let opened : take before c.deref_mut.result.now ≡ old = ap (take before) (c.deref_mut.ensures.value ∙ grown) ∙ take_at old (more) before n in
    let e = c.put_picked-size.ensures in
    subst (λ (xs : List ℕ). AppendsRow byte_array old xs vs) (sym (c.truncate.ensures.items ∙ placed_behind before size _ old c.deref_mut.result.now places _ _ n opened e.within (omega (arith, e.within, e.len, length-take (length c.deref_mut.result.now - before) (drop before c.deref_mut.result.now), length-drop before c.deref_mut.result.now, c.deref_mut.ensures.len, c.in_ok-resize.ensures.len)))) (record { text = take size places; parts = refl; row = subst (λ (t : List ℕ). InARow byte_array t vs) (sym e.are.parts) e.are.row })
