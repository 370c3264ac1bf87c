use Rattle.std.proofs.Common.{◌≡◌, ◌+◌, ◌-◌, ◌++◌, ◌≤◌, ℕ, [], length, map, take, drop, arith, ap, subst, ◌∙◌}
use Rattle.std.proofs.lemmas.List.{map-append, length-take, length-drop}
use Rattle.read_leaf.specs.Numbers.{TookNumbers}
use Rattle.read_leaf.proofs.Grouped.{written-front}
use Rattle.read_leaf.proofs.NumberSlots.{took-behind}
use Rattle.read_leaf.proofs.primitive.write_block.Goals as goal

pub returns-in-Some-clause-ok : goal.returns-in-Some-clause-ok
returns-in-Some-clause-ok g c =
    let number = g.T.FromStored.loaded_number in
    let size : ℕ = g.P.PlainNumber.byte_count in
    let before : ℕ = c.args.before in
    let count : ℕ = c.args.count in
    let xs = c.deref_mut.result.now in
    let ys = c.fill_numbers.new.places in
    let part = take (before + count - before) (drop before xs) in
    let items = c.make_places.new.values.items in
    let long : before + count ≤ length items = c.in_ok-make_places.ensures.ok in
    let value : xs ≡ items = c.deref_mut.ensures.value in
    let many : length part ≡ count = length-take (before + count - before) (drop before xs) ∙ omega (arith, length-drop before xs, long, ap length value) in
    let end : before + count ≤ c.make_places.new.values.len = omega (arith, long, c.make_places.new.values.ok.0) in
    let front = written-front before count (before + count - before) c.make_places.new.values.len xs ys _ (omega (arith, long, ap length value)) (c.fill_numbers.auto.places ∙ many) end in
    let old : take before xs ≡ take before c.args.values.now.items = ap (take before) value ∙ c.make_places.ensures.same in
    let new = ap (map number) (front ∙ ap (λ t. t ++ ys) old) ∙ map-append number (take before c.args.values.now.items) ys in
    took-behind g.T.FromStored.loaded g.P.StoredNumber.spelled size count c.args.bytes.now c.in-Some.rest.now (map number (take before c.args.values.now.items)) _ (map number ys) new (subst (λ (k : ℕ). TookNumbers g.T.FromStored.loaded g.P.StoredNumber.spelled size k c.args.bytes.now c.in-Some.rest.now [] (map number ys)) many c.in-Some.ensures)
