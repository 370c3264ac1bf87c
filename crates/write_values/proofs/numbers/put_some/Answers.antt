use Rattle.std.proofs.Common.{◌≡◌, ◌≤◌, ◌<◌, ◌+◌, ◌-◌, ◌*◌, ◌/◌, ◌^◌, ◌∙◌, ℕ, [], length, map, take, refl, subst, arith}
use Rattle.std.specs.Int.{w64, trailing_zeros}
use Rattle.shredding.specs.Slot.{Value, number}
use Rattle.pq_tree.specs.Views.{physical_view}
use Rattle.write_places.specs.Places.{picked}
use Rattle.write_values.specs.Numbers.{at_place}
use Rattle.write_values.proofs.Picked.{IsPartly, partly_none, partly_all}
use Rattle.write_values.proofs.NumberRuns.{first_few, partly_run, run_room}
use Rattle.write_values.proofs.numbers.put_some.Goals as goal

pub loop-left-init : goal.loop-left-init
loop-left-init g c =
    let k : c.args.from + c.args.count - c.args.from ≡ c.args.count = omega arith in
    let f : g.row.T.Denot → Value = λ x. number (g.T.StoredAs.stored_number x) in
    record {
      after = omega arith;
      before = omega arith;
      low = rw k c.requires.low;
      room = rw k (omega (arith, c.requires.room));
      len = refl;
      row = rw k (partly_none (physical_view g.P.ParquetNativeType.physical) [] (map (at_place (map f c.args.values.now)) (picked c.args.bits c.args.from c.args.count)));
    }

pub overflow_add-place : goal.overflow_add-place
overflow_add-place g c =
    let i = c.loop-left.invariant in
    let e = c.few_ones-few.ensures in
    let n = first_few c.loop-left.left c.loop-left.place (c.args.from + c.args.count - c.loop-left.place) c.few_ones-few.result (omega (arith, c.loop-left-test.true)) (omega (arith, i.after, c.requires.few)) i.low e.set e.some in
    omega (arith, n.within, i.before, c.requires.within, c.well_formed)

pub put_run-at-requires-clause-within : goal.put_run-at-requires-clause-within
put_run-at-requires-clause-within g c =
    let i = c.loop-left.invariant in
    let e = c.few_ones-few.ensures in
    let n = first_few c.loop-left.left c.loop-left.place (c.args.from + c.args.count - c.loop-left.place) c.few_ones-few.result (omega (arith, c.loop-left-test.true)) (omega (arith, i.after, c.requires.few)) i.low e.set e.some in
    omega (arith, n.within, i.before, c.requires.within)

pub put_run-at-requires-clause-eight : goal.put_run-at-requires-clause-eight
put_run-at-requires-clause-eight g c = λ yes.
    let i = c.loop-left.invariant in
    let e = c.few_ones-few.ensures in
    let n = first_few c.loop-left.left c.loop-left.place (c.args.from + c.args.count - c.loop-left.place) c.few_ones-few.result (omega (arith, c.loop-left-test.true)) (omega (arith, i.after, c.requires.few)) i.low e.set e.some in
    omega (arith, n.within, i.before, c.requires.more yes)

pub overflow_add-place-in-loop-left-2 : goal.overflow_add-place-in-loop-left-2
overflow_add-place-in-loop-left-2 g c =
    let i = c.loop-left.invariant in
    let e = c.few_ones-few.ensures in
    let n = first_few c.loop-left.left c.loop-left.place (c.args.from + c.args.count - c.loop-left.place) c.few_ones-few.result (omega (arith, c.loop-left-test.true)) (omega (arith, i.after, c.requires.few)) i.low e.set e.some in
    omega (arith, n.within, i.before, c.requires.within, c.well_formed)

pub loop-left-smaller : goal.loop-left-smaller
loop-left-smaller g c =
    let i = c.loop-left.invariant in
    let e = c.few_ones-few.ensures in
    let n = first_few c.loop-left.left c.loop-left.place (c.args.from + c.args.count - c.loop-left.place) c.few_ones-few.result (omega (arith, c.loop-left-test.true)) (omega (arith, i.after, c.requires.few)) i.low e.set e.some in
    omega (arith, n.some, n.within, i.before)

pub loop-left-preserved : goal.loop-left-preserved
loop-left-preserved g c =
    let i = c.loop-left.invariant in
    let e = c.few_ones-few.ensures in
    let r = c.put_run-at in
    let p = physical_view g.P.ParquetNativeType.physical in
    let w = g.P.PlainNumber.byte_count in
    let f : g.row.T.Denot → Value = λ x. number (g.T.StoredAs.stored_number x) in
    let stored = at_place (map f c.args.values.now) in
    let all = map stored (picked c.args.bits c.args.from c.args.count) in
    let left = c.loop-left.left in
    let place = c.loop-left.place in
    let k = c.args.from + c.args.count - place in
    let gap = trailing_zeros w64 left in
    let few = c.few_ones-few.result in
    let n = first_few left place k few (omega (arith, c.loop-left-test.true)) (omega (arith, i.after, c.requires.few)) i.low e.set e.some in
    let rest : k - (gap + few) ≡ c.args.from + c.args.count - (place + (gap + few)) = omega arith in
    record {
      after = omega (arith, i.after);
      before = omega (arith, n.within, i.before);
      low = subst (λ (j : ℕ). left / 2 ^ gap / 2 ^ few < 2 ^ j) rest n.low;
      room = rw r.ensures.len (subst (λ (j : ℕ). r.result + (j + 8) * w ≤ length c.loop-left.places) rest (run_room c.loop-left.at 8 k gap few w r.result (length c.loop-left.places) n.within r.ensures.at i.room));
      len = r.ensures.len ∙ i.len;
      row = subst (λ (j : ℕ). IsPartly p [] (take r.result r.new.places) all (map stored (picked (left / 2 ^ gap / 2 ^ few) (place + (gap + few)) j))) rest (partly_run p [] (take c.loop-left.at c.loop-left.places) (take r.result r.new.places) all stored left place k gap few i.row n r.ensures.are);
    }

pub returns-clause-are : goal.returns-clause-are
returns-clause-are g c =
    let f : g.row.T.Denot → Value = λ x. number (g.T.StoredAs.stored_number x) in
    let stored = at_place (map f c.args.values.now) in
    partly_all (physical_view g.P.ParquetNativeType.physical) [] (take c.loop-left.at c.loop-left.places) (map stored (picked c.args.bits c.args.from c.args.count)) stored c.loop-left.left c.loop-left.place (c.args.from + c.args.count - c.loop-left.place) c.loop-left.invariant.row c.loop-left-test.false
