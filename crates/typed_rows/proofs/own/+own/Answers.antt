use Rattle.std.proofs.Common.{◌+◌, ◌<◌, Bool, length, sym, subst, ap, ◌∙◌, refl, arith}
use Rattle.std.proofs.lemmas.Bool.{false≢true}
use Rattle.columns_slots.specs.Slots.{entry_at}
use Rattle.columns_array.specs.Boxed.{boxed}
use Rattle.columns_core.specs.declared.types.Field.{Field}
use Rattle.typed_rows.specs.Own.{AreOwn}
use Rattle.typed_rows.proofs.Walk.{entry_one, own_more, front, same_number, typed_step, long_step, rows_more, rows_first, rows_rest, no_rows, size_at, nulls_own, none_own, own_none, misses, run_more}
use Rattle.typed_rows.proofs.own.+own.Goals as goal

pub entries_are_own-returns-then-not-are_own : goal.entries_are_own-returns-then-not-are_own
entries_are_own-returns-then-not-are_own t c =
    let a = c.args.keyed.now in
    let i = c.loop-i.i in
    let one = entry_one a c.args.is_nullable i c.entry.result (boxed c.values.result.now) c.know.ensures.sound c.know.ensures.parts (c.requires.kept i (omega arith) (omega (arith, c.loop-i-test.true))) c.values.ensures (c.entry.ensures ∙ ap (λ ks. entry_at ks i) c.keys.ensures.keys) in
    (λ h. absurd (false≢true h), λ h. c.if-not-are_own.ensures.1 (one.1 (h i (omega arith) (omega (arith, c.loop-i-test.true)))))

pub entries_are_own-loop-i-preserved : goal.entries_are_own-loop-i-preserved
entries_are_own-loop-i-preserved t c =
    let a = c.args.keyed.now in
    let i = c.loop-i.i in
    let one = entry_one a c.args.is_nullable i c.entry.result (boxed c.values.result.now) c.know.ensures.sound c.know.ensures.parts (c.requires.kept i (omega arith) (omega (arith, c.loop-i-test.true))) c.values.ensures (c.entry.ensures ∙ ap (λ ks. entry_at ks i) c.keys.ensures.keys) in
    own_more a c.args.is_nullable c.args.from i (omega arith) c.loop-i.invariant (one.0 (c.if-not-are_own.ensures.0 refl))

pub fields_are_own-are_own-requires : goal.fields_are_own-are_own-requires
fields_are_own-are_own-requires t c =
    let k = c.fields.k in
    let fs = c.args.fields.now in
    let xs = c.args.arrays.now in
    let h : k < length xs = c.fields-test.true in
    let lx = front xs k c.index-arrays-k.result h c.index-arrays-k.is in
    let lf = front fs k c.index-fields-k.result (omega (arith, h, same_number fs xs c.requires.typed)) c.index-fields-k.is in
    let small = size_at xs k c.index-arrays-k.result h c.index-arrays-k.is in
    (omega (arith, c.decreases, small), (long_step fs xs k c.index-fields-k.result c.index-arrays-k.result lf lx (c.args.from + c.args.count) c.fields.invariant.long).0)

pub fields_are_own-returns-then-not-are_own : goal.fields_are_own-returns-then-not-are_own
fields_are_own-returns-then-not-are_own t c =
    let k = c.fields.k in
    let fs = c.args.fields.now in
    let xs = c.args.arrays.now in
    let h : k < length xs = c.fields-test.true in
    let lx = front xs k c.index-arrays-k.result h c.index-arrays-k.is in
    let lf = front fs k c.index-fields-k.result (omega (arith, h, same_number fs xs c.requires.typed)) c.index-fields-k.is in
    let typed = typed_step fs xs k c.index-fields-k.result c.index-arrays-k.result lf lx c.fields.invariant.typed in
    (λ e. absurd (false≢true e), λ o. c.if-not-are_own.ensures.1 (subst (λ (b : Bool). AreOwn b (boxed c.index-arrays-k.result) c.args.from c.args.count) (ap (λ (f : Field). f.is_nullable) c.index-fields-k.is) (rows_first fs xs k c.index-fields-k.result c.index-arrays-k.result lf lx c.args.from c.args.count typed.0 (c.fields.invariant.needed o))))

pub fields_are_own-fields-preserved : goal.fields_are_own-fields-preserved
fields_are_own-fields-preserved t c =
    let k = c.fields.k in
    let fs = c.args.fields.now in
    let xs = c.args.arrays.now in
    let h : k < length xs = c.fields-test.true in
    let lx = front xs k c.index-arrays-k.result h c.index-arrays-k.is in
    let lf = front fs k c.index-fields-k.result (omega (arith, h, same_number fs xs c.requires.typed)) c.index-fields-k.is in
    let typed = typed_step fs xs k c.index-fields-k.result c.index-arrays-k.result lf lx c.fields.invariant.typed in
    record {
      enough = λ o. c.fields.invariant.enough (rows_more fs xs k c.index-fields-k.result c.index-arrays-k.result lf lx c.args.from c.args.count typed.0 (subst (λ (b : Bool). AreOwn b (boxed c.index-arrays-k.result) c.args.from c.args.count) (sym (ap (λ (f : Field). f.is_nullable) c.index-fields-k.is)) (c.if-not-are_own.ensures.0 refl)) o);
      needed = λ o. rows_rest fs xs k c.index-fields-k.result c.index-arrays-k.result lf lx c.args.from c.args.count typed.0 (c.fields.invariant.needed o);
      typed = typed.1;
      long = (long_step fs xs k c.index-fields-k.result c.index-arrays-k.result lf lx (c.args.from + c.args.count) c.fields.invariant.long).1;
    }

pub fields_are_own-returns : goal.fields_are_own-returns
fields_are_own-returns t c = (λ e. c.fields.invariant.enough (no_rows c.args.fields.now c.args.arrays.now c.fields.k c.args.from c.args.count (omega (arith, c.fields-test.false)) (same_number c.args.fields.now c.args.arrays.now c.requires.typed)), λ o. refl)

pub kept_are_own-returns-then-is_nullable : goal.kept_are_own-returns-then-is_nullable
kept_are_own-returns-then-is_nullable t c = (λ h. nulls_own (boxed c.args.array.now) c.args.is_nullable c.args.from c.args.count c.in-Nulls.ensures h, λ o. c.if-is_nullable.true)

pub kept_are_own-returns-else-is_nullable : goal.kept_are_own-returns-else-is_nullable
kept_are_own-returns-else-is_nullable t c = (
  λ h. none_own (boxed c.args.array.now) c.args.is_nullable c.args.from c.args.count h,
  λ o. own_none (boxed c.args.array.now) c.args.is_nullable c.args.from c.args.count c.in-Nulls.ensures c.if-is_nullable.false o,
)

pub kept_are_own-returns-in-Items : goal.kept_are_own-returns-in-Items
kept_are_own-returns-in-Items t c =
    let held = c.in-Items.ensures.2 c.args.is_nullable in
    (λ h. held.0 (c.are_own.ensures.0 h), λ o. c.are_own.ensures.1 (held.1 o))

pub kept_are_own-returns-in-Fields : goal.kept_are_own-returns-in-Fields
kept_are_own-returns-in-Fields t c =
    let held = c.in-Fields.ensures.3 c.args.is_nullable in
    (λ h. held.0 (c.fields_are_own.ensures.0 h), λ o. c.fields_are_own.ensures.1 (held.1 o))

pub masked_are_own-returns-then-not-is_nullable : goal.masked_are_own-returns-then-not-is_nullable
masked_are_own-returns-then-not-is_nullable t c =
    let r = c.run_end-kept.ensures in
    (λ h. absurd (false≢true h), λ o. misses (boxed c.args.array.now) c.args.mask.now c.args.is_nullable c.args.from c.args.count c.loop-at.at c.run_end-kept.result c.know.ensures c.requires.mask c.requires.within c.loop-at.invariant.begins r.after r.within r.alike (omega (arith, c.if-kept-at.true)) c.if-not-is_nullable.true o)

pub masked_are_own-loop-at-preserved : goal.masked_are_own-loop-at-preserved
masked_are_own-loop-at-preserved t c =
    let r = c.run_end-kept.ensures in
    let q = c.run_end-next.ensures in
    let a = boxed c.args.array.now in
    record {
      begins = omega (arith, c.loop-at.invariant.begins, r.after, q.after);
      within = omega (arith, q.within);
      own = run_more a c.args.mask.now c.args.is_nullable c.args.from c.args.count c.loop-at.at c.run_end-kept.result c.know.ensures c.requires.mask c.requires.within c.loop-at.invariant.begins r.after r.within r.alike c.run_end-next.result q.after c.else-kept-at.either c.loop-at.invariant.own (c.if-not-kept_are_own.ensures.0 refl);
    }
