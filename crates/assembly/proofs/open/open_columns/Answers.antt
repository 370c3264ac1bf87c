use Rattle.std.proofs.Common.{◌≡◌, ◌∙◌, inl, inr, ◌+◌, ◌∷◌, [], suc, length, drop, get_or, reverse, ap, sym, subst, arith}
use Rattle.std.proofs.lemmas.List.{length-append, take_all}
use Rattle.assembly.specs.Lanes.{AreReading}
use Rattle.assembly.specs.Opened.{IsOpen, IsNotRead, physical_in}
use Rattle.assembly.specs.Paths.{path_view}
use Rattle.assembly.proofs.Opens.{picked, fault_at, last_is, rest_is, one_more, none_open}
use Rattle.assembly.proofs.open.open_columns.Goals as goal

pub columns-init : goal.columns-init
columns-init g c = record {
  few = omega arith;
  kept = sym (take_all (length c.args.columns.items) c.args.columns.items (omega arith));
  reading = λ xs h. rw c.in_ok-readers.ensures.items (none_open g.I.Pages.outcomes c.args.chunk_size c.args.num_rows xs c.args.paths.now c.args.columns.items c.args.types.now h);
}

pub columns-preserved : goal.columns-preserved
columns-preserved g c =
    let count : length c.columns.columns.items ≡ length c.pop.new.self.items + 1 = ap length c.in-Some.ensures.items ∙ length-append c.pop.new.self.items (c.in-Some.pages ∷ []) in
    let few = c.columns.invariant.few in
    let place : c.len-i.result ≡ length c.pop.new.self.items = omega arith in
    let path_is = subst (λ m. c.index-paths-i.result ≡ get_or c.args.paths.now m c.index-paths-i.result) place c.index-paths-i.is in
    let type_is = subst (λ m. c.index-types-i.result ≡ get_or c.args.types.now m c.index-types-i.result) place c.index-types-i.is in
    record {
      few = omega (arith, count, few);
      kept = rest_is c.args.columns.items c.columns.columns.items c.pop.new.self.items c.in-Some.pages c.columns.invariant.kept c.in-Some.ensures.items count;
      reading = λ xs h.
          let r = picked g.I.Pages.outcomes c.args.chunk_size c.args.num_rows xs c.args.paths.now c.args.columns.items c.args.types.now (length c.pop.new.self.items) c.index-paths-i.result c.in-Some.pages c.index-types-i.result
          h (omega (arith, count, few)) path_is (last_is c.args.columns.items c.columns.columns.items c.pop.new.self.items c.in-Some.pages c.columns.invariant.kept few c.in-Some.ensures.items count) type_is in
          let more : length c.columns.columns.items ≡ suc (length c.pop.new.self.items) = omega (arith, count) in
          rw c.in_ok-push-in-Ok.ensures.items
          (one_more (length c.pop.new.self.items) xs r.lane c.columns.readers.items c.in-Ok.reader r.at (subst (λ m. AreReading 0 (drop m xs) (reverse c.columns.readers.items) []) more (c.columns.invariant.reading xs h)) (c.in-Ok.ensures.ok r.lane (subst (λ y. IsOpen c.args.chunk_size c.args.num_rows r.lane (path_view c.index-paths-i.result) (g.I.Pages.outcomes c.in-Some.pages) (physical_in y)) c.index-types-i.is r.open_)));
    }

pub returns-in-Err-clause-err : goal.returns-in-Err-clause-err
returns-in-Err-clause-err g c =
    let count : length c.columns.columns.items ≡ length c.pop.new.self.items + 1 = ap length c.in-Some.ensures.items ∙ length-append c.pop.new.self.items (c.in-Some.pages ∷ []) in
    let few = c.columns.invariant.few in
    let place : c.len-i.result ≡ length c.pop.new.self.items = omega arith in
    let path_is = subst (λ m. c.index-paths-i.result ≡ get_or c.args.paths.now m c.index-paths-i.result) place c.index-paths-i.is in
    let type_is = subst (λ m. c.index-types-i.result ≡ get_or c.args.types.now m c.index-types-i.result) place c.index-types-i.is in
    elim c.in-Err.ensures.err [
      | inl m ↦ inl m
      | inr f ↦ inr (fault_at c.args.paths.now c.args.types.now (length c.pop.new.self.items) c.index-paths-i.result c.index-types-i.result c.in-Err.error (omega (arith, c.requires.columns, c.requires.types)) (omega (arith, count, few, c.requires.types)) path_is type_is (subst (λ y. IsNotRead (path_view c.index-paths-i.result) (physical_in y) c.in-Err.error) (sym c.index-types-i.is) f))
    ]

pub bounds-types-i : goal.bounds-types-i
bounds-types-i g c =
    let count : length c.columns.columns.items ≡ length c.pop.new.self.items + 1 = ap length c.in-Some.ensures.items ∙ length-append c.pop.new.self.items (c.in-Some.pages ∷ []) in
    let few = c.columns.invariant.few in
    let place : c.len-i.result ≡ length c.pop.new.self.items = omega arith in
    omega (arith, count, few, place, c.requires.types)

pub bounds-types-i-in-Some : goal.bounds-types-i-in-Some
bounds-types-i-in-Some g c =
    let count : length c.columns.columns.items ≡ length c.pop.new.self.items + 1 = ap length c.in-Some.ensures.items ∙ length-append c.pop.new.self.items (c.in-Some.pages ∷ []) in
    let few = c.columns.invariant.few in
    let place : c.len-i.result ≡ length c.pop.new.self.items = omega arith in
    omega (arith, count, few, place, c.requires.types)

pub offset_bounds-types-i : goal.offset_bounds-types-i
offset_bounds-types-i g c =
    let count : length c.columns.columns.items ≡ length c.pop.new.self.items + 1 = ap length c.in-Some.ensures.items ∙ length-append c.pop.new.self.items (c.in-Some.pages ∷ []) in
    let few = c.columns.invariant.few in
    let place : c.len-i.result ≡ length c.pop.new.self.items = omega arith in
    omega (arith, count, few, place, c.requires.types, c.well_formed)
