use Rattle.std.proofs.Common.{◌≡◌, ◌≢◌, ◌∙◌, [], length, map, Some, is_some, ap, sym, subst, arith, true≢false}
use Rattle.std.proofs.lemmas.List.{length-map}
use Rattle.columns_core.specs.View.{field_view}
use Rattle.assembly.specs.Lanes.{lanes_of}
use Rattle.assembly.specs.Opened.{AreOpen, physical_in}
use Rattle.assembly.specs.Paths.{path_view}
use Rattle.assembly.proofs.Given.{giving}
use Rattle.assembly.proofs.Opens.{not_sound, not_read, not_as_many, opens_lanes, opened_giving}
use Rattle.assembly.proofs.open.column_iter_to_arrays.Goals as goal

pub returns-in-Err-clause-refused : goal.returns-in-Err-clause-refused
returns-in-Err-clause-refused g c = not_sound (field_view c.args.field) (map g.I.Pages.outcomes c.args.columns.items) (map physical_in c.args.types.items) c.args.chunk_size c.args.num_rows c.in-Err.error c.in-Err.ensures.err

pub returns-then-len-clause-refused : goal.returns-then-len-clause-refused
returns-then-len-clause-refused g c = not_as_many (field_view c.args.field) (map g.I.Pages.outcomes c.args.columns.items) (map physical_in c.args.types.items) c.args.chunk_size c.args.num_rows
    (λ p q.
    let e : length c.in-Ok.paths.items ≡ length c.args.columns.items = sym (length-map c.in-Ok.paths.items path_view) ∙ ap length c.in-Ok.ensures.ok.0 ∙ p ∙ length-map c.args.columns.items g.I.Pages.outcomes in
    omega (arith, e, c.if-len.true))

pub returns-then-len-2-clause-refused : goal.returns-then-len-2-clause-refused
returns-then-len-2-clause-refused g c = not_as_many (field_view c.args.field) (map g.I.Pages.outcomes c.args.columns.items) (map physical_in c.args.types.items) c.args.chunk_size c.args.num_rows
    (λ p q.
    let e : length c.args.types.items ≡ length c.args.columns.items = sym (length-map c.args.types.items physical_in) ∙ q ∙ length-map c.args.columns.items g.I.Pages.outcomes in
    omega (arith, e, c.if-len-2.true))

pub returns-in-Ok-open_columns-clause-ok : goal.returns-in-Ok-open_columns-clause-ok
returns-in-Ok-open_columns-clause-ok g c = λ o h.
    let f = field_view c.args.field in
    let outcomes = map g.I.Pages.outcomes c.args.columns.items in
    let physicals = map physical_in c.args.types.items in
    let some : c.args.chunk_size ≢ Some 0 = λ e. true≢false (sym (rw e at c.eq.ensures) ∙ c.if-eq.false) in
    let open_ : AreOpen c.args.chunk_size c.args.num_rows (lanes_of o) (map path_view c.in-Ok.paths.items) outcomes physicals =
    subst (λ ps. AreOpen c.args.chunk_size c.args.num_rows (lanes_of o) ps outcomes physicals) (sym c.in-Ok.ensures.ok.0) (opens_lanes o f outcomes physicals c.args.chunk_size c.args.num_rows h some) in
    giving o [] _ (record {
      opened = opened_giving o f outcomes physicals c.args.chunk_size c.args.num_rows h some c.requires;
      field = sym h.field;
      tables = [];
      made = tt;
      reading = c.in-Ok-open_columns.ensures.ok (lanes_of o) (rw (c.deref.ensures.value, c.deref-2.ensures.value) open_);
      left = omega (arith, h.rows_are);
    })

pub returns-clause-refused : goal.returns-clause-refused
returns-clause-refused g c = not_read (field_view c.args.field) (map g.I.Pages.outcomes c.args.columns.items) (map physical_in c.args.types.items) c.args.chunk_size c.args.num_rows c.in-Err-open_columns.error
    (rw (c.deref.ensures.value, c.deref-2.ensures.value, c.in-Ok.ensures.ok.0) at c.in-Err-open_columns.ensures.err)

pub invariant_of-result : goal.invariant_of-result
invariant_of-result g c = (c.requires, ap is_some c.in-Ok.ensures.ok.1)
