use Rattle.std.proofs.Common.{refl, sym, inr, subst, map, rules, SFits, w64, to_z-of_z}
use Rattle.std.proofs.lemmas.Result.{err_from_is_err_and}
use Rattle.pq_thrift.specs.Value.{Value, view, values_view, fields_view}
use Rattle.pq_metadata.specs.Footer.{GroupMeta, SpellsGroup}
use Rattle.pq_tree.specs.Views.{chunk_view}
use Rattle.pq_container.proofs.Eachs.{struct_is}
use Rattle.pq_tree.proofs.Describing.{none_described}
use Rattle.pq_container.proofs.Parts.{columns_none, columns_refused}
use Rattle.pq_container.proofs.chunks.group_from.Goals as goal

pub returns-in_err-columns-clause-refused : goal.returns-in_err-columns-clause-refused
returns-in_err-columns-clause-refused c =
    let p = err_from_is_err_and c.from_residual.result c.from_residual.ensures.1 in
    rw (p.1, p.2) (inr (refl, columns_none (view c.args.value.now) (fields_view c.in-Some.fields.now) c.in-Some.ensures c.in_err-columns.ensures.refused))

pub returns-in_err-columns-2-clause-refused : goal.returns-in_err-columns-2-clause-refused
returns-in_err-columns-2-clause-refused c =
    let p = err_from_is_err_and c.from_residual-in_err-columns-2.result c.from_residual-in_err-columns-2.ensures.1 in
    rw (p.1, p.2) (columns_refused _ _ (view c.args.value.now) (fields_view c.in-Some.fields.now) (values_view c.in_ok-columns.columns.now) c.in-Some.ensures c.in_ok-columns.ensures.found c.in_err-columns-2.ensures.refused)

pub returns-clause-found : goal.returns-clause-found
returns-clause-found c =
    let columns = c.in_ok-columns.ensures.found in
    let fits : SFits w64 c.in_ok-num_rows.num_rows = search rules in
    let group : GroupMeta = record { chunks = map chunk_view c.in_ok-columns-2.columns.items; num_rows = c.in_ok-num_rows.num_rows } in
    simp to_z-of_z
    (subst
    (λ (v : Value). SpellsGroup v group)
    (sym (struct_is (view c.args.value.now) (fields_view c.in-Some.fields.now) c.in-Some.ensures))
    record {
      kind = columns.0;
      columns = values_view c.in_ok-columns.columns.now;
      has_columns = columns.1;
      are = c.in_ok-columns-2.ensures.found;
      num_rows = c.in_ok-num_rows.ensures.found;
      total = (c.in_ok-_total_byte_size._total_byte_size, c.in_ok-_total_byte_size.ensures.found);
      offset = (c.in_ok-_file_offset._file_offset, c.in_ok-_file_offset.ensures.found);
      compressed = (c.in_ok-_total_compressed_size._total_compressed_size, c.in_ok-_total_compressed_size.ensures.found);
      ordinal = (c.in_ok-_ordinal._ordinal, c.in_ok-_ordinal.ensures.found);
    })

pub returns-clause-described : goal.returns-clause-described
returns-clause-described c = none_described c.in_ok-columns-2.columns.items c.in_ok-columns-2.ensures.bare
