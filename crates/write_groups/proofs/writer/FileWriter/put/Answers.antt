use Rattle.std.proofs.Common.{inr, List, sym, ap, subst, ◌∙◌, arith}
use Rattle.pq_tree.specs.Tree.{Schema, columns_of}
use Rattle.schema_to_tree.specs.Table.{schema_of}
use Rattle.write_file.specs.Pages.{AllGive}
use Rattle.write_groups.proofs.Written.{grouped, refused}
use Rattle.write_groups.specs.Given.{BeginsColumn}
use Rattle.write_groups.specs.Writing.{fields_in}
use Rattle.write_groups.specs.declared.column.ChunkColumn.{ChunkColumn}
use Rattle.write_groups.proofs.writer.FileWriter.put.Goals as goal

pub returns-in-Ok-clause-ok : goal.returns-in-Ok-clause-ok
returns-in-Ok-clause-ok g c = λ before groups h columns.
    let w = c.args.self.now in
    let k = grouped (fields_in w) c.args.row_group w.options.version c.paths_have_levels.ensures columns c.know.ensures (omega (arith, c.rows_in-rows.ensures, c.if-rows-eq0.false)) (c.requires.trees ∙ ap (λ (s : Schema). s.fields) h.has.schema) c.requires.version in
    let give = subst (λ (ss : List ChunkColumn). AllGive BeginsColumn w.options.version (columns_of (schema_of (fields_in w))) k.out.chunks ss) (sym c.columns_in-columns.ensures) k.give in
    inr (k.out, k.is, c.in-Ok.ensures.ok before _ groups k.out h give k.has (k.is.rows ∙ sym c.rows_in-rows.ensures))

pub returns-in-Err-clause-refused : goal.returns-in-Err-clause-refused
returns-in-Err-clause-refused g c = λ before groups h columns.
    let w = c.args.self.now in
    let k = grouped (fields_in w) c.args.row_group w.options.version c.paths_have_levels.ensures columns c.know.ensures (omega (arith, c.rows_in-rows.ensures, c.if-rows-eq0.false)) (c.requires.trees ∙ ap (λ (s : Schema). s.fields) h.has.schema) c.requires.version in
    let give = subst (λ (ss : List ChunkColumn). AllGive BeginsColumn w.options.version (columns_of (schema_of (fields_in w))) k.out.chunks ss) (sym c.columns_in-columns.ensures) k.give in
    refused g.W.Sink.faults groups c.args.row_group w (record w { file = c.put.new.self }) k.out c.in-Err.error _ c.columns_in-columns.ensures k.is (c.in-Err.ensures.refused before _ groups k.out h give (k.is.rows ∙ sym c.rows_in-rows.ensures))
