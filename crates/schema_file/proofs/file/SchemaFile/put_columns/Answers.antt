use Rattle.std.proofs.Common.{◌≡◌, ◌∙◌, length, arith}
use Rattle.std.proofs.lemmas.Bool.{false≢true}
use Rattle.pq_tree.specs.Tree.{columns_of}
use Rattle.schema_to_tree.specs.Table.{schema_of}
use Rattle.write_file.specs.Pages.{SomeRefuses}
use Rattle.schema_file.proofs.Ended.{give_lengths, group_refused, metas_are}
use Rattle.schema_file.specs.Writing.{fields_in}
use Rattle.schema_file.proofs.file.SchemaFile.put_columns.Goals as goal

pub returns-in-Err-clause-refused : goal.returns-in-Err-clause-refused
returns-in-Err-clause-refused g c = λ before version groups k h gives rows.
    group_refused (SomeRefuses g.P.ChunkPages.refuses c.args.columns.items) c.in-Err.error c.in-Err.ensures.refused c.in-Err.ensures.fault
    (λ p. p before (schema_of (fields_in c.args.self.now)) version groups k h.has gives rows)

pub returns-then-not-are_so_many-clause-refused : goal.returns-then-not-are_so_many-clause-refused
returns-then-not-are_so_many-clause-refused g c = λ before version groups k h gives rows.
    let count : length c.args.columns.items ≡ c.len.result = omega (arith, c.len.ensures, c.args.columns.ok.0) in
    let same = metas_are (columns_of (schema_of (fields_in c.args.self.now))) c.args.self.now.body.leaves _ h.has.leaves (give_lengths g.P.ChunkPages.begins version _ k.chunks c.args.columns.items gives) in
    absurd (false≢true (c.if-not-are_so_many.ensures.1 (same.0 ∙ count, same.1 ∙ count)))
