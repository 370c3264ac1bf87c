use Rattle.std.proofs.Common.{inr, rules}
use Rattle.write_groups.proofs.Accepted.{accepted}
use Rattle.write_groups.proofs.writer.FileWriter.write.Goals as goal

pub returns-in-Ok-clause-accepts : goal.returns-in-Ok-clause-accepts
returns-in-Ok-clause-accepts g c = λ before chunks h columns.
    accepted g.W.Sink.taken before c.args.self.now c.put.new.self chunks c.args.row_group h (search rules) c.know.ensures columns c.in-Ok.ensures.schema (c.in-Ok.ensures.ok before h.groups h.writing columns)

pub returns-in-Err-clause-refused : goal.returns-in-Err-clause-refused
returns-in-Err-clause-refused g c = λ before groups h columns. inr (c.in-Err.ensures.refused before groups h columns)
