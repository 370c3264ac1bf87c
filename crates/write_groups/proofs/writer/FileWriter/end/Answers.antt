use Rattle.write_groups.proofs.Accepted.{all_laid}
use Rattle.write_groups.specs.Writing.{fields_in}
use Rattle.write_groups.proofs.writer.FileWriter.end.Goals as goal

pub returns-in-Ok-clause-ok : goal.returns-in-Ok-clause-ok
returns-in-Ok-clause-ok g c = λ before groups h. (c.in-Ok.ensures.ok before _ groups h).whole

pub returns-in-Ok-clause-packed : goal.returns-in-Ok-clause-packed
returns-in-Ok-clause-packed g c = λ before chunks h.
    record { groups = h.groups; file = (c.in-Ok.ensures.ok before _ h.groups h.writing).whole; laid = all_laid c.groups_are_laid.ensures (fields_in c.args.self.now) chunks h.groups h.are }

pub returns-in-Ok-clause-stated : goal.returns-in-Ok-clause-stated
returns-in-Ok-clause-stated g c = λ before groups h. rw c.in-Ok.ensures.schema (c.in-Ok.ensures.ok before _ groups h)

pub returns-in-Err-clause-refused : goal.returns-in-Err-clause-refused
returns-in-Err-clause-refused g c = λ before groups h. c.in-Err.ensures.refused before _ groups h
