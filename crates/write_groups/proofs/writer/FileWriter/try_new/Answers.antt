use Rattle.std.proofs.Common.{[], refl}
use Rattle.write_groups.proofs.writer.FileWriter.try_new.Goals as goal

pub returns-in-Ok-clause-accepts : goal.returns-in-Ok-clause-accepts
returns-in-Ok-clause-accepts g c = record { groups = []; writing = c.in-Ok.ensures.ok; are = refl }
