use Rattle.std.proofs.Common.{subst}
use Rattle.std.specs.Prelude.{IsUtf8}
use Rattle.footer_write.proofs.ReadFooter.{schema_is_told}
use Rattle.footer_write.proofs.laws.elements_tell_of_schema.Goals as goal

pub returns : goal.returns
returns c = schema_is_told c.args.schema.now (subst IsUtf8 c.name-name.ensures c.name-name.utf8) c.requires
