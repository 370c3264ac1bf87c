use Rattle.std.proofs.Common.{◌<◌, List, subst}
use Rattle.footer_write.specs.FooterView.{footer_view}
use Rattle.pq_files.specs.Room.{max_size, footer_room, planned_footer}
use Rattle.pq_tree.specs.Footers.{Key}
use Rattle.schema_to_tree.specs.Table.{schema_of}
use Rattle.write_file.specs.Files.{HasFileStating}
use Rattle.schema_file.proofs.Ended.{pairs_are, end_refused}
use Rattle.schema_file.specs.Writing.{fields_in}
use Rattle.schema_file.proofs.file.SchemaFile.put_footer.Goals as goal

pub returns-in-Ok-write_footer-clause-ok : goal.returns-in-Ok-write_footer-clause-ok
returns-in-Ok-write_footer-clause-ok g c = λ before version groups h.
    subst (λ (ks : List Key). HasFileStating before (g.W.Sink.taken c.write_footer.new.self.writer) (schema_of (fields_in c.args.self.now)) ks version groups c.in-Ok-write_footer.size (footer_view c.write_footer.new.self.metadata)) (pairs_are c.in-Ok.keys _ c.in-Ok.ensures.ok)
    (c.in-Ok-write_footer.ensures.ok before (schema_of (fields_in c.args.self.now)) version groups h.has h.told)

pub returns-in-Err-write_footer-clause-refused : goal.returns-in-Err-write_footer-clause-refused
returns-in-Err-write_footer-clause-refused g c = λ before version groups h.
    end_refused c.in-Err-write_footer.error c.in-Err-write_footer.ensures.refused c.in-Err-write_footer.ensures.fault
    (λ p. subst (λ (ks : List Key). max_size < footer_room (planned_footer (schema_of (fields_in c.args.self.now)) ks groups)) (pairs_are c.in-Ok.keys _ c.in-Ok.ensures.ok) (p before (schema_of (fields_in c.args.self.now)) version groups h.has h.fits))
