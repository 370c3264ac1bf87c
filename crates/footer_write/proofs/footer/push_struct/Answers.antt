use Rattle.footer_write.proofs.Nodes.{both_ok, on_ok}
use Rattle.footer_write.proofs.footer.push_struct.Goals as goal

pub returns-clause-ok : goal.returns-clause-ok
returns-clause-ok c = on_ok c.write_thrift.result (λ e. record { spelled = e.0; fits = e.1 }) (both_ok _ _ c.write_thrift.result c.write_thrift.ensures.exact c.write_thrift.ensures.fits)
