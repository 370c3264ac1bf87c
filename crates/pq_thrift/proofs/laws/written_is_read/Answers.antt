use Rattle.pq_thrift.proofs.OneReading.{is_read_again}
use Rattle.pq_thrift.proofs.laws.written_is_read.Goals as goal

pub returns : goal.returns
returns c = is_read_again
