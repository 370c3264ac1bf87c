use Rattle.pq_thrift.proofs.OneReading.{same_reading}
use Rattle.pq_thrift.proofs.laws.one_reading.Goals as goal

pub returns : goal.returns
returns c = same_reading
