use Rattle.pq_thrift.proofs.Whole.{is_found, is_read, is_deep, is_refused, is_outside, is_out, can_write}
use Rattle.pq_thrift.proofs.reading.read_thrift.Goals as goal

pub returns-clause-ok : goal.returns-clause-ok
returns-clause-ok c = is_found c.args.bytes.now c.take_thrift.result c.take_thrift.ensures.within c.take_thrift.ensures.gives

pub returns-clause-complete : goal.returns-clause-complete
returns-clause-complete c = is_read c.args.bytes.now c.take_thrift.result c.take_thrift.ensures.gives

pub returns-clause-only_deep : goal.returns-clause-only_deep
returns-clause-only_deep c = is_deep c.args.bytes.now c.take_thrift.result c.take_thrift.ensures.gives

pub returns-clause-deep : goal.returns-clause-deep
returns-clause-deep c = is_refused c.args.bytes.now c.take_thrift.result c.take_thrift.ensures.gives

pub returns-clause-only_outside : goal.returns-clause-only_outside
returns-clause-only_outside c = is_outside c.args.bytes.now c.take_thrift.result c.take_thrift.ensures.gives

pub returns-clause-outside : goal.returns-clause-outside
returns-clause-outside c = is_out c.args.bytes.now c.take_thrift.result c.take_thrift.ensures.gives

pub returns-clause-writable : goal.returns-clause-writable
returns-clause-writable c = can_write c.args.bytes.now c.take_thrift.result (is_found c.args.bytes.now c.take_thrift.result c.take_thrift.ensures.within c.take_thrift.ensures.gives)
