use Rattle.std.proofs.Common.{◌≡◌, ◌++◌, refl, rules}
use Rattle.pq_thrift.specs.Value.{view}
use Rattle.pq_thrift.specs.Spelling.{spell}
use Rattle.pq_thrift.proofs.Spelled.{is_spelled}
use Rattle.pq_thrift.proofs.writing.write_thrift.Goals as goal

pub returns-clause-written : goal.returns-clause-written
returns-clause-written c =
    let v = view c.args.value.now in
    let exact : c.extend_from_slice.new.self.items ≡ c.args.out.now.items ++ spell v = search rules in
    (spell v, record { exact = refl; spells = is_spelled v c.requires.is_struct c.requires.writable c.in_ok-push_value.ensures.fits }, exact)
