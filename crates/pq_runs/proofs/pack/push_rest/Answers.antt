use Rattle.pq_runs.proofs.Packs.{rest_fits, rest_is}
use Rattle.pq_runs.proofs.pack.push_rest.Goals as goal

pub push_whole_bytes-requires : goal.push_whole_bytes-requires
push_whole_bytes-requires c = rest_fits c.args.bits c.args.held c.requires.small

pub returns-clause-ok : goal.returns-clause-ok
returns-clause-ok c =
    let e = c.in_ok-push_whole_bytes.ensures.ok in
    let r = rest_is c.args.bits c.args.held c.in_ok-push_whole_bytes.field-0 e.0 e.2 in
    (e.0, e.1, r.0, r.1)
