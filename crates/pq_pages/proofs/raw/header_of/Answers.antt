use Rattle.pq_pages.proofs.HeaderReads.{reads}
use Rattle.pq_pages.proofs.raw.header_of.Goals as goal

pub returns-clause-reads : goal.returns-clause-reads
returns-clause-reads c =
    let e = c.read_page_header.ensures in
    reads c.args.bytes.now c.read_page_header.result (record { within = e.within; is = e.found; none = e.none; other_type = e.other_type; refused = e.refused })
