use Rattle.pq_tree.specs.Views.{page_header_view}
use Rattle.pq_container.proofs.Fronts.{stands_alone, of_known_type}
use Rattle.pq_container.proofs.headers.read_page_header.Goals as goal

pub returns-in-Some-clause-other_type : goal.returns-in-Some-clause-other_type
returns-in-Some-clause-other_type c = of_known_type c.args.bytes.now c.in-Some.read.1 (page_header_view c.in-Some.read.0) c.in-Some.ensures.found

pub returns-in-Some-clause-refused : goal.returns-in-Some-clause-refused
returns-in-Some-clause-refused c = λ n. stands_alone c.args.bytes.now c.in-Some.read.1 (page_header_view c.in-Some.read.0) c.in-Some.ensures.found n.0
