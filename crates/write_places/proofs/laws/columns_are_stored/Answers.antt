use Rattle.write_places.proofs.StoredColumns as lemma
use Rattle.write_places.proofs.laws.columns_are_stored.Goals as goal

pub returns : goal.returns
returns c = lemma.columns_are_stored
