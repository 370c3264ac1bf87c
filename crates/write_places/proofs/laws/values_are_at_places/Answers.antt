use Rattle.write_places.proofs.Values as lemma
use Rattle.write_places.proofs.laws.values_are_at_places.Goals as goal

pub returns : goal.returns
returns c = lemma.values_are_at_places
