use Rattle.pq_headline.proofs.laws.refused_is_not_valid.Goals as goal

pub returns : goal.returns
returns c = λ codec asked bytes e r v. v.2 e r
