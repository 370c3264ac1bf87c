use Rattle.read_pieces.proofs.leaf.extend_leaf.Given as goal

abbrev pub ghosts-extend_in : goal.ghosts-extend_in
ghosts-extend_in g a = record { name = a.blank.name; parts = a.blank.parts }
